use Rattle.std.proofs.Common.{◌≡◌, Some, None, ap, ◌∙◌}
use Rattle.grain_value.specs.declared.values.Dynamic.{Dynamic}
use Rattle.grain_program.specs.View.{name_of}
use Rattle.grain_means.specs.Walks
use Rattle.grain_chain.specs.Standings.{Stands}
use Rattle.grain_chain.specs.MethodSteps.{called_method}
use Rattle.grain_chain.specs.declared.requests.What.{What}
use Rattle.grain_chain.specs.declared.requests.What.TheVariants as what
use Rattle.grain_chain.proofs.MethodSteps.{if_ok_then}
use Rattle.grain_chain.proofs.Named.{same_target}
use Rattle.grain_chain.proofs.walks.Walk.called_method.Goals as goal

pub returns-in_ok-copy-in-Some-clause-is : goal.returns-in_ok-copy-in-Some-clause-is
returns-in_ok-copy-in-Some-clause-is c = λ v stands.
    let p = c.args.context.program.now in
    let s = c.args.step in
    let t = c.target-target.result.now in
    let name = name_of p s.name in
    let found : Some c.in-Some.pointer.now ≡ Walks.own_pointer name t =
    c.in-Some.ensures ∙ ap (λ n. Walks.own_pointer n t) c.name_at-name.ensures in
    ap what.Pointer c.in_ok-copy-in-Some.ensures ∙ ap (called_method p s.name s.argc t) found
    ∙ ap (λ (d : Dynamic). called_method p s.name s.argc d (Walks.own_pointer name d))
    (same_target c.args.self.now.trail t v c.target-target.ensures stands)

pub returns-in-None-clause-is : goal.returns-in-None-clause-is
returns-in-None-clause-is c =
    let p = c.args.context.program.now in
    let s = c.args.step in
    let t = c.target-target.result.now in
    let name = name_of p s.name in
    let none : None ≡ Walks.own_pointer name t =
    c.in-None.ensures ∙ ap (λ n. Walks.own_pointer n t) c.name_at-name.ensures in
    if_ok_then c.typed_method.result _
    (λ (q : What). (v : Dynamic) → Stands c.args.self.now.trail v →
    q ≡ called_method p s.name s.argc v (Walks.own_pointer name v))
    (λ (q : What) is v stands.
    is ∙ ap (called_method p s.name s.argc t) none
    ∙ ap (λ (d : Dynamic). called_method p s.name s.argc d (Walks.own_pointer name d))
    (same_target c.args.self.now.trail t v c.target-target.ensures stands)) c.typed_method.ensures.is
