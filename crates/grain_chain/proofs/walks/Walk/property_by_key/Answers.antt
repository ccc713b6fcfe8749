use Rattle.std.proofs.Common.{◌++◌, ◌∷◌, [], ℕ, List, Some, None, Ok, sym, ap, ◌∙◌, subst}
use Rattle.grain_value.specs.View.{tree}
use Rattle.grain_value.specs.declared.values.Dynamic.{Dynamic}
use Rattle.grain_value.specs.declared.values.Dynamic.TheVariants as dynamic
use Rattle.grain_program.specs.View.{name_of}
use Rattle.grain_means.specs.Walks
use Rattle.grain_chain.specs.Walking.{place_of, role_in}
use Rattle.grain_chain.specs.Going.{Takes, rest, setting, next_step, with_value}
use Rattle.grain_chain.specs.declared.walks.Walk.{Walk}
use Rattle.grain_chain.proofs.Strides.{marked}
use Rattle.grain_chain.proofs.Roots.{dives}
use Rattle.grain_chain.specs.Standings.{Stands}
use Rattle.grain_chain.proofs.Named.{property_takes, at_there, at_missing, leads_there, is_map}
use Rattle.grain_value.specs.Paths.{Leads}
use Rattle.grain_value.specs.declared.values.paths.PathStep.TheVariants as path_step
use Rattle.grain_chain.specs.Going.{deep}
use Rattle.grain_chain.proofs.walks.Walk.property_by_key.Goals as goal

pub deeper-requires : goal.deeper-requires
deeper-requires c =
    let w = c.args.self.now in
    let k = name_of c.args.context.program.now c.args.name in
    let same = c.in_ok-key.ensures in
    let has = c.requires.1.1 ∙ ap Some c.if-is_there.true in
    subst (λ (u : Walk). Leads (u.trail.path ++ path_step.Key c.in_ok-key.key ∷ []) (tree u.trail.here.value))
    (sym c.in_ok-pass_mark.ensures.passed)
    (subst (λ (n : List ℕ). Leads (w.trail.path ++ path_step.Key n ∷ []) (tree w.trail.here.value))
    (sym same) (leads_there w.trail.path w.trail.here.value c.requires.0 k c.requires.1.0 has))

pub returns-then-is_there-clause-takes : goal.returns-then-is_there-clause-takes
returns-then-is_there-clause-takes c = λ getter setter.
    let w = c.args.self.now in
    let x = c.args.context in
    let k = name_of x.program.now c.args.name in
    let same = c.in_ok-key.ensures in
    property_takes x w c.deeper.new.self c.args.role c.args.name getter setter c.args.pos c.requires.0
    (Ok None) c.requires.1.0
    (at_there x (marked w) c.deeper.new.self c.args.role c.args.name getter setter c.args.pos
    c.requires.0 (Ok None) (c.requires.1.1 ∙ ap Some c.if-is_there.true)
    (dives x (marked w) c.deeper.new.self (path_step.Key k)
    (c.in_ok-deeper.ensures.deeper
    ∙ ap (λ (u : Walk). deep u (path_step.Key c.in_ok-key.key)) c.in_ok-pass_mark.ensures.passed
    ∙ ap (λ (n : List ℕ). deep (marked w) (path_step.Key n)) same)))

pub missing_key-requires : goal.missing_key-requires
missing_key-requires c =
    let got = is_map c.requires.0 (name_of c.args.context.program.now c.args.name) c.args.is_there
    c.requires.1.1 in (
      got.0,
      subst (λ (u : Walk). Stands u.trail (dynamic.Map got.0)) (sym c.in_ok-pass_mark.ensures.passed)
          (subst (λ (d : Dynamic). Stands c.args.self.now.trail d) got.1 c.requires.1.0),
    )

pub returns-clause-takes : goal.returns-clause-takes
returns-clause-takes c = λ getter setter.
    let w = c.args.self.now in
    let x = c.args.context in
    let t = c.requires.0 in
    let k = name_of x.program.now c.args.name in
    let same = c.in_ok-key.ensures in
    let stands = subst (λ (u : Walk). Stands u.trail t)
    (sym c.in_ok-pass_mark.ensures.passed) c.requires.1.0 in
    property_takes x w c.missing_key.new.self c.args.role c.args.name getter setter c.args.pos t
    c.missing_key.result c.requires.1.0
    (at_missing x (marked w) c.missing_key.new.self c.args.role c.args.name getter setter c.args.pos
    t c.missing_key.result (c.requires.1.1 ∙ ap Some c.if-is_there.false)
    (subst (λ (n : List ℕ). Takes x (marked w) (Walks.missing_key (setting x (marked w)) w.step
    c.args.pos Walks.OfNothing (role_in c.args.role w.value) n (with_value w t)
    (next_step x (marked w)) (place_of w) (rest x (marked w))) c.missing_key.result
    c.missing_key.new.self) same
    (subst (λ (u : Walk). Takes x u (Walks.missing_key (setting x u) u.step c.args.pos Walks.OfNothing
    (role_in c.args.role u.value) c.in_ok-key.key (with_value u t) (next_step x u) (place_of u)
    (rest x u)) c.missing_key.result c.missing_key.new.self) c.in_ok-pass_mark.ensures.passed
    (c.missing_key.ensures.takes t stands))))
