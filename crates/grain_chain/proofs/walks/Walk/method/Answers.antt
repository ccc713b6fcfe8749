use Rattle.std.proofs.Common.{Bool, sym, ap, ◌∙◌, subst, arith}
use Rattle.std.specs.Prelude.{is_some}
use Rattle.grain_value.specs.declared.values.Dynamic.TheVariants as dynamic
use Rattle.grain_means.specs.Walks
use Rattle.grain_chain.specs.Going.{Takes, rest}
use Rattle.grain_chain.specs.MethodSteps.{gave_task, kind_named}
use Rattle.grain_chain.specs.declared.methods.MethodKind.TheVariants as kind
use Rattle.grain_chain.proofs.MethodSteps.{method_begins}
use Rattle.grain_chain.proofs.Stepping.{needs_or_more}
use Rattle.grain_chain.proofs.walks.Walk.method.Goals as goal

pub returns-in-IsShared-clause-takes : goal.returns-in-IsShared-clause-takes
returns-in-IsShared-clause-takes c =
    let w = c.args.self.now in
    let x = c.args.context in
    let s = c.args.step in
    method_begins x w s c.give.new.self c.target.result.now kind.IsShared c.give.result
    c.target.ensures
    (sym c.in-IsShared.is ∙ c.method_kind-kind.ensures
    ∙ ap (λ n. kind_named n s.argc) c.name_at.ensures)
    (subst (λ (b : Bool). Takes x w (Walks.at_mark w.step (rest x w)
    (gave_task x w s (dynamic.Bool b))) c.give.result c.give.new.self)
    (c.is_some-shared.ensures ∙ ap is_some c.as_cell.ensures) c.give.ensures.takes)

pub returns-in-IsShared-clause-needs : goal.returns-in-IsShared-clause-needs
returns-in-IsShared-clause-needs c =
    needs_or_more c.args.context.program.now c.give.new.self c.give.result _ _ c.give.ensures.needs
    (omega arith)

pub returns-in-Call-clause-takes : goal.returns-in-Call-clause-takes
returns-in-Call-clause-takes c =
    let w = c.args.self.now in
    let x = c.args.context in
    let s = c.args.step in
    method_begins x w s c.call.new.self c.target.result.now kind.Call c.call.result c.target.ensures
    (sym c.in-Call.is ∙ c.method_kind-kind.ensures
    ∙ ap (λ n. kind_named n s.argc) c.name_at.ensures)
    (c.call.ensures.takes c.target.result.now c.target.ensures)

pub returns-in-Curry-clause-takes : goal.returns-in-Curry-clause-takes
returns-in-Curry-clause-takes c =
    let w = c.args.self.now in
    let x = c.args.context in
    let s = c.args.step in
    method_begins x w s c.curry.new.self c.target.result.now kind.Curry c.curry.result c.target.ensures
    (sym c.in-Curry.is ∙ c.method_kind-kind.ensures
    ∙ ap (λ n. kind_named n s.argc) c.name_at.ensures)
    (c.curry.ensures.takes c.target.result.now c.target.ensures)

pub returns-in-Curry-clause-needs : goal.returns-in-Curry-clause-needs
returns-in-Curry-clause-needs c =
    needs_or_more c.args.context.program.now c.curry.new.self c.curry.result _ _ c.curry.ensures.needs
    (omega arith)

pub returns-in-Method-clause-takes : goal.returns-in-Method-clause-takes
returns-in-Method-clause-takes c =
    let w = c.args.self.now in
    let x = c.args.context in
    let s = c.args.step in
    method_begins x w s c.by_own.new.self c.target.result.now kind.Method c.by_own.result
    c.target.ensures
    (sym c.in-Method.is ∙ c.method_kind-kind.ensures
    ∙ ap (λ n. kind_named n s.argc) c.name_at.ensures)
    (c.by_own.ensures.takes c.target.result.now c.target.ensures)
