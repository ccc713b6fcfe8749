use Rattle.std.proofs.Common.{◌++◌, List, sym, ap, ◌∙◌, subst}
use Rattle.grain_value.specs.Tree.{Tree}
use Rattle.grain_value.specs.declared.values.Dynamic.{Dynamic}
use Rattle.grain_value.specs.declared.values.Dynamic.TheVariants as dynamic
use Rattle.grain_value.specs.declared.values.FnPtr.{FnPtr}
use Rattle.grain_means.specs.Walks
use Rattle.grain_chain.specs.Going.{Takes, rest}
use Rattle.grain_chain.specs.MethodSteps.{gave_task, operands_of}
use Rattle.grain_chain.proofs.MethodSteps.{same_trees}
use Rattle.grain_chain.proofs.walks.Walk.curry_pointer.Goals as goal

pub returns-clause-takes : goal.returns-clause-takes
returns-clause-takes c = λ v.
    let w = c.args.self.now in
    let x = c.args.context in
    let s = c.args.step in
    let made : List Tree → Dynamic = λ l.
    let f : FnPtr = record { name = c.args.pointer.name; curry = l } in dynamic.Pointer f in
    subst (λ (l : List Tree). Takes x w (Walks.at_mark w.step (rest x w) (gave_task x w s (made l)))
    c.give.result c.give.new.self)
    (c.in_ok-copy_operands.ensures.copied
    ∙ ap (λ (l : List Tree). c.args.pointer.curry ++ l)
    (sym (same_trees (operands_of w s.operand s.argc)))) c.give.ensures.takes
