use Rattle.std.proofs.Common.{Option, None, sym, ◌∙◌, subst, arith}
use Rattle.grain_value.specs.declared.values.FnPtr.{FnPtr}
use Rattle.grain_means.specs.Walks
use Rattle.grain_chain.specs.Going.{Takes, rest}
use Rattle.grain_chain.specs.MethodSteps.{asking_task, call_task, called_task, step_arguments}
use Rattle.grain_chain.specs.declared.requests.What.TheVariants as what
use Rattle.grain_chain.proofs.Roots.{stops_need}
use Rattle.grain_chain.proofs.Stepping.{needs_more}
use Rattle.grain_chain.proofs.Strides.{stops_takes}
use Rattle.grain_chain.proofs.walks.Walk.call.Goals as goal

pub returns-in-None-clause-takes : goal.returns-in-None-clause-takes
returns-in-None-clause-takes c = λ v stands.
    let w = c.args.self.now in
    let x = c.args.context in
    let s = c.args.step in
    subst (λ (o : Option FnPtr). Takes x w (Walks.at_mark w.step (rest x w) (call_task x w s o v))
    c.stopping.result c.call_first.new.self)
    (sym c.in-None.is ∙ c.in_ok-pointer_there.ensures v stands)
    (stops_takes x w c.call_first.new.self
    (Walks.at_mark w.step (rest x w) (called_task x w s v (step_arguments x w s))) c.call_first.result
    c.stopping.result c.stopping.ensures (c.call_first.ensures.goes v stands))

pub returns-in-None-clause-needs : goal.returns-in-None-clause-needs
returns-in-None-clause-needs c =
    let p = c.args.context.program.now in
    stops_need p c.call_first.new.self c.call_first.result c.stopping.result _ c.stopping.ensures
    (needs_more p c.call_first.new.self c.call_first.result _ _ c.call_first.ensures.needs
    (omega arith))

pub returns-in-Some-clause-takes : goal.returns-in-Some-clause-takes
returns-in-Some-clause-takes c = λ v stands.
    let w = c.args.self.now in
    let x = c.args.context in
    let s = c.args.step in
    subst (λ (o : Option FnPtr). Takes x w (Walks.at_mark w.step (rest x w) (call_task x w s o v))
    c.stopping-in-Some.result c.invoke_with_all.new.self)
    (sym c.in-Some.is ∙ c.in_ok-pointer_there.ensures v stands)
    (stops_takes x w c.invoke_with_all.new.self
    (Walks.at_mark w.step (rest x w)
    (asking_task x w s (what.Pointer c.in-Some.pointer) None (step_arguments x w s)))
    c.invoke_with_all.result c.stopping-in-Some.result c.stopping-in-Some.ensures
    (c.invoke_with_all.ensures.goes x))

pub returns-in-Some-clause-needs : goal.returns-in-Some-clause-needs
returns-in-Some-clause-needs c =
    let p = c.args.context.program.now in
    stops_need p c.invoke_with_all.new.self c.invoke_with_all.result c.stopping-in-Some.result _
    c.stopping-in-Some.ensures
    (needs_more p c.invoke_with_all.new.self c.invoke_with_all.result _ _
    (c.invoke_with_all.ensures.needs p c.requires.at tt) (omega arith))
