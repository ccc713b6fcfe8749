use Rattle.std.proofs.Common.{Option, None, sym, ◌∙◌, subst}
use Rattle.grain_value.specs.declared.values.FnPtr.{FnPtr}
use Rattle.grain_means.specs.Walks
use Rattle.grain_chain.specs.Going.{Takes, rest}
use Rattle.grain_chain.specs.MethodSteps.{curry_task}
use Rattle.grain_chain.proofs.Roots.{stops_need}
use Rattle.grain_chain.proofs.Strides.{stops_takes}
use Rattle.grain_chain.proofs.walks.Walk.curry.Goals as goal

pub returns-in-None-clause-takes : goal.returns-in-None-clause-takes
returns-in-None-clause-takes c = λ v stands.
    let w = c.args.self.now in
    let x = c.args.context in
    let s = c.args.step in
    subst (λ (o : Option FnPtr). Takes x w (Walks.at_mark w.step (rest x w) (curry_task x w s o v))
    c.stopping.result c.no_pointer_there.new.self)
    (sym c.in-None.is ∙ c.in_ok-pointer_there.ensures v stands)
    (stops_takes x w c.no_pointer_there.new.self
    (Walks.at_mark w.step (rest x w) (curry_task x w s None v)) c.no_pointer_there.result
    c.stopping.result c.stopping.ensures (c.no_pointer_there.ensures.goes x v stands))

pub returns-in-None-clause-needs : goal.returns-in-None-clause-needs
returns-in-None-clause-needs c =
    let p = c.args.context.program.now in
    stops_need p c.no_pointer_there.new.self c.no_pointer_there.result c.stopping.result _ c.stopping.ensures
    (c.no_pointer_there.ensures.needs p _)

pub returns-in-Some-clause-takes : goal.returns-in-Some-clause-takes
returns-in-Some-clause-takes c = λ v stands.
    let w = c.args.self.now in
    let x = c.args.context in
    let s = c.args.step in
    subst (λ (o : Option FnPtr). Takes x w (Walks.at_mark w.step (rest x w) (curry_task x w s o v))
    c.curry_pointer.result c.curry_pointer.new.self)
    (sym c.in-Some.is ∙ c.in_ok-pointer_there.ensures v stands) (c.curry_pointer.ensures.takes v)
