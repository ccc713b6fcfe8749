use Rattle.std.proofs.Common.{true, None, Ok, Err, refl, sym, subst}
use Rattle.grain_chain.specs.Going.{Needs, Reaches, given_up}
use Rattle.grain_chain.specs.MethodSteps.{gave_task}
use Rattle.grain_chain.specs.Walking.{backs, roots_of}
use Rattle.grain_chain.specs.declared.walks.Walk.{Walk}
use Rattle.grain_chain.proofs.MethodSteps.{gives_own, gives_root, gives_halts}
use Rattle.grain_chain.proofs.Roots.{stops_need}
use Rattle.grain_chain.proofs.Strides.{passes_takes}
use Rattle.grain_chain.proofs.walks.Walk.give.Goals as goal

pub returns-then-step-clause-takes : goal.returns-then-step-clause-takes
returns-then-step-clause-takes c =
    let x = c.args.context in
    let s = c.args.step in
    passes_takes x c.args.self.now c.pass_mark.new.self c.give_own.new.self
    (λ (u : Walk). gave_task x u s c.args.value) c.stopping.result refl c.in_ok-pass_mark.ensures.passed
    (gives_own x c.pass_mark.new.self s c.give_own.new.self c.args.value c.give_own.result c.stopping.result
    c.if-step.true c.stopping.ensures c.give_own.ensures.goes)

pub returns-then-step-clause-needs : goal.returns-then-step-clause-needs
returns-then-step-clause-needs c =
    let p = c.args.context.program.now in
    stops_need p c.give_own.new.self c.give_own.result c.stopping.result _ c.stopping.ensures
    (subst (λ (u : Walk). Needs p c.give_own.new.self c.give_own.result (backs u))
    c.in_ok-pass_mark.ensures.passed c.give_own.ensures.needs)

pub returns-in_default-clause-takes : goal.returns-in_default-clause-takes
returns-in_default-clause-takes c =
    let x = c.args.context in
    let s = c.args.step in
    let w1 = c.pass_mark.new.self in
    passes_takes x c.args.self.now w1 c.enter_root.new.self (λ (u : Walk). gave_task x u s c.args.value)
    (Err _) refl c.in_ok-pass_mark.ensures.passed
    (subst (λ (v : Walk). Reaches x w1 (gave_task x w1 s c.args.value) true (roots_of v) v.marks
    (given_up x v)) (sym c.in_default.ensures.unchanged)
    (gives_halts x w1 s c.args.value c.if-step.false c.requires))

pub returns-clause-takes : goal.returns-clause-takes
returns-clause-takes c =
    let x = c.args.context in
    let s = c.args.step in
    passes_takes x c.args.self.now c.pass_mark.new.self c.enter_root.new.self
    (λ (u : Walk). gave_task x u s c.args.value) (Ok None) refl c.in_ok-pass_mark.ensures.passed
    (gives_root x c.pass_mark.new.self s c.enter_root.new.self c.args.value c.if-step.false c.requires
    c.in-Ok.ensures.entered)
