use Rattle.std.proofs.Common.{◌≡◌, ◌<◌, false, Some, Ok, length, refl, sym, ap, ◌∙◌, subst, arith}
use Rattle.grain_means.specs.Walks
use Rattle.std.specs.Prelude.{codes}
use Rattle.grain_fault.specs.Problems.{Plain, DataRace}
use Rattle.grain_fault.specs.declared.places.Position.{Position}
use Rattle.grain_chain.specs.Going.{Goes, rest}
use Rattle.grain_chain.specs.declared.walks.Walk.{Walk}
use Rattle.grain_chain.proofs.Strides.{then_goes}
use Rattle.grain_chain.proofs.Stepping.{needs_more}
use Rattle.grain_means.specs.Tasks.{Task}
use Rattle.grain_program.specs.View.{chain_of}
use Rattle.grain_chain.specs.Walking.{HasAllOperands, count, steps_left}
use Rattle.grain_chain.proofs.Operands.{enough}
use Rattle.grain_chain.proofs.Stepping.{ahead, takes_next, skips_next, races_next, turns_less, take_on, then_reaches}
use Rattle.grain_chain.proofs.Loops.{Led, step_answers, step_gives_up, step_turns, answers_less}
use Rattle.std.proofs.Common.{rules, is_ok, ◌≤◌}
use Rattle.grain_chain.proofs.Stepping.{no_steps}
use Rattle.grain_chain.specs.laws.Joining.{as_is}
use Rattle.grain_chain.proofs.walks.Walk.advance.Goals as goal

pub steps-init : goal.steps-init
steps-init c = record {
  walks = λ k. as_is refl;
  less = omega arith;
  all = c.count_of_steps-count.ensures;
  has = c.requires;
}

pub returns-then-self-count-clause-goes : goal.returns-then-self-count-clause-goes
returns-then-self-count-clause-goes c =
    let w0 = c.args.self.now in
    let w = c.steps.self in
    let x = c.args.context in
    let p = x.program.now in
    let inv = c.steps.invariant in
    then_goes x w0 w c.end.new.self (ahead x w0) _ c.end.result
    (subst (λ (t : Task). Led x w0 (ahead x w0) w t)
    (no_steps x w (omega (arith, inv.all, c.if-self-count.true))) inv.walks) c.end.ensures.goes

pub returns-then-self-count-clause-needs : goal.returns-then-self-count-clause-needs
returns-then-self-count-clause-needs c =
    let w0 = c.args.self.now in
    let w = c.steps.self in
    let x = c.args.context in
    let p = x.program.now in
    let inv = c.steps.invariant in
    needs_more p c.end.new.self c.end.result _ _ c.end.ensures.needs (omega (arith, inv.less))

pub step_at-step-requires : goal.step_at-step-requires
step_at-step-requires c = omega (arith, c.steps.invariant.all, c.if-self-count.false)

pub returns-in_default-clause-goes : goal.returns-in_default-clause-goes
returns-in_default-clause-goes c =
    let w0 = c.args.self.now in
    let w = c.steps.self in
    let x = c.args.context in
    let unit = c.in_default.ensures in
    then_goes x w0 w c.race_before.new.self (ahead x w0) (ahead x w) c.race_before.result
    c.steps.invariant.walks
    (then_goes x w w c.race_before.new.self (ahead x w) _ c.race_before.result
    (races_next x w c.step_at-step.result unit.0 c.step_at-step.ensures.is unit.1.0 unit.1.1)
    (subst (λ (q : Position). Goes x w (Walks.at_mark w.step (rest x w) (Walks.failing w.step
    (Plain (DataRace (codes "variable ''")) q) (rest x w))) c.race_before.result
    c.race_before.new.self) c.position_of.ensures (c.race_before.ensures.goes x)))

pub returns-then-ends-clause-goes : goal.returns-then-ends-clause-goes
returns-then-ends-clause-goes c =
    let w0 = c.args.self.now in
    let w = c.steps.self in
    let x = c.args.context in
    let p = x.program.now in
    let inv = c.steps.invariant in
    let unit = c.in-Some.ensures in
    then_goes x w0 w c.skip.new.self (ahead x w0) (ahead x w) c.skip.result inv.walks
    (then_goes x w w c.skip.new.self (ahead x w) _ c.skip.result
    (skips_next x w c.step_at-step.result unit.0 c.step_at-step.ensures.is unit.1.0
    (ap Some (sym c.if-ends.true) ∙ unit.1.1)) c.skip.ensures.goes)

pub returns-then-ends-clause-needs : goal.returns-then-ends-clause-needs
returns-then-ends-clause-needs c =
    let w0 = c.args.self.now in
    let w = c.steps.self in
    let x = c.args.context in
    let p = x.program.now in
    let inv = c.steps.invariant in
    needs_more p c.skip.new.self c.skip.result _ _ c.skip.ensures.needs (omega (arith, inv.less))

pub take-requires : goal.take-requires
take-requires c =
    let w = c.steps.self in
    let p = c.args.context.program.now in
    let inv = c.steps.invariant in
    let here : w.step < count p w = omega (arith, inv.all, c.if-self-count.false) in
    record {
      at = (here, inv.has);
      operands = enough (chain_of p w.chain).operands (length w.operands) c.step_at-step.result
          c.step_at-step.ensures.operands inv.has;
    }

pub returns-in_err-take-clause-goes : goal.returns-in_err-take-clause-goes
returns-in_err-take-clause-goes c =
    let w0 = c.args.self.now in
    let w = c.steps.self in
    let x = c.args.context in
    let p = x.program.now in
    let inv = c.steps.invariant in
    let unit = c.in-Some.ensures in
    let led = then_reaches x w0 w w (ahead x w0) (ahead x w)
    (Walks.at_mark w.step (rest x w) (take_on x w c.step_at-step.result)) inv.walks
    (takes_next x w c.step_at-step.result unit.0 c.step_at-step.ensures.is unit.1.0
    (ap Some (sym c.if-ends.false) ∙ unit.1.1)) in
    let out : is_ok c.from_residual.result ≡ false = search rules in
    let none : is_ok c.take.result ≡ false = search rules in
    step_gives_up x w0 (ahead x w0) w c.take.new.self _ c.take.result c.from_residual.result
    led none out c.take.ensures.takes

pub step_on-requires : goal.step_on-requires
step_on-requires c =
    let w0 = c.args.self.now in
    let w = c.steps.self in
    let x = c.args.context in
    let p = x.program.now in
    let inv = c.steps.invariant in
    let unit = c.in-Some.ensures in
    let led = then_reaches x w0 w w (ahead x w0) (ahead x w)
    (Walks.at_mark w.step (rest x w) (take_on x w c.step_at-step.result)) inv.walks
    (takes_next x w c.step_at-step.result unit.0 c.step_at-step.ensures.is unit.1.0
    (ap Some (sym c.if-ends.false) ∙ unit.1.1)) in
    let got = step_turns x w0 (ahead x w0) w c.take.new.self _ c.take.result led
    (c.in_ok-take.was ∙ ap Ok c.in-None.is) c.take.ensures.takes in
    subst (λ (u : Walk). u.step < count p u) (sym got.1.same)
    (omega (arith, inv.all, c.if-self-count.false))

pub steps-preserved : goal.steps-preserved
steps-preserved c =
    let w0 = c.args.self.now in
    let w = c.steps.self in
    let x = c.args.context in
    let p = x.program.now in
    let inv = c.steps.invariant in
    let unit = c.in-Some.ensures in
    let led = then_reaches x w0 w w (ahead x w0) (ahead x w)
    (Walks.at_mark w.step (rest x w) (take_on x w c.step_at-step.result)) inv.walks
    (takes_next x w c.step_at-step.result unit.0 c.step_at-step.ensures.is unit.1.0
    (ap Some (sym c.if-ends.false) ∙ unit.1.1)) in
    let got = step_turns x w0 (ahead x w0) w c.take.new.self _ c.take.result led
    (c.in_ok-take.was ∙ ap Ok c.in-None.is) c.take.ensures.takes in
    let here : w.step < count p w = omega (arith, inv.all, c.if-self-count.false) in
    let fewer_left = turns_less p w c.take.new.self got.1 here in
    record {
      walks = subst (λ (u : Walk). Led x w0 (ahead x w0) u (ahead x u)) (sym c.step_on.ensures) got.0;
      less = subst (λ (u : Walk). steps_left p u ≤ steps_left p w0) (sym c.step_on.ensures)
          (omega (arith, fewer_left, inv.less));
      all = subst (λ (u : Walk). c.count_of_steps-count.result ≡ count p u) (sym c.step_on.ensures)
          (subst (λ (u : Walk). c.count_of_steps-count.result ≡ count p u) (sym got.1.same) inv.all);
      has = subst (λ (u : Walk). HasAllOperands p u) (sym c.step_on.ensures)
          (subst (λ (u : Walk). HasAllOperands p u) (sym got.1.same) inv.has);
    }

pub returns-in-Some-2-clause-goes : goal.returns-in-Some-2-clause-goes
returns-in-Some-2-clause-goes c =
    let w0 = c.args.self.now in
    let w = c.steps.self in
    let x = c.args.context in
    let p = x.program.now in
    let inv = c.steps.invariant in
    let unit = c.in-Some.ensures in
    let led = then_reaches x w0 w w (ahead x w0) (ahead x w)
    (Walks.at_mark w.step (rest x w) (take_on x w c.step_at-step.result)) inv.walks
    (takes_next x w c.step_at-step.result unit.0 c.step_at-step.ensures.is unit.1.0
    (ap Some (sym c.if-ends.false) ∙ unit.1.1)) in
    step_answers x w0 (ahead x w0) w c.take.new.self _ c.in-Some-2.answer c.take.result led
    (c.in_ok-take.was ∙ ap Ok c.in-Some-2.is) c.take.ensures.takes

pub returns-in-Some-2-clause-needs : goal.returns-in-Some-2-clause-needs
returns-in-Some-2-clause-needs c =
    let w0 = c.args.self.now in
    let w = c.steps.self in
    let x = c.args.context in
    let p = x.program.now in
    let inv = c.steps.invariant in
    answers_less p c.take.new.self c.in-Some-2.answer c.take.result _ _
    (c.in_ok-take.was ∙ ap Ok c.in-Some-2.is) c.take.ensures.needs (omega (arith, inv.less))
