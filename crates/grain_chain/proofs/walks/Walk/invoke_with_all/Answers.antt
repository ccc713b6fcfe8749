use Rattle.std.proofs.Common.{ℕ, ◌+◌, List, map, ap, ◌∙◌, sym, subst}
use Rattle.grain_value.specs.Tree.{Tree}
use Rattle.grain_value.specs.View.{value_of}
use Rattle.grain_chain.specs.Going.{Goes, Needs, lent_place}
use Rattle.grain_chain.specs.MethodSteps.{asking_task, operands_of, step_arguments}
use Rattle.grain_chain.specs.Walking.{AtStep, CanCall, steps_left}
use Rattle.grain_chain.specs.declared.walks.Walk.{Walk}
use Rattle.grain_chain.proofs.MethodSteps.{marked_asks}
use Rattle.grain_chain.proofs.Strides.{passes_goes}
use Rattle.grain_chain.proofs.walks.Walk.invoke_with_all.Goals as goal

pub returns-clause-goes : goal.returns-clause-goes
returns-clause-goes c = λ x.
    let w = c.args.self.now in
    let s = c.args.step in
    let w1 = c.pass_mark.new.self in
    passes_goes x w w1 c.invoke.new.self
    (λ (u : Walk). asking_task x u s c.args.what (lent_place u c.args.lends) (step_arguments x u s))
    c.invoke.result (marked_asks x w s c.args.what c.args.lends) c.in_ok-pass_mark.ensures.passed
    (subst (λ (l : List Tree). Goes x w1
    (asking_task x w1 s c.args.what (lent_place w1 c.args.lends) (map value_of l)) c.invoke.result
    c.invoke.new.self)
    (c.in_ok-arguments.ensures.copied
    ∙ ap (λ (u : Walk). operands_of u s.operand s.argc) (sym c.in_ok-pass_mark.ensures.passed))
    (c.invoke.ensures.goes x))

pub returns-clause-needs : goal.returns-clause-needs
returns-clause-needs c = λ p at can.
    subst (λ (u : Walk). AtStep p u →
    Needs p c.invoke.new.self c.invoke.result (steps_left p u + 2)) c.in_ok-pass_mark.ensures.passed
    (λ here. c.invoke.ensures.needs p here
    (subst (λ (n : ℕ). CanCall p c.args.what n) (sym c.in_ok-arguments.ensures.counted) can)) at
