use Rattle.std.proofs.Common.{ℕ, true, Result, Err, sym, subst}
use Rattle.grain_value.specs.declared.values.Dynamic.TheVariants as dynamic
use Rattle.grain_fault.specs.Problems.{problem_of}
use Rattle.grain_means.specs.Walks
use Rattle.grain_chain.specs.Walking.{place_of}
use Rattle.grain_chain.specs.Going.{Goes, rest, setting}
use Rattle.grain_chain.specs.declared.walks.Walk.{Walk}
use Rattle.grain_means.specs.Tasks.{WalkEnded}
use Rattle.grain_chain.specs.Standings.{Standing, AssignedThere}
use Rattle.grain_chain.specs.Going.{FailsAt}
use Rattle.grain_chain.proofs.Tails.{goes_written, operates_slow, operates_fast, operating_halts, stored_fault, written}
use Rattle.grain_ops.specs.Outcomes.{Outcome}
use Rattle.grain_fault.specs.declared.faults.EvalAltResult.{EvalAltResult}
use Rattle.grain_value.specs.declared.memory.OutOfMemory.{OutOfMemory}
use Rattle.grain_ops.specs.Operators.{assignment}
use Rattle.grain_ops.specs.declared.answers.AssignAnswer.{AssignAnswer}
use Rattle.grain_chain.proofs.walks.Walk.operate.Goals as goal

pub returns-then-not-context-clause-goes : goal.returns-then-not-context-clause-goes
returns-then-not-context-clause-goes c =
    operates_slow c.args.context c.args.self.now c.ask_op_assign.new.self c.args.pos c.args.op
    c.ask_op_assign.result c.if-not-context.true c.ask_op_assign.ensures.goes

pub returns-in_default-clause-goes : goal.returns-in_default-clause-goes
returns-in_default-clause-goes c =
    operating_halts c.args.context c.args.self.now c.args.self.now c.args.pos c.args.op (Err _)

pub returns-in-NotBuiltIn-clause-goes : goal.returns-in-NotBuiltIn-clause-goes
returns-in-NotBuiltIn-clause-goes c =
    let w = c.args.self.now in
    let x = c.args.context in
    let v0 = c.assign.ensures in
    let o = assignment x.engine.now.limits c.args.op.op_assign v0.0 w.value in
    let h = subst (λ (a : AssignAnswer). AssignedThere w.trail a o c.assign.new.self) c.in-NotBuiltIn.is
    v0.1.1 in
    operates_fast x w c.ask_op_assign-in-NotBuiltIn.new.self c.args.pos c.args.op
    c.ask_op_assign-in-NotBuiltIn.result v0.0 v0.1.0 c.if-not-context.false
    (subst (λ (p : Outcome). Goes x w (Walks.stored (setting x w) w.step c.args.pos c.args.op w.value
    (place_of w) (rest x w) p) c.ask_op_assign-in-NotBuiltIn.result
    c.ask_op_assign-in-NotBuiltIn.new.self) (sym h.0)
    (subst (λ (t : Standing). let w1 : Walk = record w { trail = t } in Goes x w1 (Walks.native_stored
    (setting x w1) w1.step c.args.pos c.args.op w1.value (place_of w1) (rest x w1))
    c.ask_op_assign-in-NotBuiltIn.result c.ask_op_assign-in-NotBuiltIn.new.self) h.1
    c.ask_op_assign-in-NotBuiltIn.ensures.goes))

pub returns-in-Done-clause-goes : goal.returns-in-Done-clause-goes
returns-in-Done-clause-goes c =
    let w = c.args.self.now in
    let x = c.args.context in
    let v0 = c.assign.ensures in
    let o = assignment x.engine.now.limits c.args.op.op_assign v0.0 w.value in
    let h = subst (λ (a : AssignAnswer). AssignedThere w.trail a o c.assign.new.self) c.in-Done.is v0.1.1 in
    operates_fast x w c.walk_back.new.self c.args.pos c.args.op c.walk_back.result v0.0 v0.1.0
    c.if-not-context.false
    (subst (λ (p : Outcome). Goes x w (Walks.stored (setting x w) w.step c.args.pos c.args.op w.value
    (place_of w) (rest x w) p) c.walk_back.result c.walk_back.new.self) (sym h.1)
    (goes_written x w c.walk_back.new.self h.0 c.walk_back.result
    (subst (λ (t : Standing). Goes x (written w t) (rest x (written w t) (WalkEnded dynamic.Unit true))
    c.walk_back.result c.walk_back.new.self) h.2
    (subst (λ (m : ℕ). let w1 : Walk =
    record w { trail = c.assign.new.self; gives = dynamic.Unit; marks = m } in
    Goes x w1 (rest x w1 (WalkEnded dynamic.Unit true)) c.walk_back.result c.walk_back.new.self)
    c.in-Ok.ensures
    c.walk_back.ensures.goes))))

pub returns-in-Ok-fault_at-clause-goes : goal.returns-in-Ok-fault_at-clause-goes
returns-in-Ok-fault_at-clause-goes c =
    let w = c.args.self.now in
    let x = c.args.context in
    let v0 = c.assign.ensures in
    let o = assignment x.engine.now.limits c.args.op.op_assign v0.0 w.value in
    let h = subst (λ (a : AssignAnswer). AssignedThere w.trail a o c.assign.new.self) c.in-Failed.is v0.1.1 in
    let at = subst (λ (p : Result EvalAltResult OutOfMemory). FailsAt c.args.pos p o) c.in-Ok-fault_at.is
    (c.fault_at.ensures o h.0) in
    operates_fast x w c.raise.new.self c.args.pos c.args.op c.raise.result v0.0 v0.1.0 c.if-not-context.false
    (stored_fault x w c.raise.new.self c.args.pos c.args.op c.raise.result o c.in-Ok-fault_at.fault at
    (subst (λ (t : Standing). let w1 : Walk = record w { trail = t } in Goes x w1 (Walks.failing w1.step
    (problem_of c.in-Ok-fault_at.fault) (rest x w1)) c.raise.result c.raise.new.self) h.1
    (c.raise.ensures.goes x)))

pub returns-in-Err-clause-goes : goal.returns-in-Err-clause-goes
returns-in-Err-clause-goes c =
    let w = c.args.self.now in
    let x = c.args.context in
    let v0 = c.assign.ensures in
    let o = assignment x.engine.now.limits c.args.op.op_assign v0.0 w.value in
    let h = subst (λ (a : AssignAnswer). AssignedThere w.trail a o c.assign.new.self) c.in-Failed.is v0.1.1 in
    subst (λ (t : Standing). let w1 : Walk = record w { trail = t } in Goes x w (Walks.operating
    (setting x w) w.step c.args.pos c.args.op w.value (place_of w) (rest x w)) (Err c.in-Err.field-0) w1)
    (sym h.1) (operating_halts x w w c.args.pos c.args.op (Err c.in-Err.field-0))
