use Rattle.std.proofs.Common.{◌≡◌, ◌+◌, ◌-◌, ℕ, true, false, length, refl, inl, subst, arith}
use Rattle.grain_program.specs.declared.code.instruction_set.Op.TheVariants as op
use Rattle.grain_program.specs.TypedAt.{IsTypedAt}
use Rattle.grain_frame.specs.Abstraction.{tries_in}
use Rattle.grain_frame.specs.lemmas.Arms.{here, stepped, stands, leads_typed}
use Rattle.grain_frame.proofs.Tried.{left_to_jump, tried_branch, tried_out, tried_on, tried_loop}
use Rattle.grain_frame.proofs.attempts.quick.Goals as goal

pub quick_const-requires-clause-typed : goal.quick_const-requires-clause-typed
quick_const-requires-clause-typed g c =
    let p = c.args.context.program.now in
    let f = c.args.frame.now in
    let s = c.args.run.now in
    let same : length s.stacks.operands - 0 + 1 ≡ length s.stacks.operands + 1 = omega arith in
    subst (λ (k : ℕ). IsTypedAt p f.chunk (f.address + c.fetch.result.1) k
    (length s.stacks.cursors) (tries_in s.stacks.handlers)) same
    (leads_typed g.H.Host.law p c.args.context.engine.now f s c.fetch.result.0
    (op.LoadConst c.in-LoadConst-default.constant) c.fetch.result.1 c.in-LoadConst-default.is-0 c.requires.runs c.fetch.ensures.verified refl refl
    _ (inl refl))

pub quick_local-requires-clause-typed : goal.quick_local-requires-clause-typed
quick_local-requires-clause-typed g c =
    let p = c.args.context.program.now in
    let f = c.args.frame.now in
    let s = c.args.run.now in
    let same : length s.stacks.operands - 0 + 1 ≡ length s.stacks.operands + 1 = omega arith in
    subst (λ (k : ℕ). IsTypedAt p f.chunk (f.address + c.fetch.result.1) k
    (length s.stacks.cursors) (tries_in s.stacks.handlers)) same
    (leads_typed g.H.Host.law p c.args.context.engine.now f s c.fetch.result.0
    (op.LoadLocal c.in-LoadLocal-default.slot) c.fetch.result.1 c.in-LoadLocal-default.is-0 c.requires.runs c.fetch.ensures.verified refl refl
    _ (inl refl))

pub returns-in-LoadConst-default : goal.returns-in-LoadConst-default
returns-in-LoadConst-default g c =
    tried_on g.H.Host.law c.args.context.program.now c.args.context.engine.now c.args.frame.now
    c.args.run.now c.fetch.result.0 (op.LoadConst c.in-LoadConst-default.constant)
    c.fetch.result.1 c.in-LoadConst-default.is-0
    c.requires.runs c.fetch.ensures.verified c.fetch.ensures.read refl refl c.args.steps.now
    c.quick_const.new.frame c.quick_const.new.run c.quick_const.new.steps c.quick_const.result
    c.of.result c.of.ensures c.quick_const.ensures.performs c.quick_const.ensures.undone
    ((λ name count e. cc), (λ count e. cc))

pub returns-in-LoadLocal-default : goal.returns-in-LoadLocal-default
returns-in-LoadLocal-default g c =
    tried_on g.H.Host.law c.args.context.program.now c.args.context.engine.now c.args.frame.now
    c.args.run.now c.fetch.result.0 (op.LoadLocal c.in-LoadLocal-default.slot) c.fetch.result.1
    c.in-LoadLocal-default.is-0 c.requires.runs
    c.fetch.ensures.verified c.fetch.ensures.read refl refl c.args.steps.now c.quick_local.new.frame
    c.quick_local.new.run c.quick_local.new.steps c.quick_local.result
    c.of-in-LoadLocal-default.result c.of-in-LoadLocal-default.ensures
    c.quick_local.ensures.performs c.quick_local.ensures.undone (
      (λ name count e. cc),
      (λ count e.
          cc),
    )

pub returns-in-AssignLocalOp-default : goal.returns-in-AssignLocalOp-default
returns-in-AssignLocalOp-default g c =
    tried_out g.H.Host.law c.args.context.program.now c.args.context.engine.now c.args.frame.now
    c.args.run.now c.fetch.result.0
    (op.AssignLocalOp c.in-AssignLocalOp-default.slot c.in-AssignLocalOp-default.name
    c.in-AssignLocalOp-default.op) c.fetch.result.1 c.in-AssignLocalOp-default.is-0 c.requires.runs
    c.fetch.ensures.verified c.fetch.ensures.read refl refl c.args.steps.now c.quick_assign.new.frame
    c.quick_assign.new.run c.quick_assign.new.steps c.quick_assign.result
    c.of-in-AssignLocalOp-default.result c.of-in-AssignLocalOp-default.ensures
    c.quick_assign.ensures.performs c.quick_assign.ensures.undone (
      (λ name count e. cc),
      (λ count e.
          cc),
    )

pub returns-in-StoreLocal-default : goal.returns-in-StoreLocal-default
returns-in-StoreLocal-default g c =
    tried_out g.H.Host.law c.args.context.program.now c.args.context.engine.now c.args.frame.now
    c.args.run.now c.fetch.result.0 (op.StoreLocal c.in-StoreLocal-default.slot) c.fetch.result.1
    c.in-StoreLocal-default.is-0 c.requires.runs
    c.fetch.ensures.verified c.fetch.ensures.read refl refl c.args.steps.now c.quick_store.new.frame
    c.quick_store.new.run c.quick_store.new.steps c.quick_store.result
    c.of-in-StoreLocal-default.result c.of-in-StoreLocal-default.ensures
    c.quick_store.ensures.performs c.quick_store.ensures.undone (
      (λ name count e. cc),
      (λ count e.
          cc),
    )

pub quick_next-requires-clause-there : goal.quick_next-requires-clause-there
quick_next-requires-clause-there g c =
    (here g.H.Host.law c.args.context.program.now c.args.context.engine.now c.args.frame.now
    c.args.run.now c.fetch.result.0 (op.IterNext c.in-IterNext-default.target) c.fetch.result.1
    c.in-IterNext-default.is-0 c.requires.runs
    c.fetch.ensures.verified).cursor

pub returns-in-IterNext-default : goal.returns-in-IterNext-default
returns-in-IterNext-default g c =
    tried_loop g.H.Host.law c.args.context.program.now c.args.context.engine.now c.args.frame.now
    c.args.run.now c.fetch.result.0 (op.IterNext c.in-IterNext-default.target) c.fetch.result.1
    c.in-IterNext-default.is-0 c.requires.runs
    c.fetch.ensures.verified c.fetch.ensures.read c.args.steps.now c.quick_next.new.frame
    c.quick_next.new.run c.quick_next.new.steps c.quick_next.result
    c.of-in-IterNext-default.result c.of-in-IterNext-default.ensures
    c.quick_next.ensures.performs c.quick_next.ensures.undone (
      (λ name count e. cc),
      (λ count e.
          cc),
    )

pub returns-in-Jump-default : goal.returns-in-Jump-default
returns-in-Jump-default g c =
    left_to_jump g.H.Host.law c.args.context.program.now c.args.context.engine.now c.args.frame.now
    c.args.run.now c.fetch.result.0 (op.Jump c.in-Jump-default.target) c.fetch.result.1
    c.in-Jump-default.is-0 c.requires.runs c.fetch.ensures.verified c.fetch.ensures.read refl refl
    c.args.steps.now c.args.frame.now c.args.run.now c.args.steps.now c.in-Jump-default.target
    (λ host r b does. does)

pub returns-in-JumpIfFalse-default : goal.returns-in-JumpIfFalse-default
returns-in-JumpIfFalse-default g c =
    let did = c.quick_jump_if-tried in
    tried_branch
    g.H.Host.law c.args.context.program.now c.args.context.engine.now c.args.frame.now
    c.args.run.now c.fetch.result.0 (op.JumpIfFalse c.in-JumpIfFalse-default.target) c.fetch.result.1
    c.in-JumpIfFalse-default.is-0 c.requires.runs c.fetch.ensures.verified c.fetch.ensures.read refl refl
    c.args.steps.now did.new.frame did.new.run did.new.steps false
    c.in-JumpIfFalse-default.target (λ host r b does. does) did.result c.branched.result
    c.branched.ensures did.ensures.tried ((λ name count e. cc), (λ count e. cc))

pub returns-in-JumpIfTrue-default : goal.returns-in-JumpIfTrue-default
returns-in-JumpIfTrue-default g c =
    let did = c.quick_jump_if-tried-in-JumpIfTrue-default in
    tried_branch
    g.H.Host.law c.args.context.program.now c.args.context.engine.now c.args.frame.now
    c.args.run.now c.fetch.result.0 (op.JumpIfTrue c.in-JumpIfTrue-default.target) c.fetch.result.1
    c.in-JumpIfTrue-default.is-0 c.requires.runs c.fetch.ensures.verified c.fetch.ensures.read refl refl
    c.args.steps.now did.new.frame did.new.run did.new.steps true
    c.in-JumpIfTrue-default.target (λ host r b does. does) did.result
    c.branched-in-JumpIfTrue-default.result c.branched-in-JumpIfTrue-default.ensures
    did.ensures.tried ((λ name count e. cc), (λ count e. cc))

pub returns-in-Pop-default : goal.returns-in-Pop-default
returns-in-Pop-default g c =
    let did = c.quick_pop in
    tried_out
    g.H.Host.law c.args.context.program.now c.args.context.engine.now c.args.frame.now
    c.args.run.now c.fetch.result.0 op.Pop c.fetch.result.1
    c.in-Pop-default.is-0 c.requires.runs c.fetch.ensures.verified c.fetch.ensures.read refl refl
    c.args.steps.now did.new.frame did.new.run did.new.steps did.result
    c.of-in-Pop-default.result c.of-in-Pop-default.ensures did.ensures.performs did.ensures.undone
    ((λ name count e. cc), (λ count e. cc))

pub returns-in-CallOp-default : goal.returns-in-CallOp-default
returns-in-CallOp-default g c =
    tried_on g.H.Host.law c.args.context.program.now c.args.context.engine.now c.args.frame.now
    c.args.run.now c.fetch.result.0
    (op.CallOp c.in-CallOp-default.name c.in-CallOp-default.count c.in-CallOp-default.token)
    c.fetch.result.1 c.in-CallOp-default.is-0
    c.requires.runs c.fetch.ensures.verified c.fetch.ensures.read refl refl c.args.steps.now
    c.quick_op.new.frame c.quick_op.new.run c.quick_op.new.steps c.quick_op.result
    c.of-in-CallOp-default.result c.of-in-CallOp-default.ensures c.quick_op.ensures.performs
    c.quick_op.ensures.undone ((λ name count e. cc), (λ count e. cc))

pub quick_op-requires-clause-typed : goal.quick_op-requires-clause-typed
quick_op-requires-clause-typed g c =
    leads_typed g.H.Host.law c.args.context.program.now c.args.context.engine.now c.args.frame.now
    c.args.run.now c.fetch.result.0
    (op.CallOp c.in-CallOp-default.name c.in-CallOp-default.count c.in-CallOp-default.token)
    c.fetch.result.1 c.in-CallOp-default.is-0
    c.requires.runs c.fetch.ensures.verified refl refl _ (inl refl)

pub returns-in-Return-default : goal.returns-in-Return-default
returns-in-Return-default g c =
    λ host. stepped g.H.Host.law c.args.context.program.now c.args.context.engine.now
    c.args.frame.now c.args.run.now c.fetch.result.0 op.Return c.fetch.result.1
    c.in-Return-default.is-0 c.requires.runs
    c.fetch.ensures.verified c.fetch.ensures.read refl refl c.args.steps.now c.args.frame.now
    c.return_value.new.self c.return_value.new.steps host host
    (rw c.return_value.ensures.over at
    (c.return_value.ensures.performs c.args.context.program.now c.args.context.engine.now host))

pub returns-in-Call-default : goal.returns-in-Call-default
returns-in-Call-default g c = (
  (refl, refl, refl),
  stands g.H.Host.law c.args.context.program.now c.args.context.engine.now
      c.args.frame.now c.args.run.now c.fetch.result.0
      (op.Call c.in-Call-default.name c.in-Call-default.count) c.fetch.result.1
      c.in-Call-default.is-0 c.requires.runs
      c.fetch.ensures.verified c.fetch.ensures.read,
)

pub returns-in-CallFnPtr-default : goal.returns-in-CallFnPtr-default
returns-in-CallFnPtr-default g c = (
  (refl, refl, refl),
  stands g.H.Host.law c.args.context.program.now c.args.context.engine.now
      c.args.frame.now c.args.run.now c.fetch.result.0
      (op.CallFnPtr c.in-CallFnPtr-default.count) c.fetch.result.1
      c.in-CallFnPtr-default.is-0 c.requires.runs
      c.fetch.ensures.verified c.fetch.ensures.read,
)
