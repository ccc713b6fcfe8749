-- The branch is done from where its comparison would have left the frame.
use Rattle.std.proofs.Common.{refl}
use Rattle.grain_program.specs.declared.code.instruction_set.Op.TheVariants as op
use Rattle.grain_frame.specs.Following.{judged}
use Rattle.grain_frame.specs.Abstraction.{begun_one}
use Rattle.grain_frame.specs.lemmas.Arms.{is_typed, stepped}
use Rattle.grain_frame.proofs.Tried.{tried}
use Rattle.grain_frame.proofs.branches.quick_branch.Goals as goal

pub fetch_at-requires : goal.fetch_at-requires
fetch_at-requires g c =
    is_typed c.args.context.program.now c.args.frame.now (judged c.args.run.now c.args.truth)
    c.requires.runs

pub returns-in-JumpIfFalse-default-clause-stepped :
    goal.returns-in-JumpIfFalse-default-clause-stepped
returns-in-JumpIfFalse-default-clause-stepped g c =
    let p = c.args.context.program.now in
    let e = c.args.context.engine.now in
    let s = c.args.run.now in
    tried c.branch_to.result c.branch_to.ensures.implements
    (λ did host. stepped g.H.Host.law p e c.args.frame.now (judged s c.args.truth)
    c.fetch_at.result.0 (op.JumpIfFalse c.in-JumpIfFalse-default.target) c.fetch_at.result.1
    c.in-JumpIfFalse-default.is-0 c.requires.runs
    c.fetch_at.ensures.verified c.fetch_at.ensures.read refl refl (begun_one c.args.steps.now)
    c.branch_to.new.frame c.branch_to.new.run c.branch_to.new.steps host host (did host))

pub returns-in-JumpIfTrue-default-clause-stepped : goal.returns-in-JumpIfTrue-default-clause-stepped
returns-in-JumpIfTrue-default-clause-stepped g c =
    let p = c.args.context.program.now in
    let e = c.args.context.engine.now in
    let s = c.args.run.now in
    let to = c.branch_to-in-JumpIfTrue-default in
    tried to.result to.ensures.implements
    (λ did host. stepped g.H.Host.law p e c.args.frame.now (judged s c.args.truth)
    c.fetch_at.result.0 (op.JumpIfTrue c.in-JumpIfTrue-default.target) c.fetch_at.result.1
    c.in-JumpIfTrue-default.is-0 c.requires.runs
    c.fetch_at.ensures.verified c.fetch_at.ensures.read refl refl (begun_one c.args.steps.now) to.new.frame
    to.new.run to.new.steps host host (did host))
