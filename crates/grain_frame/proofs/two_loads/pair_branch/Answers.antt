-- The branch is done from where its comparison would have left the frame.
use Rattle.std.proofs.Common.{rules, refl, w64, FitsSigned}
use Rattle.std.proofs.lemmas.Int.{to_z-of_z}
use Rattle.grain_program.specs.declared.code.instruction_set.Op.TheVariants as op
use Rattle.grain_frame.specs.Following.{judged, loaded, begun_behind}
use Rattle.grain_frame.specs.Abstraction.{begun_one, marked_once, moved}
use Rattle.grain_frame.specs.lemmas.Arms.{is_typed, stepped}
use Rattle.grain_frame.proofs.Tried.{tried}
use Rattle.grain_frame.proofs.two_loads.pair_branch.Goals as goal

pub fetch_at-requires : goal.fetch_at-requires
fetch_at-requires g c =
    is_typed c.args.context.program.now (moved c.args.frame.now c.args.at)
    (judged (loaded (loaded c.args.run.now c.args.first) c.args.second) c.args.truth)
    c.requires.runs

pub returns-in-JumpIfFalse-default-clause-stepped :
    goal.returns-in-JumpIfFalse-default-clause-stepped
returns-in-JumpIfFalse-default-clause-stepped g c =
    let p = c.args.context.program.now in
    let e = c.args.context.engine.now in
    let f = moved c.args.frame.now c.args.at in
    let s = loaded (loaded c.args.run.now c.args.first) c.args.second in
    let to = c.pair_branch_to in
    let x = c.args.first in
    let y = c.args.second in
    let x_fits : FitsSigned w64 x = search rules in
    let y_fits : FitsSigned w64 y = search rules in
    tried to.result
    (rw (to_z-of_z w64 x x_fits, to_z-of_z w64 y y_fits) at to.ensures.implements)
    (λ did host. stepped g.H.Host.law p e f (judged s c.args.truth)
    c.fetch_at.result.0 (op.JumpIfFalse c.in-JumpIfFalse-default.target) c.fetch_at.result.1
    c.in-JumpIfFalse-default.is-0 c.requires.runs
    c.fetch_at.ensures.verified c.fetch_at.ensures.read refl refl
    (begun_one (marked_once (begun_behind (begun_behind c.args.steps.now))))
    to.new.frame to.new.run to.new.steps host host (did host))

pub returns-in-JumpIfTrue-default-clause-stepped : goal.returns-in-JumpIfTrue-default-clause-stepped
returns-in-JumpIfTrue-default-clause-stepped g c =
    let p = c.args.context.program.now in
    let e = c.args.context.engine.now in
    let f = moved c.args.frame.now c.args.at in
    let s = loaded (loaded c.args.run.now c.args.first) c.args.second in
    let to = c.pair_branch_to-in-JumpIfTrue-default in
    let x = c.args.first in
    let y = c.args.second in
    let x_fits : FitsSigned w64 x = search rules in
    let y_fits : FitsSigned w64 y = search rules in
    tried to.result
    (rw (to_z-of_z w64 x x_fits, to_z-of_z w64 y y_fits) at to.ensures.implements)
    (λ did host. stepped g.H.Host.law p e f (judged s c.args.truth)
    c.fetch_at.result.0 (op.JumpIfTrue c.in-JumpIfTrue-default.target) c.fetch_at.result.1
    c.in-JumpIfTrue-default.is-0 c.requires.runs
    c.fetch_at.ensures.verified c.fetch_at.ensures.read refl refl
    (begun_one (marked_once (begun_behind (begun_behind c.args.steps.now))))
    to.new.frame to.new.run to.new.steps host host (did host))
