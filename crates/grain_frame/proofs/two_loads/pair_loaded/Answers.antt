-- The operator is done from where the second load would have left the frame.
use Rattle.std.proofs.Common.{rules, inl, refl, w64, FitsSigned}
use Rattle.std.proofs.lemmas.Int.{to_z-of_z}
use Rattle.grain_program.specs.declared.code.instruction_set.Op.TheVariants as op
use Rattle.grain_frame.specs.Abstraction.{moved}
use Rattle.grain_frame.specs.lemmas.Arms.{is_typed, leads_typed, ready}
use Rattle.grain_frame.specs.Following.{loaded, begun_behind}
use Rattle.grain_frame.proofs.Loading.{stepped_on}
use Rattle.grain_frame.proofs.Tried.{tried}
use Rattle.grain_frame.proofs.two_loads.pair_loaded.Goals as goal

pub fetch_at-requires : goal.fetch_at-requires
fetch_at-requires g c =
    is_typed c.args.context.program.now (moved c.args.frame.now c.args.at)
    (loaded (loaded c.args.run.now c.args.first) c.args.second) c.requires.runs

pub pair_operated-requires-clause-ready : goal.pair_operated-requires-clause-ready
pair_operated-requires-clause-ready g c =
    let p = c.args.context.program.now in
    let e = c.args.context.engine.now in
    let f = moved c.args.frame.now c.args.at in
    let x = c.args.first in
    let y = c.args.second in
    let x_fits : FitsSigned w64 x = search rules in
    let y_fits : FitsSigned w64 y = search rules in
    let s = loaded (loaded c.args.run.now x) y in
    let o = op.CallOp c.in-CallOp-default.name c.in-CallOp-default.count c.in-CallOp-default.token in
    rw (to_z-of_z w64 x x_fits, to_z-of_z w64 y y_fits)
    (ready g.H.Host.law p e f s c.fetch_at.result.0 o c.fetch_at.result.1 c.in-CallOp-default.is-0
    c.requires.runs c.fetch_at.ensures.verified)

pub pair_operated-requires-clause-typed : goal.pair_operated-requires-clause-typed
pair_operated-requires-clause-typed g c =
    let p = c.args.context.program.now in
    let e = c.args.context.engine.now in
    let f = moved c.args.frame.now c.args.at in
    let s = loaded (loaded c.args.run.now c.args.first) c.args.second in
    let o = op.CallOp c.in-CallOp-default.name c.in-CallOp-default.count c.in-CallOp-default.token
    in
    let x = c.args.first in
    let y = c.args.second in
    let x_fits : FitsSigned w64 x = search rules in
    let y_fits : FitsSigned w64 y = search rules in
    rw (to_z-of_z w64 x x_fits, to_z-of_z w64 y y_fits)
    (leads_typed g.H.Host.law p e f s c.fetch_at.result.0 o c.fetch_at.result.1 c.in-CallOp-default.is-0 c.requires.runs c.fetch_at.ensures.verified refl refl _ (inl refl))

pub returns-in-CallOp-default-clause-stepped : goal.returns-in-CallOp-default-clause-stepped
returns-in-CallOp-default-clause-stepped g c =
    let p = c.args.context.program.now in
    let e = c.args.context.engine.now in
    let f = moved c.args.frame.now c.args.at in
    let s = loaded (loaded c.args.run.now c.args.first) c.args.second in
    let o = op.CallOp c.in-CallOp-default.name c.in-CallOp-default.count c.in-CallOp-default.token
    in
    let did = c.pair_operated in
    let x = c.args.first in
    let y = c.args.second in
    let x_fits : FitsSigned w64 x = search rules in
    let y_fits : FitsSigned w64 y = search rules in
    tried did.result
    (rw (to_z-of_z w64 x x_fits, to_z-of_z w64 y y_fits) at did.ensures.performs)
    (λ does host. stepped_on g.H.Host.law p e f s c.fetch_at.result.0 o c.fetch_at.result.1 c.in-CallOp-default.is-0 c.requires.runs c.fetch_at.ensures.verified
    c.fetch_at.ensures.read refl refl (begun_behind (begun_behind c.args.steps.now)) did.new.frame
    did.new.run did.new.steps host (does host))
