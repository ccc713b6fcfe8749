-- The instruction that was fetched is the one at which the frame stands.
use Rattle.std.proofs.Common.{refl}
use Rattle.grain_frame.specs.lemmas.Arms.{ready, stands}
use Rattle.grain_vm.proofs.stepping.step_plain.Goals as goal

pub perform-requires-clause-stands : goal.perform-requires-clause-stands
perform-requires-clause-stands g c =
    stands g.H.Host.law c.args.context.program.now c.args.context.engine.now c.args.frame.now
    c.args.run.now c.fetch-op.result.0 c.fetch-op.result.0 c.fetch-op.result.1
    refl c.requires.runs c.fetch-op.ensures.verified
    c.fetch-op.ensures.read

pub perform-requires-clause-ready : goal.perform-requires-clause-ready
perform-requires-clause-ready g c =
    ready g.H.Host.law c.args.context.program.now c.args.context.engine.now c.args.frame.now
    c.args.run.now c.fetch-op.result.0 c.fetch-op.result.0 c.fetch-op.result.1
    refl c.requires.runs c.fetch-op.ensures.verified
