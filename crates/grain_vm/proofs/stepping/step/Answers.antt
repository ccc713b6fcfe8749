-- The instruction that was fetched is the one at which the frame stands.
use Rattle.std.proofs.Common.{refl}
use Rattle.grain_frame.specs.lemmas.Arms.{ready, stands}
use Rattle.grain_vm.proofs.WaitsAhead.{turned}
use Rattle.grain_vm.proofs.stepping.step.Goals as goal

pub perform-requires-clause-stands : goal.perform-requires-clause-stands
perform-requires-clause-stands g c =
    stands g.H.Host.law c.args.context.program.now c.args.context.engine.now c.args.frame.now
    c.args.run.now c.fetch.result.0 c.fetch.result.0 c.fetch.result.1
    refl c.requires.runs c.fetch.ensures.verified
    c.fetch.ensures.read

pub perform-requires-clause-ready : goal.perform-requires-clause-ready
perform-requires-clause-ready g c =
    ready g.H.Host.law c.args.context.program.now c.args.context.engine.now c.args.frame.now
    c.args.run.now c.fetch.result.0 c.fetch.result.0 c.fetch.result.1
    refl c.requires.runs c.fetch.ensures.verified

pub returns-in-Chain-default : goal.returns-in-Chain-default
returns-in-Chain-default g c =
    let at =
    stands g.H.Host.law c.args.context.program.now c.args.context.engine.now c.args.frame.now
    c.args.run.now c.fetch.result.0 c.fetch.result.0 c.fetch.result.1
    refl c.requires.runs c.fetch.ensures.verified
    c.fetch.ensures.read in
    record { steps = (rw c.in-Chain-default.is-0 at at, refl) }

pub returns-in-CallOp-default : goal.returns-in-CallOp-default
returns-in-CallOp-default g c =
    let at =
    stands g.H.Host.law c.args.context.program.now c.args.context.engine.now c.args.frame.now
    c.args.run.now c.fetch.result.0 c.fetch.result.0 c.fetch.result.1
    refl c.requires.runs c.fetch.ensures.verified
    c.fetch.ensures.read in
    record {
      steps = turned refl refl (rw c.in-CallOp-default.is-0 at at) c.requires.runs c.call_op.result
          c.of.result c.of.ensures c.call_op.ensures.performs;
    }

pub returns-in-AssignLocalOp-default : goal.returns-in-AssignLocalOp-default
returns-in-AssignLocalOp-default g c =
    let at =
    stands g.H.Host.law c.args.context.program.now c.args.context.engine.now c.args.frame.now
    c.args.run.now c.fetch.result.0 c.fetch.result.0 c.fetch.result.1
    refl c.requires.runs c.fetch.ensures.verified
    c.fetch.ensures.read in
    record {
      steps = turned refl refl (rw c.in-AssignLocalOp-default.is-0 at at) c.requires.runs
          c.assign_local_op.result c.of-in-AssignLocalOp-default.result
          c.of-in-AssignLocalOp-default.ensures c.assign_local_op.ensures.performs;
    }

pub returns-in-AssignThisOp-default : goal.returns-in-AssignThisOp-default
returns-in-AssignThisOp-default g c =
    let at =
    stands g.H.Host.law c.args.context.program.now c.args.context.engine.now c.args.frame.now
    c.args.run.now c.fetch.result.0 c.fetch.result.0 c.fetch.result.1
    refl c.requires.runs c.fetch.ensures.verified
    c.fetch.ensures.read in
    record {
      steps = turned refl refl (rw c.in-AssignThisOp-default.is-0 at at) c.requires.runs
          c.assign_this_op.result c.of-in-AssignThisOp-default.result
          c.of-in-AssignThisOp-default.ensures c.assign_this_op.ensures.performs;
    }

pub returns-in-InterpolateAppend-default : goal.returns-in-InterpolateAppend-default
returns-in-InterpolateAppend-default g c =
    let at =
    stands g.H.Host.law c.args.context.program.now c.args.context.engine.now c.args.frame.now
    c.args.run.now c.fetch.result.0 c.fetch.result.0 c.fetch.result.1
    refl c.requires.runs c.fetch.ensures.verified
    c.fetch.ensures.read in
    record {
      steps = turned refl refl (rw c.in-InterpolateAppend-default.is-0 at at) c.requires.runs
          c.interpolate_append.result c.of-in-InterpolateAppend-default.result
          c.of-in-InterpolateAppend-default.ensures c.interpolate_append.ensures.performs;
    }

pub returns-in-CallFnPtrMethod-default : goal.returns-in-CallFnPtrMethod-default
returns-in-CallFnPtrMethod-default g c =
    let at =
    stands g.H.Host.law c.args.context.program.now c.args.context.engine.now c.args.frame.now
    c.args.run.now c.fetch.result.0 c.fetch.result.0 c.fetch.result.1
    refl c.requires.runs c.fetch.ensures.verified
    c.fetch.ensures.read in
    record { steps = (rw c.in-CallFnPtrMethod-default.is-0 at at, refl) }

pub returns-in-CallFnPtrOnLocal-default : goal.returns-in-CallFnPtrOnLocal-default
returns-in-CallFnPtrOnLocal-default g c =
    let at =
    stands g.H.Host.law c.args.context.program.now c.args.context.engine.now c.args.frame.now
    c.args.run.now c.fetch.result.0 c.fetch.result.0 c.fetch.result.1
    refl c.requires.runs c.fetch.ensures.verified
    c.fetch.ensures.read in
    record { steps = (rw c.in-CallFnPtrOnLocal-default.is-0 at at, refl) }

pub returns-in-CallFnPtrOnThis-default : goal.returns-in-CallFnPtrOnThis-default
returns-in-CallFnPtrOnThis-default g c =
    let at =
    stands g.H.Host.law c.args.context.program.now c.args.context.engine.now c.args.frame.now
    c.args.run.now c.fetch.result.0 c.fetch.result.0 c.fetch.result.1
    refl c.requires.runs c.fetch.ensures.verified
    c.fetch.ensures.read in
    record { steps = (rw c.in-CallFnPtrOnThis-default.is-0 at at, refl) }
