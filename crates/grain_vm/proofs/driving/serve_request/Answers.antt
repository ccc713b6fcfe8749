-- What came of a request.
use Rattle.std.proofs.Common.{refl}
use Rattle.grain_means.specs.Means.{setup}
use Rattle.grain_vm.specs.Driving.{is_named}
use Rattle.grain_vm.proofs.Invoking.{serves_native, serves_out}
use Rattle.grain_vm.proofs.driving.serve_request.Goals as goal

pub returns-in-Native-clause-serves : goal.returns-in-Native-clause-serves
returns-in-Native-clause-serves g c =
    let m = setup g.H.Host.law c.args.context.program.now c.args.context.engine.now in
    serves_native m c.args.request c.args.run.now c.perform_request.new.run c.args.steps.now
    c.perform_request.new.steps c.args.host.now c.perform_request.new.host
    c.perform_request.result c.in-Native.request (rw c.in-Native.is at c.in-Ok.ensures)
    (c.perform_request.ensures.same m (is_named c.args.request.what) refl)
    c.perform_request.ensures.lent c.perform_request.ensures.apart

pub returns-in-Err-clause-serves : goal.returns-in-Err-clause-serves
returns-in-Err-clause-serves g c =
    serves_out (setup g.H.Host.law c.args.context.program.now c.args.context.engine.now)
    c.args.request c.args.run.now c.args.steps.now c.args.host.now c.in-Err.request c.in-Err.ensures
