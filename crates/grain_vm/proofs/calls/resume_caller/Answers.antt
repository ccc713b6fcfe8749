use Rattle.std.proofs.Common.{ap, refl}
use Rattle.grain_frame.specs.Abstraction.{abstraction}
use Rattle.grain_frame.specs.declared.runs.Run.{Run}
use Rattle.grain_vm.specs.Calls.{caller_of}
use Rattle.grain_vm.proofs.Calling.{memory_passes}
use Rattle.grain_vm.proofs.calls.resume_caller.Goals as goal

pub returns-in-Fault-clause-same : goal.returns-in-Fault-clause-same
returns-in-Fault-clause-same g c = λ host.
    rw (c.in-Ok.is, c.in-Fault.is)
    (rw c.leave_call.ensures at (c.propagate.ensures.same c.args.frame.now host refl))

pub returns-in-Err-clause-same : goal.returns-in-Err-clause-same
returns-in-Err-clause-same g c = λ host.
    rw c.in-Err.is
    (memory_passes c.args.frame.now (caller_of c.args.run.now) c.leave_call-in-Err.new.run
    c.args.function.now c.args.next c.args.steps.now host
    (ap (λ (q : Run g.row.H.Denot). abstraction q c.args.steps.now host)
    c.leave_call-in-Err.ensures))
