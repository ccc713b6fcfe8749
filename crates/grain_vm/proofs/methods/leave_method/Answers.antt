use Rattle.std.proofs.Common.{rules}
use Rattle.grain_vm.proofs.MethodLeavings.{leaves_so}
use Rattle.grain_vm.proofs.methods.leave_method.Goals as goal

pub returns-clause-same : goal.returns-clause-same
returns-clause-same g c =
    leaves_so g.H.Host.law c.args.context.program.now c.args.context.engine.now c.args.pos
    c.args.function.now c.args.steps.now c.frame_outcome-outcome.new.steps c.args.run.now
    c.receiver_left-receiver.new.run c.frame_outcome-outcome.new.run.fault (search rules) c.args.end
    c.frame_outcome-outcome.result c.frame_outcome-outcome.ensures.gives
