use Rattle.std.proofs.Common.{length}
use Rattle.grain_vm.proofs.Offering.{LeftUntil}
use Rattle.grain_vm.proofs.catching.leave_caught.Given as goal

abbrev pub invariant-loop-handler : goal.invariant-loop-handler
invariant-loop-handler g l = LeftUntil l.fn.run l.run

abbrev pub decreases-loop-handler : goal.decreases-loop-handler
decreases-loop-handler g l = length l.run.stacks.handlers
