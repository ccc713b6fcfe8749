use Rattle.grain_vm.proofs.Offering.{none_left, one_more_left}
use Rattle.grain_vm.proofs.catching.leave_caught.Goals as goal

pub loop-handler-init : goal.loop-handler-init
loop-handler-init g c = none_left c.args.run.now

pub loop-handler-preserved : goal.loop-handler-preserved
loop-handler-preserved g c =
    one_more_left c.args.run.now c.loop-handler.run c.rethrow.new.run c.pop_handler.new.self
    c.pop_handler.result _ c.loop-handler.invariant c.pop_handler.ensures
    c.in-Some-caught.is (rw c.in-Some-caught.is at c.rethrow.ensures.same) c.rethrow.ensures.others
