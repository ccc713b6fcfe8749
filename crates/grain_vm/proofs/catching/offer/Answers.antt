-- What `catch` says of the target is said of the address.
use Rattle.std.proofs.Common.{ℕ, Option, Ok, subst}
use Rattle.grain_vm.specs.Catching.{CaughtAt}
use Rattle.grain_frame.specs.Abstraction.{frame_in}
use Rattle.grain_vm.proofs.CaughtFrames.{caught_so}
use Rattle.grain_vm.proofs.catching.offer.Goals as goal

pub returns-in-Some-clause-goes : goal.returns-in-Some-clause-goes
returns-in-Some-clause-goes g c = λ f at low slot.
    caught_so (frame_in f c.catch.new.run) c.catch.new.run.fault c.in-Some.is
    (c.in-Ok.ensures.goes f at low slot)

pub returns-in-Some-clause-typed : goal.returns-in-Some-clause-typed
returns-in-Some-clause-typed g c = λ f can.
    subst (λ (o : Option ℕ). CaughtAt c.args.context.program.now f c.catch.new.run (Ok o))
    c.in-Some.is (c.in-Ok.ensures.typed f can)

pub returns-in-None-clause-goes : goal.returns-in-None-clause-goes
returns-in-None-clause-goes g c = λ f at low slot.
    caught_so (frame_in f c.catch.new.run) c.catch.new.run.fault c.in-None.is
    (c.in-Ok.ensures.goes f at low slot)
