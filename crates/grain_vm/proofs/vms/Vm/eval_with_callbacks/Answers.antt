-- What the machine's run says of handlers that catch.
use Rattle.std.proofs.Common.{refl}
use Rattle.grain_vm.proofs.vms.Vm.eval_with_callbacks.Goals as goal

pub returns-clause-catches : goal.returns-clause-catches
returns-clause-catches g c = rw (← c.self.view_is) c.run_main.ensures.catches

pub returns-clause-headline : goal.returns-clause-headline
returns-clause-headline g c = rw (← c.self.view_is) (λ core. c.run_main.ensures.core refl core)
