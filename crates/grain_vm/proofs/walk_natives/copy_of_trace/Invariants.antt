-- What is left to copy comes after what was copied.
use Rattle.std.proofs.Common.{◌≡◌, ◌++◌, drop}
use Rattle.grain_vm.proofs.walk_natives.copy_of_trace.Given as goal

abbrev pub invariant-entries : goal.invariant-entries
invariant-entries l = l.copy.items ++ drop l.entry-index l.trace ≡ l.trace
