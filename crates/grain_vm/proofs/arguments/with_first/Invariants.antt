-- What is left to copy comes after what was copied.
use Rattle.std.proofs.Common.{◌≡◌, ◌++◌, ◌∷◌, drop}
use Rattle.grain_value.specs.View.{tree}
use Rattle.grain_vm.proofs.arguments.with_first.Given as goal

abbrev pub invariant-others : goal.invariant-others
invariant-others l = l.all ++ drop l.index l.fn.others ≡ tree l.first ∷ l.fn.others
