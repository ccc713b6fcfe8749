-- The values so far, and those that are left, as they are read.
use Rattle.std.proofs.Common.{◌≡◌, List, [], Option, drop, map}
use Rattle.grain_value.specs.View.{value_of}
use Rattle.grain_value.specs.Operands.{read_write}
use Rattle.grain_value.specs.declared.values.Held.{Held}
use Rattle.grain_means.specs.Rules.{flat_all}
use Rattle.grain_vm.specs.Driving.{DescribesAfter}
use Rattle.grain_vm.proofs.Reading.{joined}
use Rattle.grain_vm.proofs.arguments.read_on.Given as goal

abbrev pub invariant-values : goal.invariant-values
invariant-values l = (before : List Held)
    × ((x : Option Held) → DescribesAfter x l.fn.begun [] → DescribesAfter x l.arguments before)
    × (flat_all l.cells (map read_write (map value_of l.values))
    ≡ joined before (flat_all l.cells
    (map read_write (map value_of (drop l.index l.values)))))
