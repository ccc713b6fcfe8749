-- The arguments so far, and those that are left, as they are read.
use Rattle.std.proofs.Common.{◌≡◌, ◌++◌, List, Some, drop}
use Rattle.grain_value.specs.declared.values.Held.{Held}
use Rattle.grain_means.specs.Rules.{flat_all}
use Rattle.grain_frame.specs.Natives.{Describes}
use Rattle.grain_frame.proofs.native_calls.Arguments.of.Given as goal

abbrev pub invariant-arguments : goal.invariant-arguments
invariant-arguments l = (done : List Held) × (left : List Held) × Describes l.arguments done
    × (flat_all l.cells (drop l.one-index l.held) ≡ Some left)
    × (flat_all l.cells l.held ≡ Some (done ++ left))
