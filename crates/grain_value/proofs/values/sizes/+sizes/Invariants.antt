-- The total is that of the values that were gone over.
use Rattle.std.proofs.Common.{◌≡◌, ◌++◌, take}
use Rattle.grain_value.specs.View.{trees, entries_view}
use Rattle.grain_value.specs.Maps.{Entries}
use Rattle.grain_value.specs.Sizes.{array_sizes, map_sizes, counted}
use Rattle.grain_value.proofs.values.sizes.+sizes.Given as goal

abbrev pub invariant-calc_array_sizes-loop-value : goal.invariant-calc_array_sizes-loop-value
invariant-calc_array_sizes-loop-value l =
    l.total ≡ counted (array_sizes (trees (take l.value-index l.value-items)))

abbrev pub invariant-calc_map_sizes-loop-value : goal.invariant-calc_map_sizes-loop-value
invariant-calc_map_sizes-loop-value l =
    (done : Entries) × (l.map ≡ done ++ entries_view l.value-iterator)
    × (l.total ≡ counted (map_sizes done))
