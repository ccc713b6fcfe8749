use Rattle.std.proofs.Common.{◌≡◌, ◌++◌, take}
use Rattle.grain_value.specs.View.{trees, entries_view}
use Rattle.grain_value.specs.Maps.{IsAscending}
use Rattle.grain_value.proofs.values.+copy.Given as goal

abbrev pub invariant-Array::copy_values-loop-value : goal.invariant-Array::copy_values-loop-value
invariant-Array::copy_values-loop-value l = trees l.values.items ≡ trees (take l.value-index l.value-items)

abbrev pub invariant-Map::copy-loop-key : goal.invariant-Map::copy-loop-key
invariant-Map::copy-loop-key l =
    (l.self ≡ entries_view l.pairs.entries ++ entries_view l.key-iterator) × IsAscending l.self
