-- What was taken so far, and what is left of it, are all pairs; a value is left with each key.
use Rattle.std.proofs.Common.{◌≡◌, ◌+◌, ℕ, Some, length, reverse}
use Rattle.grain_value.specs.Cells.{flat}
use Rattle.grain_value.specs.Maps.{Entries}
use Rattle.grain_value.specs.Operands.{arguments}
use Rattle.grain_value.specs.declared.values.Dynamic.TheVariants as dynamic
use Rattle.grain_means.specs.Rules.{PairsAre, operand_under, pairs_of}
use Rattle.grain_frame.proofs.runs.Run.take_map.Given as goal

abbrev pub invariant-pairs : goal.invariant-pairs
invariant-pairs g l = record {
  many : (n : ℕ) × (length l.taken.items ≡ n + n);
  are : (ds : Entries) × (pairs_of l.fn.self.cells (reverse l.taken.items) l.map ≡ PairsAre ds)
      × ((es fs : Entries) →
      flat l.fn.self.cells (operand_under (l.fn.count + l.fn.count) l.fn.self.stacks.operands).value
      ≡ Some (dynamic.Map es) →
      pairs_of l.fn.self.cells (arguments (l.fn.count + l.fn.count) l.fn.self.stacks.operands) es
      ≡ PairsAre fs → fs ≡ ds);
}

abbrev pub decreases-pairs : goal.decreases-pairs
decreases-pairs g l = length l.taken.items
