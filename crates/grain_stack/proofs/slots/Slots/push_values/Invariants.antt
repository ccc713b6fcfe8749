-- What was pushed, and what will be.
use Rattle.std.proofs.Common.{◌≡◌, ◌≤◌, ◌+◌, ◌++◌, length, map}
use Rattle.std.specs.Vec.Iter.{into_iter_items, into_iter_len}
use Rattle.grain_value.specs.Operands.{read_write}
use Rattle.grain_stack.proofs.slots.Slots.push_values.Given as goal

abbrev pub invariant-push : goal.invariant-push
invariant-push l = record {
  all : l.self.operands ++ map read_write (into_iter_items l.value-iterator)
      ≡ l.initial.self.operands ++ map read_write (into_iter_items l.initial.value-iterator);
  many : into_iter_len l.value-iterator ≡ length (into_iter_items l.value-iterator);
  room : length l.self.operands + length (into_iter_items l.value-iterator) ≤ l.self.slots;
  slots : l.self.slots ≡ l.initial.self.slots;
}
