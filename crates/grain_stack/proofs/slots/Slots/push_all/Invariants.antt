-- What was pushed, and what will be.
use Rattle.std.proofs.Common.{◌≡◌, ◌≤◌, ◌+◌, ◌++◌, length, reverse}
use Rattle.grain_stack.proofs.slots.Slots.push_all.Given as goal

abbrev pub invariant-push : goal.invariant-push
invariant-push l = record {
  all : l.self.operands ++ reverse l.taken.items
      ≡ l.initial.self.operands ++ reverse l.initial.taken.items;
  room : length l.self.operands + length l.taken.items ≤ l.self.slots;
  slots : l.self.slots ≡ l.initial.self.slots;
}

abbrev pub decreases-push : goal.decreases-push
decreases-push l = length l.taken.items
