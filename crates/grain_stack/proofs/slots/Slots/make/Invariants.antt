use Rattle.std.proofs.Common.{◌≡◌, ◌+◌, ◌≤◌, length, take}
use Rattle.grain_stack.proofs.slots.Slots.make.Given as goal

-- the operands are as they were, and each turn has made a slot
abbrev pub invariant-make : goal.invariant-make
invariant-make l = record {
  height : l.self-inside.height ≡ l.initial.self-inside.height;
  within : l.initial.self-inside.height ≤ length l.initial.self-inside.slots.items;
  long : length l.self-inside.slots.items
      ≡ length l.initial.self-inside.slots.items + l.counter;
  kept : take l.self-inside.height l.self-inside.slots.items
      ≡ take l.initial.self-inside.height l.initial.self-inside.slots.items;
}
