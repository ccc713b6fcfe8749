use Rattle.std.proofs.Common.{◌≡◌, ◌-◌, ◌≤◌, length, take}
use Rattle.grain_stack.proofs.slots.Slots.truncate.Given as goal

-- the operands that stay are as they were
abbrev pub invariant-drop : goal.invariant-drop
invariant-drop l = record {
  within : l.self-inside.height ≤ length l.self-inside.slots.items;
  above : l.height ≤ l.self-inside.height;
  long : length l.self-inside.slots.items ≡ length l.initial.self-inside.slots.items;
  kept : take l.height l.self-inside.slots.items
      ≡ take l.height l.initial.self-inside.slots.items;
}

abbrev pub decreases-drop : goal.decreases-drop
decreases-drop l = l.self-inside.height - l.height
