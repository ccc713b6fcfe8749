-- The entries that stay are as they were, and the slots of the others are spare.
use Rattle.std.proofs.Common.{◌≡◌, ◌-◌, take}
use Rattle.grain_value.specs.Spare.{IsSpareFrom}
use Rattle.grain_value.proofs.scopes.Scope.rewind.Given as goal

abbrev pub invariant-forget : goal.invariant-forget
invariant-forget l = record {
  spare : IsSpareFrom l.self-inside.height l.self-inside.slots.items;
  kept : take l.n (take l.self-inside.height l.self-inside.slots.items)
      ≡ take l.n (take l.initial.self-inside.height l.initial.self-inside.slots.items);
}

abbrev pub decreases-forget : goal.decreases-forget
decreases-forget l = l.self-inside.height - l.n
