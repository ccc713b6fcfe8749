-- What the entries that are left will give back.
use Rattle.std.proofs.Common.{◌≡◌, ◌+◌, length, take, drop}
use Rattle.grain_stack.specs.Regained.{regained}
use Rattle.grain_stack.proofs.slots.Slots.give_back.Given as goal

abbrev pub invariant-back : goal.invariant-back
invariant-back l = record {
  back : regained (l.first + l.index) (drop (l.base + l.index) l.scope) l.self.operands
      ≡ regained l.first (drop l.base l.fn.scope) l.initial.self.operands;
  slots : l.self.slots ≡ l.initial.self.slots;
  high : length l.self.operands ≡ length l.initial.self.operands;
  entries : length l.scope ≡ length l.fn.scope;
  front : take l.base l.scope ≡ take l.base l.fn.scope;
}
