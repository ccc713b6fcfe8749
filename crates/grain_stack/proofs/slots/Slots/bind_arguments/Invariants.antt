-- What is bound, and what the parameters and the operands that are left will be bound to. The
-- operands would have their values again if the new entries gave them back.
use Rattle.std.proofs.Common.{◌≡◌, ◌+◌, ◌++◌, drop, take, length}
use Rattle.grain_value.specs.Operands.{bound_entries}
use Rattle.grain_stack.specs.Regained.{regained}
use Rattle.grain_stack.proofs.slots.Slots.bind_arguments.Given as goal

abbrev pub invariant-bind : goal.invariant-bind
invariant-bind l = record {
  scope : l.scope ++ bound_entries l.names (drop l.index l.params)
      (drop (l.first + l.index) l.self.operands)
      ≡ l.fn.scope ++ bound_entries l.names l.params (drop l.first l.initial.self.operands);
  front : take (length l.fn.scope) l.scope ≡ l.fn.scope;
  entries : length l.scope ≡ length l.fn.scope + l.index;
  back : regained l.first (drop (length l.fn.scope) l.scope) l.self.operands
      ≡ l.initial.self.operands;
  below : take l.first l.self.operands ≡ take l.first l.initial.self.operands;
  height : length l.self.operands ≡ length l.initial.self.operands;
  slots : l.self.slots ≡ l.initial.self.slots;
}
