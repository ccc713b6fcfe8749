-- What was taken, and what is left.
use Rattle.std.proofs.Common.{◌≡◌, ◌≤◌, reverse}
use Rattle.std.specs.Vec.{vec_len, vec_capacity}
use Rattle.grain_value.specs.Operands.{under, arguments}
use Rattle.grain_stack.proofs.slots.Slots.take_off.Given as goal

abbrev pub invariant-take : goal.invariant-take
invariant-take l = record {
  taken : l.taken.items ≡ reverse (arguments l.counter l.initial.self.operands);
  many : vec_len l.taken ≡ l.counter;
  room : l.count ≤ vec_capacity l.taken;
  left : l.self ≡ record l.initial.self { operands = under l.counter l.initial.self.operands };
}
