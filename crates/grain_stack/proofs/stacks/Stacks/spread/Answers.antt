-- The values take their place among the frame's own operands.
use Rattle.std.proofs.Common.{◌<◌, ◌+◌, length, map, is_ok, refl, ap, arith, length-drop}
use Rattle.grain_value.specs.Operands.{read_write}
use Rattle.grain_stack.specs.Views.{StacksView}
use Rattle.grain_stack.proofs.Nesting.{changed_sound}
use Rattle.grain_stack.proofs.Spreading.{spread_high, spread_own}
use Rattle.grain_stack.proofs.stacks.Stacks.spread.Goals as goal

pub invariant_of-self : goal.invariant_of-self
invariant_of-self c =
    let s = c.self.inside in
    let own = ap (λ (v : StacksView). length v.operands) c.self.view_is in
    let lt : s.bottom + c.args.depth < length s.slots.operands =
    omega (arith, own, c.requires.there, length-drop s.bottom s.slots.operands) in
    changed_sound s _ c.self.invariant
    (spread_high (is_ok c.spread.result) s.bottom c.args.depth s.slots.operands
    c.spread.new.self.operands (map read_write c.args.values.items) lt c.spread.ensures.operands)
    c.spread.ensures.slots refl refl refl refl refl (omega arith) refl

pub returns-clause-operands : goal.returns-clause-operands
returns-clause-operands c =
    let s = c.self.inside in
    let own = ap (λ (v : StacksView). length v.operands) c.self.view_is in
    let lt : s.bottom + c.args.depth < length s.slots.operands =
    omega (arith, own, c.requires.there, length-drop s.bottom s.slots.operands) in
    rw (← c.self.view_is)
    (spread_own c.spread.result s.bottom c.args.depth s.slots.operands c.spread.new.self.operands
    (map read_write c.args.values.items) lt c.spread.ensures.operands)
