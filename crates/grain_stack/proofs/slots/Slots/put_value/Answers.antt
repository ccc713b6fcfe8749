-- The value lies below the height.
use Rattle.std.proofs.Common.{◌≡◌, ◌<◌, take, refl, ap}
use Rattle.grain_value.specs.declared.values.Held.{Held}
use Rattle.grain_stack.specs.Filled.{Filled, operand_at}
use Rattle.grain_stack.proofs.Lists.{set_taken, at_taken, below_height, set_length}
use Rattle.grain_stack.proofs.slots.Slots.put_value.Goals as goal

pub returns : goal.returns
returns c =
    let h = c.self.inside.height in
    let xs = c.self.inside.slots.items in
    let operands = ap (λ (v : Filled). v.operands) c.self.view_is in
    let low : c.args.index < h = below_height c.args.index h xs (rw operands c.requires.there) in
    let held : Held = record c.index_mut.result.now { value = c.args.value } in
    let at : operand_at c.args.index (take h xs) ≡ c.index_mut.result.now =
    at_taken c.args.index h xs c.index_mut.result.now low c.self.invariant
    c.index_mut.ensures.value in
    rw (
      ← c.self.view_is,
      at,
      set_taken h c.args.index xs held low,
      set_length xs c.args.index held,
    ) refl
