use Rattle.std.proofs.Common.{◌≡◌, ◌<◌, take, refl, ap}
use Rattle.grain_value.specs.declared.values.Held.{Held}
use Rattle.grain_value.specs.Operands.{read_write}
use Rattle.grain_stack.specs.Filled.{Filled, operand_at}
use Rattle.grain_stack.proofs.Lists.{set_taken, at_taken, below_height, set_length}
use Rattle.grain_stack.proofs.slots.Slots.make_read_write.Goals as goal

pub returns : goal.returns
returns c =
    let operands = ap (λ (v : Filled). v.operands) c.self.view_is in
    let low : c.args.index < c.self.inside.height = below_height c.args.index c.self.inside.height
    c.self.inside.slots.items (rw operands c.requires.there) in
    let held : Held = read_write c.index_mut.result.now.value in
    let at : operand_at c.args.index (take c.self.inside.height c.self.inside.slots.items) ≡
    c.index_mut.result.now = at_taken c.args.index c.self.inside.height
    c.self.inside.slots.items c.index_mut.result.now low c.self.invariant
    c.index_mut.ensures.value in
    rw (
      ← c.self.view_is,
      at,
      set_taken c.self.inside.height c.args.index c.self.inside.slots.items
          held low,
      set_length c.self.inside.slots.items c.args.index held,
    ) refl
