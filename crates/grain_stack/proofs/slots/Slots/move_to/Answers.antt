-- The operand has another value, or all is as it was.
use Rattle.std.proofs.Common.{◌≡◌, ◌<◌, Bool, refl, ap, take}
use Rattle.grain_value.specs.declared.values.Held.{Held}
use Rattle.grain_stack.specs.Filled.{Filled, operand_at}
use Rattle.grain_stack.proofs.Lists.{set_taken, at_taken, below_height, set_length}
use Rattle.grain_stack.proofs.slots.Slots.move_to.Goals as goal

pub returns-clause-others : goal.returns-clause-others
returns-clause-others c =
    let h = c.self.inside.height in
    let xs = c.self.inside.slots.items in
    let held = c.push_moved.new.held in
    let operands = ap (λ (v : Filled). v.operands) c.self.view_is in
    let low : c.args.index < h = below_height c.args.index h xs (rw operands c.requires.there) in
    let at : operand_at c.args.index (take h xs) ≡ c.index_mut.result.now =
    at_taken c.args.index h xs c.index_mut.result.now low c.self.invariant
    c.index_mut.ensures.value in
    let same : held ≡ record c.index_mut.result.now { value = held.value } =
    ap (λ (f : Bool). (let x : Held = record { value = held.value; read_only = f } in x))
    c.push_moved.ensures.flag in (
      held.value,
      rw (
        ← c.self.view_is,
        at,
        ← same,
        set_taken h c.args.index xs held low,
        set_length xs c.args.index held,
      ) refl,
    )
