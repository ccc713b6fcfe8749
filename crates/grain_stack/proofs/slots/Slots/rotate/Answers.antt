use Rattle.std.proofs.Common.{◌≡◌, ◌<◌, ◌+◌, ◌-◌, ◌∙◌, length, take, refl, sym, ap}
use Rattle.std.proofs.lemmas.List.{with_items_is}
use Rattle.grain_value.specs.Operands.{rotated}
use Rattle.grain_stack.specs.Filled.{Filled, filled}
use Rattle.grain_stack.proofs.Lists.{below_height}
use Rattle.grain_stack.proofs.Rotated.{rotated_filled}
use borrow.Rule.Slice.PartMut.{put_mid}
use Rattle.grain_stack.proofs.slots.Slots.rotate.Goals as goal

pub returns : goal.returns
returns c =
    let h = c.self.inside.height in
    let a = h - (c.args.under + 1) in
    let xs = c.self.inside.slots.items in
    let ws = put_mid a (h - a) c.deref_mut.result.now c.rotate_right.new.self in
    let operands = ap (λ (v : Filled). v.operands) c.self.view_is in
    let low : c.args.under < h = below_height c.args.under h xs (rw operands c.requires.there) in
    let done : filled h ws ≡
    record { operands = rotated c.args.under (take h xs); slots = length xs } =
    rotated_filled h c.args.under a xs c.deref_mut.result.now c.rotate_right.new.self
    c.deref_mut.ensures.value refl low c.self.invariant c.rotate_right.ensures.after in
    let long : length ws ≡ c.self.inside.slots.len =
    ap (λ (v : Filled). v.slots) done ∙
    (sym (ap length c.deref_mut.ensures.value) ∙ c.deref_mut.ensures.len) in
    rw (← c.self.view_is, with_items_is c.self.inside.slots ws long) done
