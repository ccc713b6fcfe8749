use Rattle.std.proofs.Common.{◌≡◌, length, take, false, ap, ◌∙◌, refl, arith}
use Rattle.grain_stack.specs.Views.{StacksView}
use Rattle.grain_stack.specs.Floors.{frames_on, floors, belongings}
use Rattle.grain_stack.proofs.Nesting.{note_room, noted_sound}
use Rattle.grain_stack.proofs.stacks.Stacks.note.Goals as goal

pub unreachable-requires : goal.unreachable-requires
unreachable-requires c =
    let first : c.self.inside.noted ≡ false =
    ap (λ (v : StacksView). v.noted) c.self.view_is ∙ c.requires.first in
    let outer :
    length (frames_on (take c.self.inside.bottom c.self.inside.slots.operands)
    (belongings c.self.inside) (floors c.self.inside)) ≡ length c.args.self.now.outer =
    ap (λ (v : StacksView). length v.outer) c.self.view_is in
    omega (
      arith,
      note_room c.self.inside (take c.self.inside.bottom c.self.inside.slots.operands)
          c.self.invariant first (omega (arith, outer, c.requires.entered)),
      c.in-Err.ensures.full,
    )

pub invariant_of-self : goal.invariant_of-self
invariant_of-self c =
    let first : c.self.inside.noted ≡ false =
    ap (λ (v : StacksView). v.noted) c.self.view_is ∙ c.requires.first in
    let outer :
    length (frames_on (take c.self.inside.bottom c.self.inside.slots.operands)
    (belongings c.self.inside) (floors c.self.inside)) ≡ length c.args.self.now.outer =
    ap (λ (v : StacksView). length v.outer) c.self.view_is in
    noted_sound c.self.inside _ c.args.fault
    (take c.self.inside.bottom c.self.inside.slots.operands) c.self.invariant first
    (omega (arith, outer, c.requires.entered)) refl refl refl refl refl c.in-Ok.ensures.items
    c.in-Ok.ensures.capacity refl
