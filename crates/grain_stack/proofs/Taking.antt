-- The last operands of the innermost frame are taken off, and nothing else changes.
use Rattle.std.proofs.Common.{◌≡◌, ◌∙◌, ◌≤◌, ℕ, ◌-◌, Bool, true, false, if◌then◌else◌, length, drop, refl, ap, arith, length-drop}
use Rattle.grain_value.specs.Operands.{under, arguments}
use Rattle.grain_stack.specs.declared.stacks.Stacks.TheInside.{Inside}
use Rattle.grain_stack.specs.Filled.{Filled}
use Rattle.grain_stack.specs.Views.{StacksView}
use Rattle.grain_stack.specs.Floors.{stacks_view, IsSound}
use Rattle.grain_stack.proofs.Lists.{length_front, under_frame, under_others}
use Rattle.grain_stack.proofs.Nesting.{changed_sound}
use Rattle.grain_stack.proofs.Spreading.{arguments_own}

-- the slots without the last n operands, if they were taken
abbrev pub cut_off : Bool → ℕ → Filled → Filled
cut_off ok n f = if ok then record f { operands = under n f.operands } else f

-- the frame's operands are as many as these
own_long : (s : Inside) (old : StacksView) (n : ℕ) → stacks_view s ≡ old →
    n ≤ length old.operands → n ≤ length (drop s.bottom s.slots.operands)
own_long s old n is le =
    omega (arith, ap (λ (v : StacksView). length v.operands) is, le)

pub off_left : (ok : Bool) (s : Inside) (old : StacksView) (t : Filled) (n : ℕ) → IsSound s →
    stacks_view s ≡ old → n ≤ length old.operands → t ≡ cut_off ok n s.slots →
    stacks_view (record s { slots = t }) ≡
    (if ok then record old { operands = under n old.operands } else old)
off_left true s old t n i is le cut =
    let own = own_long s old n is le in
    rw (
      cut,
      ← is,
      under_frame s.bottom n s.slots.operands own i.bottom,
      under_others s.bottom n s.slots.operands own i.bottom,
    ) refl
off_left false s old t n i is le cut = rw cut is

pub off_sound : (ok : Bool) (s : Inside) (old : StacksView) (t : Filled) (n : ℕ) → IsSound s →
    stacks_view s ≡ old → n ≤ length old.operands → t ≡ cut_off ok n s.slots →
    IsSound (record s { slots = t })
off_sound true s old t n i is le cut =
    let xs = s.slots.operands in
    let own = own_long s old n is le in
    let high : s.bottom ≤ length t.operands = omega (
      arith,
      ap (λ (f : Filled). length f.operands) cut,
      length_front (length xs - n) xs (omega arith),
      length-drop s.bottom xs,
      own,
      i.bottom,
    ) in
    let room : s.slots.slots ≤ t.slots = omega (arith, ap (λ (f : Filled). f.slots) cut) in
    changed_sound s (record s { slots = t }) i high room refl refl refl refl refl (omega arith) refl
off_sound false s old t n i is le cut = rw cut i

-- they are the last ones of all
pub off_taken : (s : Inside) (old : StacksView) (n : ℕ) → IsSound s → stacks_view s ≡ old →
    n ≤ length old.operands → arguments n s.slots.operands ≡ arguments n old.operands
off_taken s old n i is le =
    let xs = s.slots.operands in
    arguments_own s.bottom n xs
    (omega (arith, own_long s old n is le, i.bottom, length-drop s.bottom xs))
    ∙ ap (λ (v : StacksView). arguments n v.operands) is
