-- The frame around it has lost the arguments, and there is room for the new one after what is left.
use Rattle.std.proofs.Common.{◌≡◌, ◌∙◌, ◌-◌, ◌≤◌, ◌++◌, ◌∷◌, [], ℕ, List, false, length, drop, take, refl, ap, arith, rules, length-append, length-drop}
use Rattle.std.proofs.lemmas.List.{take-append-le}
use Rattle.std.proofs.Math.Seq.{take-length}
use Rattle.grain_value.specs.Operands.{under}
use Rattle.grain_stack.proofs.Belonging.{entered_view}
use Rattle.grain_stack.proofs.Lists.{length_front}
use Rattle.grain_stack.specs.Filled.{Filled}
use Rattle.grain_stack.specs.Views.{StacksView, with_frame}
use Rattle.grain_stack.specs.Floors.{IsSound}
use Rattle.grain_stack.specs.declared.floors.Floor.{Floor}
use Rattle.grain_stack.specs.declared.stacks.Stacks.TheInside.{Inside}
use Rattle.grain_stack.proofs.Nesting.{same_sound, changed_sound, entered_sound, less_view}
use Rattle.grain_stack.proofs.stacks.Stacks.enter_with_arguments.Goals as goal

-- the frame without its last operands
fewer_sound : (s : Inside) (v : Filled) (k : ℕ) → IsSound s →
    v.operands ≡ under k s.slots.operands → s.slots.slots ≤ v.slots →
    k ≤ length (drop s.bottom s.slots.operands) → IsSound (record s { slots = v })
fewer_sound s v k i e more le =
    changed_sound s _ i
    (omega (
      arith,
      i.bottom,
      le,
      ap length e,
      length_front (length s.slots.operands - k) s.slots.operands (omega arith),
      length-drop s.bottom s.slots.operands,
    )) more refl refl refl refl refl (omega arith) refl

-- a list without the one that was put at its end
without_last : (l : List Floor) (f : Floor) → take (length (l ++ f ∷ []) - 1) (l ++ f ∷ []) ≡ l
without_last l f =
    let long : length (l ++ f ∷ []) - 1 ≡ length l = omega (arith, length-append l (f ∷ [])) in
    ap (λ (n : ℕ). take n (l ++ f ∷ [])) long
    ∙ take-append-le (length l) l (f ∷ []) (omega arith) ∙ take-length l

pub invariant_of-self : goal.invariant_of-self
invariant_of-self c =
    same_sound c.self.inside _ c.self.invariant c.reserve.ensures.operands c.reserve.ensures.slots
    refl refl refl refl refl (omega arith) refl

pub invariant_of-self-in_err-reserve-2 : goal.invariant_of-self-in_err-reserve-2
invariant_of-self-in_err-reserve-2 c =
    same_sound c.self.inside _ c.self.invariant c.reserve.ensures.operands c.reserve.ensures.slots
    refl refl refl refl c.reserve-2.ensures.items c.reserve-2.ensures.capacity refl

pub invariant_of-self-in_err-push : goal.invariant_of-self-in_err-push
invariant_of-self-in_err-push c =
    same_sound c.self.inside _ c.self.invariant c.reserve.ensures.operands c.reserve.ensures.slots
    refl refl refl c.in_err-push.ensures c.reserve-2.ensures.items
    c.reserve-2.ensures.capacity refl

pub invariant_of-self-in-Err : goal.invariant_of-self-in-Err
invariant_of-self-in-Err c =
    same_sound c.self.inside _ c.self.invariant
    (ap (λ (v : Filled). v.operands) c.in-Err.ensures.operands ∙ c.reserve.ensures.operands)
    (omega (
      arith,
      c.reserve.ensures.slots,
      ap (λ (v : Filled). v.slots) c.in-Err.ensures.operands,
    ))
    refl refl refl
    (c.pop.ensures.rest ∙ ap (λ (l : List Floor). take (length l - 1) l) c.in_ok-push.ensures
    ∙ without_last c.self.inside.outer _)
    c.reserve-2.ensures.items c.reserve-2.ensures.capacity refl

pub invariant_of-self-2 : goal.invariant_of-self-2
invariant_of-self-2 c =
    let s = c.self.inside in
    let v = c.bind_arguments.new.self in
    let k = length c.args.params.now in
    let own = ap (λ (v : StacksView). length v.operands) c.self.view_is in
    let ops = ap (λ (v : Filled). v.operands) c.in-Ok.ensures.operands
    ∙ ap (under k) c.reserve.ensures.operands in
    let more = ap (λ (v : Filled). v.slots) c.in-Ok.ensures.operands in
    let le : k ≤ length (drop s.bottom s.slots.operands) = omega (arith, own, c.requires.there) in
    let sound : IsSound (record s { slots = v }) =
    fewer_sound s v k c.self.invariant ops (omega (arith, more, c.reserve.ensures.slots)) le in
    entered_sound (record s { slots = v }) _ _ sound refl (omega arith)
    c.len-self-inside.ensures.value
    (omega (
      arith,
      c.len-self-inside.ensures.value,
      ap length ops,
      length_front (length s.slots.operands - k) s.slots.operands (omega arith),
      more,
      c.in_ok-reserve.ensures.room,
    )) refl c.in_ok-push.ensures refl refl refl
    c.reserve-2.ensures.items
    (omega (arith, c.in_ok-reserve-2.ensures.ok, c.len-depth.ensures.value, c.reserve-2.ensures.len)) refl

pub returns-clause-frames : goal.returns-clause-frames
returns-clause-frames c =
    let s = c.self.inside in
    let v = c.bind_arguments.new.self in
    let k = length c.args.params.now in
    let own = ap (λ (v : StacksView). length v.operands) c.self.view_is in
    let ops = ap (λ (v : Filled). v.operands) c.in-Ok.ensures.operands
    ∙ ap (under k) c.reserve.ensures.operands in
    let le : k ≤ length (drop s.bottom s.slots.operands) = omega (arith, own, c.requires.there) in
    let entered : Inside = record s {
      slots = v;
      bottom = c.len-self-inside.result;
      room = c.from-room.result;
      noted = false;
      outer = c.push.new.self;
      trace = c.reserve-2.new.self;
      entered = c.saturating_add-entered.result;
    } in
    let floor : Floor = record { bottom = s.bottom; room = s.room; noted = s.noted } in
    rw (← c.self.view_is)
    (entered_view (record s { slots = v }) entered floor c.args.operands c.self.invariant.ordered
    refl c.len-self-inside.ensures.value c.from-room.ensures
    refl c.in_ok-push.ensures refl refl refl refl c.reserve-2.ensures.items (search rules)
    ∙ ap (with_frame c.args.operands) (less_view s v k ops le c.self.invariant.bottom))
