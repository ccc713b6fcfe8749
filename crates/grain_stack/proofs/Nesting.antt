-- The floors stay in order, and their frames keep their room.
use Rattle.std.proofs.Common.{◌≡◌, ◌<◌, ◌≤◌, ℕ, zero, suc, ◌+◌, take, drop, List, [], ◌∷◌, ◌++◌, Bool, true, false, length, reverse, refl, sym, subst, ◌∙◌, ap, arith, length-append, length-drop, append-nil}
use Rattle.std.specs.Vec.{vec_capacity}
use Rattle.std.proofs.lemmas.List.{length-reverse, reverse-append}
use Rattle.grain_value.specs.declared.values.Held.{Held}
use Rattle.grain_fault.specs.declared.traces.Fault.{Fault}
use Rattle.grain_stack.specs.declared.floors.Floor.{Floor}
use Rattle.grain_stack.specs.declared.stacks.Stacks.TheInside.{Inside}
use Rattle.grain_value.specs.declared.values.Dynamic.{Dynamic}
use Rattle.grain_value.specs.Operands.{under, read_write}
use Rattle.grain_stack.specs.Views.{StackFrame, StacksView, bare, joined_frame, with_value, without_frame}
use Rattle.grain_stack.specs.Filled.{Filled}
use Rattle.grain_stack.proofs.Lists.{length_front, take_shorter, under_frame, under_others}
use Rattle.grain_stack.specs.Entries.{entries_at}
use Rattle.grain_stack.specs.Floors.{Belongings, belongings, AreOrdered, frames_on, Nested, unnoted, floors, stacks_view, IsSound}
use Rattle.grain_stack.proofs.Depths.{ordered_up}

-- more room does no harm
nested_up : (c d b : ℕ) (fs : List Floor) → c ≤ d → Nested c b fs → Nested d b fs
nested_up c d b [] le n = tt
nested_up c d b (f ∷ fs) le n = (n.0, omega (arith, n.1, le), nested_up c d f.bottom fs le n.2)

-- no more frames are unnoted than there are
unnoted_all : (q : Bool) (fs : List Floor) → unnoted q fs ≤ length fs
unnoted_all q [] = omega arith
unnoted_all true (f ∷ fs) = omega (arith, unnoted_all f.noted fs)
unnoted_all false (f ∷ fs) = omega (arith, unnoted_all f.noted fs)

-- what frames have is in order as it was
ordered_same : (s t : Inside) → IsSound s → t.outer ≡ s.outer → belongings t ≡ belongings s →
    AreOrdered (length (floors t)) (belongings t)
ordered_same s t i ef own =
    subst (λ (b : Belongings). AreOrdered (length (floors t)) b) (sym own)
    (subst (λ (fs : List Floor). AreOrdered (length (reverse fs)) (belongings s)) (sym ef) i.ordered)

-- nothing but the room has changed, which is no less
pub same_sound : (s t : Inside) → IsSound s → t.slots.operands ≡ s.slots.operands →
    s.slots.slots ≤ t.slots.slots → t.bottom ≡ s.bottom → t.room ≡ s.room →
    t.noted ≡ s.noted → t.outer ≡ s.outer → t.trace.items ≡ s.trace.items →
    vec_capacity s.trace ≤ vec_capacity t.trace → belongings t ≡ belongings s → IsSound t
same_sound s t i eo co eb er en ef et ct own = record {
  bottom = rw (eb, eo) i.bottom;
  room = omega (arith, i.room, co, eb, er);
  nested = rw (eb, ef) (nested_up (s.slots.slots) (t.slots.slots) s.bottom (floors s) co i.nested);
  notes =
      let long : length t.trace.items ≡ length s.trace.items = ap length et in
      let free : unnoted t.noted (floors t) ≡ unnoted s.noted (floors s) = rw (en, ef) refl in
      omega (arith, i.notes, ct, long, free);
  ordered = ordered_same s t i ef own;
}

-- the same where the frame has other operands
pub changed_sound : (s t : Inside) → IsSound s → s.bottom ≤ length t.slots.operands →
    s.slots.slots ≤ t.slots.slots → t.bottom ≡ s.bottom → t.room ≡ s.room →
    t.noted ≡ s.noted → t.outer ≡ s.outer → t.trace.items ≡ s.trace.items →
    vec_capacity s.trace ≤ vec_capacity t.trace → belongings t ≡ belongings s → IsSound t
changed_sound s t i there co eb er en ef et ct own = record {
  bottom = omega (arith, eb, there);
  room = omega (arith, i.room, co, eb, er);
  nested = rw (eb, ef) (nested_up (s.slots.slots) (t.slots.slots) s.bottom (floors s) co i.nested);
  notes =
      let long : length t.trace.items ≡ length s.trace.items = ap length et in
      let free : unnoted t.noted (floors t) ≡ unnoted s.noted (floors s) = rw (en, ef) refl in
      omega (arith, i.notes, ct, long, free);
  ordered = ordered_same s t i ef own;
}

-- another trace, which has room for an entry of each frame
pub traced_sound : (s t : Inside) → IsSound s → t.slots ≡ s.slots → t.bottom ≡ s.bottom →
    t.room ≡ s.room → t.noted ≡ s.noted → t.outer ≡ s.outer → belongings t ≡ belongings s →
    length t.trace.items + (length s.outer + 1) ≤ vec_capacity t.trace → IsSound t
traced_sound s t i es eb er en ef own free =
    let all : unnoted t.noted (floors t) ≤ length (floors t) = unnoted_all t.noted (floors t) in
    let size : length (floors t) ≡ length s.outer = length-reverse t.outer ∙ ap length ef in
    record {
      bottom = rw (es, eb) i.bottom;
      room = rw (es, eb, er) i.room;
      nested = rw (es, eb, ef) i.nested;
      notes = omega (arith, all, size, free);
      ordered = ordered_same s t i ef own;
    }

-- what is in order is so for a frame further in
further_in : (d : ℕ) (b : Belongings) → AreOrdered d b → AreOrdered (suc d) b
further_in d b o = record {
  handlers = ordered_up d (suc d) b.handlers (omega arith) o.handlers;
  cursors = ordered_up d (suc d) b.cursors (omega arith) o.cursors;
  totals = ordered_up d (suc d) b.totals (omega arith) o.totals;
}

-- a frame more, around which the others keep their room
pub entered_sound : (s t : Inside) (f : Floor) → IsSound s → t.slots.operands ≡ s.slots.operands →
    s.slots.slots ≤ t.slots.slots → t.bottom ≡ length s.slots.operands → t.bottom + t.room ≤
    t.slots.slots → t.noted ≡ false → t.outer ≡ s.outer ++ f ∷ [] →
    f.bottom ≡ s.bottom → f.room ≡ s.room → f.noted ≡ s.noted →
    t.trace.items ≡ s.trace.items → length s.trace.items + (length s.outer + 1) ≤
    vec_capacity t.trace → belongings t ≡ belongings s → IsSound t
entered_sound s t f i eo co eb room en ef fb fr fn et ct own =
    let on : floors t ≡ f ∷ floors s = ap reverse ef ∙ reverse-append s.outer (f ∷ []) in
    record {
      bottom = rw eo (omega (arith, eb));
      room = room;
      nested = rw on (
        omega (arith, fb, eb, i.bottom),
        omega (arith, fb, fr, i.room, co),
        rw fb (nested_up (s.slots.slots) (t.slots.slots) s.bottom (floors s) co i.nested),
      );
      notes =
          let long : length t.trace.items ≡ length s.trace.items = ap length et in
          let free : unnoted t.noted (floors t) ≡ 1 + unnoted f.noted (floors s) =
          rw (en, on) refl in
          omega (
            arith,
            ct,
            long,
            free,
            unnoted_all f.noted (floors s),
            length-reverse s.outer,
          );
      ordered =
          subst (λ (b : Belongings). AreOrdered (length (floors t)) b) (sym own)
          (rw on (further_in (length (floors s)) (belongings s) i.ordered));
    }

-- one operand more
pub pushed_sound : (s t : Inside) (h : Held) → IsSound s → t.slots.operands ≡ s.slots.operands ++
    h ∷ [] → s.slots.slots ≤ t.slots.slots → t.bottom ≡ s.bottom → t.room ≡ s.room →
    t.noted ≡ s.noted → t.outer ≡ s.outer → t.trace ≡ s.trace → belongings t ≡ belongings s →
    IsSound t
pushed_sound s t h i eo co eb er en ef et own = record {
  bottom = rw (eb, eo) (omega (arith, i.bottom, length-append s.slots.operands (h ∷ [])));
  room = omega (arith, i.room, co, eb, er);
  nested = rw (eb, ef) (nested_up (s.slots.slots) (t.slots.slots) s.bottom (floors s) co i.nested);
  notes = rw (et, en, ef) i.notes;
  ordered = ordered_same s t i ef own;
}

-- a frame is entered where there is a floor
frames_length : (xs : List Held) (own : Belongings) (fs : List Floor) →
    length (frames_on xs own fs) ≡ length fs
frames_length xs own [] = refl
frames_length xs own (f ∷ fs) = ap (λ (n : ℕ). suc n) (frames_length (take f.bottom xs) own fs)

one_unnoted : (fs : List Floor) → 0 < length fs → 1 ≤ unnoted false fs
one_unnoted [] lt = absurd (omega (arith, lt))
one_unnoted (f ∷ fs) lt = omega arith

one_less : (fs : List Floor) → 0 < length fs → unnoted true fs + 1 ≡ unnoted false fs
one_less [] lt = absurd (omega (arith, lt))
one_less (f ∷ fs) lt = omega arith

some_floor : (s : Inside) (xs : List Held) → 0 < length (frames_on xs (belongings s) (floors s)) →
    0 < length (floors s)
some_floor s xs lt = omega (arith, lt, frames_length xs (belongings s) (floors s))

-- the trace has room for an entry of a frame that has noted none
pub note_room : (s : Inside) (xs : List Held) → IsSound s → s.noted ≡ false →
    0 < length (frames_on xs (belongings s) (floors s)) → length s.trace.items < vec_capacity s.trace
note_room s xs i en lt =
    let one : 1 ≤ unnoted s.noted (floors s) =
    rw en (one_unnoted (floors s) (some_floor s xs lt)) in
    omega (arith, i.notes, one)

-- one entry more, of a frame that had noted none
pub noted_sound : (s t : Inside) (fault : Fault) (xs : List Held) → IsSound s → s.noted ≡ false →
    0 < length (frames_on xs (belongings s) (floors s)) → t.slots ≡ s.slots → t.bottom ≡ s.bottom →
    t.room ≡ s.room → t.noted ≡ true → t.outer ≡ s.outer → t.trace.items ≡ s.trace.items ++
    fault ∷ [] → vec_capacity s.trace ≤ vec_capacity t.trace → belongings t ≡ belongings s → IsSound t
noted_sound s t fault xs i sn lt eo eb er en ef et ct own =
    let was : length s.trace.items + unnoted false (floors s) ≤ vec_capacity s.trace =
    rw (← sn) i.notes in
    record {
      bottom = rw (eb, eo) i.bottom;
      room = rw (eb, er, eo) i.room;
      nested = rw (eb, eo, ef) i.nested;
      notes =
          let long : length t.trace.items ≡ length (s.trace.items ++ fault ∷ []) = ap length et in
          let free : unnoted t.noted (floors t) ≡ unnoted true (floors s) = rw (en, ef) refl in
          omega (
            arith,
            was,
            ct,
            long,
            free,
            one_less (floors s) (some_floor s xs lt),
            length-append s.trace.items (fault ∷ []),
          );
      ordered = ordered_same s t i ef own;
    }

below_slots : (slots b : ℕ) (xs : List Held) (own : Belongings) (fs : List Floor) →
    b ≤ length xs → Nested slots b fs → 0 < length (frames_on (take b xs) own fs) →
    ((first : StackFrame) (others : List StackFrame) →
    frames_on (take b xs) own fs ≡ first ∷ others → length first.operands < first.room) → b < slots
below_slots slots b xs own [] le n some room = absurd (omega (arith, some))
below_slots slots b xs own (f ∷ fs) le n some room =
    let free : length (drop f.bottom (take b xs)) < f.room =
    room (record {
      operands = drop f.bottom (take b xs);
      room = f.room;
      noted = f.noted;
      handlers = entries_at (length fs) own.handlers;
      cursors = entries_at (length fs) own.cursors;
      totals = entries_at (length fs) own.totals;
    })
    (frames_on (take f.bottom (take b xs)) own fs) refl in
    omega (arith, free, n.0, n.1, length-drop f.bottom (take b xs), length_front b xs le)

-- where the frame around the innermost one has room, a slot is there after its operands
pub room_below : (s : Inside) → IsSound s →
    0 < length (frames_on (take s.bottom s.slots.operands) (belongings s) (floors s)) →
    ((first : StackFrame) (others : List StackFrame) → frames_on (take s.bottom s.slots.operands)
    (belongings s) (floors s) ≡ first ∷ others → length first.operands < first.room) →
    s.bottom < s.slots.slots
room_below s i some room =
    below_slots s.slots.slots s.bottom s.slots.operands (belongings s) (floors s) i.bottom i.nested
    some room

emptied : (b : ℕ) (xs : List Held) → drop b (take b xs) ≡ []
emptied zero xs = refl
emptied (suc b) [] = refl
emptied (suc b) (x ∷ xs) = emptied b xs

joined_empty : (fs : List StackFrame) (s : StacksView) → 0 < length fs →
    joined_frame fs (bare (record s { operands = [] })) ≡ without_frame fs s
joined_empty [] s some = absurd (omega (arith, some))
joined_empty (f ∷ fs) s some = rw append-nil refl

-- a frame that has lost its operands, and is left
pub left_view : (s : Inside) (v : Filled) → v.operands ≡ take s.bottom s.slots.operands →
    0 < length (frames_on (take s.bottom s.slots.operands) (belongings s) (floors s)) →
    joined_frame (frames_on (take s.bottom v.operands) (belongings s) (floors s))
    (bare (stacks_view (record s { slots = v }))) ≡
    without_frame (frames_on (take s.bottom s.slots.operands) (belongings s) (floors s)) (stacks_view s)
left_view s v e some =
    rw (
      e,
      emptied s.bottom s.slots.operands,
      take_shorter s.bottom s.bottom s.slots.operands
          (omega arith),
    )
    (joined_empty (frames_on (take s.bottom s.slots.operands) (belongings s) (floors s)) (stacks_view s) some)

-- a frame that has one operand, and is left
pub joined_value : (fs : List StackFrame) (s : StacksView) (v : Dynamic) → 0 < length fs →
    joined_frame fs (bare (record s { operands = read_write v ∷ [] })) ≡
    with_value v (without_frame fs s)
joined_value [] s v some = absurd (omega (arith, some))
joined_value (f ∷ fs) s v some = refl

-- a frame that has lost its last operands
pub less_view : (s : Inside) (v : Filled) (k : ℕ) → v.operands ≡ under k s.slots.operands →
    k ≤ length (drop s.bottom s.slots.operands) → s.bottom ≤ length s.slots.operands →
    stacks_view (record s { slots = v }) ≡
    record (stacks_view s) { operands = under k (drop s.bottom s.slots.operands) }
less_view s v k e le lb =
    rw (
      e,
      under_frame s.bottom k s.slots.operands le lb,
      under_others s.bottom k s.slots.operands le lb,
    ) refl
