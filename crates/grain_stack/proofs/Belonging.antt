-- What the stacks become where what their frames have changes, operands apart.
use Rattle.std.proofs.Common.{◌≡◌, ◌∙◌, ◌<◌, ◌≤◌, ◌-◌, ◌==◌, ℕ, suc, Bool, List, [], ◌∷◌, ◌++◌, true, false, length, reverse, take, drop, refl, sym, ap, subst, arith}
use Rattle.std.proofs.lemmas.List.{reverse-append, length-reverse}
use Rattle.std.proofs.Math.Seq.{drop-length, take-length}
use Rattle.std.specs.Bool.{OnTrue}
use Rattle.std.specs.Prelude.{bit_or}
use Rattle.std.proofs.lemmas.Nat.{le_or_l, le_or_r}
use borrow.Author.Tests.{eqb-true}
use Rattle.grain_value.specs.declared.values.Held.{Held}
use Rattle.grain_stack.specs.declared.cursors.Cursor.{Cursor}
use Rattle.grain_stack.specs.declared.floors.Floor.{Floor}
use Rattle.grain_stack.specs.declared.frame_entries.FrameEntry.{FrameEntry}
use Rattle.grain_stack.specs.declared.handlers.Handler.{Handler}
use Rattle.grain_stack.specs.declared.stacks.Stacks.TheInside.{Inside}
use Rattle.grain_stack.specs.declared.totals.Total.{Total}
use Rattle.grain_stack.specs.Entries.{entries_at, Becomes}
use Rattle.grain_stack.specs.Floors.{Belongings, belongings, AreOrdered, IsSound, frames_on, floors, stacks_view}
use Rattle.grain_stack.specs.Views.{StacksView, IsBare, bare, counted_up, with_frame}
use Rattle.grain_stack.proofs.Depths.{none_further_in, unchanged, all_dropped}

-- the depth of the innermost frame
pub depth_is : (s : Inside) (n : ℕ) → n ≡ length s.outer → n ≡ length (floors s)
depth_is s n e = e ∙ sym (length-reverse s.outer)

pub ordered_here : (s : Inside) (n : ℕ) → IsSound s → n ≡ length s.outer →
    AreOrdered n (belongings s)
ordered_here s n i e =
    subst (λ (k : ℕ). AreOrdered k (belongings s)) (sym (depth_is s n e)) i.ordered

-- frames around one at this depth have the same
record SameAround (d : ℕ) (a b : Belongings) : Type 0 where
  pub handlers : (k : ℕ) → k < d → entries_at k b.handlers ≡ entries_at k a.handlers
  pub cursors : (k : ℕ) → k < d → entries_at k b.cursors ≡ entries_at k a.cursors
  pub totals : (k : ℕ) → k < d → entries_at k b.totals ≡ entries_at k a.totals

frames_same : (d : ℕ) (xs : List Held) (a b : Belongings) (fs : List Floor) → length fs ≤ d →
    SameAround d a b → frames_on xs b fs ≡ frames_on xs a fs
frames_same d xs a b [] le same = refl
frames_same d xs a b (f ∷ fs) le same =
    let less : length fs < d = omega (arith, le) in
    let further : length fs ≤ d = omega (arith, le) in
    λ i.
    record {
      operands = drop f.bottom xs;
      room = f.room;
      noted = f.noted;
      handlers = same.handlers (length fs) less i;
      cursors = same.cursors (length fs) less i;
      totals = same.totals (length fs) less i;
    }
    ∷ frames_same d (take f.bottom xs) a b fs further same i

-- what the innermost frame has becomes this, and the frames around it keep what they have
record Changes (d : ℕ) (old new : Belongings) (hs : List Handler) (cs : List Cursor)
    (ts : List Total) : Type 0 where
  pub handlers : Becomes d old.handlers new.handlers hs
  pub cursors : Becomes d old.cursors new.cursors cs
  pub totals : Becomes d old.totals new.totals ts

abbrev with_belongings : Inside → Belongings → Inside
with_belongings s b =
    record s { handlers = b.handlers; cursors = b.cursors; totals = b.totals }

changed_view : (s : Inside) (b : Belongings) (hs : List Handler) (cs : List Cursor)
    (ts : List Total) → Changes (length (floors s)) (belongings s) b hs cs ts →
    stacks_view (with_belongings s b) ≡
    record (stacks_view s) { handlers = hs; cursors = cs; totals = ts }
changed_view s b hs cs ts to =
    let around : frames_on (take s.bottom s.slots.operands) b (floors s) ≡
    frames_on (take s.bottom s.slots.operands) (belongings s) (floors s) =
    frames_same (length (floors s)) (take s.bottom s.slots.operands) (belongings s) b (floors s)
    (omega arith) (record {
      handlers = to.handlers.outer;
      cursors = to.cursors.outer;
      totals = to.totals.outer;
    }) in
    λ i. record (stacks_view s) {
      handlers = to.handlers.own i;
      cursors = to.cursors.own i;
      totals = to.totals.own i;
      outer = around i;
    }

-- ---- handlers

pub handlers_view : (s : Inside) (es : List (FrameEntry Handler)) (hs : List Handler) →
    IsSound s → Becomes (length (floors s)) s.handlers es hs →
    stacks_view (record s { handlers = es }) ≡ record (stacks_view s) { handlers = hs }
handlers_view s es hs i to =
    let d = length (floors s) in
    changed_view s (record (belongings s) { handlers = es }) hs (entries_at d s.cursors)
    (entries_at d s.totals) (record {
      handlers = to;
      cursors = unchanged d s.cursors i.ordered.cursors;
      totals = unchanged d s.totals i.ordered.totals;
    })

pub handlers_sound : (s : Inside) (es : List (FrameEntry Handler)) (hs : List Handler) →
    IsSound s → Becomes (length (floors s)) s.handlers es hs →
    IsSound (record s { handlers = es })
handlers_sound s es hs i to = record {
  bottom = i.bottom;
  room = i.room;
  nested = i.nested;
  notes = i.notes;
  ordered = record {
    handlers = to.ordered;
    cursors = i.ordered.cursors;
    totals = i.ordered.totals;
  };
}

-- what was taken stood first
pub handler_taken : (v w : StacksView) (h : Handler) (hs : List Handler) →
    w ≡ record v { handlers = hs } → v.handlers ≡ h ∷ hs →
    v ≡ record w { handlers = h ∷ w.handlers }
handler_taken v w h hs rest first =
    (λ i. record v { handlers = first i })
    ∙ ap (λ (u : StacksView). record u { handlers = h ∷ u.handlers }) (sym rest)

-- ---- cursors

pub cursors_view : (s : Inside) (es : List (FrameEntry Cursor)) (cs : List Cursor) →
    IsSound s → Becomes (length (floors s)) s.cursors es cs →
    stacks_view (record s { cursors = es }) ≡ record (stacks_view s) { cursors = cs }
cursors_view s es cs i to =
    let d = length (floors s) in
    changed_view s (record (belongings s) { cursors = es }) (entries_at d s.handlers) cs
    (entries_at d s.totals) (record {
      handlers = unchanged d s.handlers i.ordered.handlers;
      cursors = to;
      totals = unchanged d s.totals i.ordered.totals;
    })

pub cursors_sound : (s : Inside) (es : List (FrameEntry Cursor)) (cs : List Cursor) →
    IsSound s → Becomes (length (floors s)) s.cursors es cs →
    IsSound (record s { cursors = es })
cursors_sound s es cs i to = record {
  bottom = i.bottom;
  room = i.room;
  nested = i.nested;
  notes = i.notes;
  ordered = record {
    handlers = i.ordered.handlers;
    cursors = to.ordered;
    totals = i.ordered.totals;
  };
}

pub cursor_taken : (v w : StacksView) (c : Cursor) (cs : List Cursor) →
    w ≡ record v { cursors = cs } → v.cursors ≡ c ∷ cs →
    v ≡ record w { cursors = c ∷ w.cursors }
cursor_taken v w c cs rest first =
    (λ i. record v { cursors = first i })
    ∙ ap (λ (u : StacksView). record u { cursors = c ∷ u.cursors }) (sym rest)

-- ---- totals

pub totals_view : (s : Inside) (es : List (FrameEntry Total)) (ts : List Total) →
    IsSound s → Becomes (length (floors s)) s.totals es ts →
    stacks_view (record s { totals = es }) ≡ record (stacks_view s) { totals = ts }
totals_view s es ts i to =
    let d = length (floors s) in
    changed_view s (record (belongings s) { totals = es }) (entries_at d s.handlers)
    (entries_at d s.cursors) ts (record {
      handlers = unchanged d s.handlers i.ordered.handlers;
      cursors = unchanged d s.cursors i.ordered.cursors;
      totals = to;
    })

pub totals_sound : (s : Inside) (es : List (FrameEntry Total)) (ts : List Total) →
    IsSound s → Becomes (length (floors s)) s.totals es ts →
    IsSound (record s { totals = es })
totals_sound s es ts i to = record {
  bottom = i.bottom;
  room = i.room;
  nested = i.nested;
  notes = i.notes;
  ordered = record {
    handlers = i.ordered.handlers;
    cursors = i.ordered.cursors;
    totals = to.ordered;
  };
}

pub total_taken : (v w : StacksView) (t : Total) (ts : List Total) →
    w ≡ record v { totals = ts } → v.totals ≡ t ∷ ts →
    v ≡ record w { totals = t ∷ w.totals }
total_taken v w t ts rest first =
    (λ i. record v { totals = first i })
    ∙ ap (λ (u : StacksView). record u { totals = t ∷ u.totals }) (sym rest)

-- ---- a frame that loses all three

pub all_gone : (v0 v1 v2 v3 : StacksView) →
    v1 ≡ record v0 { handlers = drop (length v0.handlers - 0) v0.handlers } →
    v2 ≡ record v1 { cursors = drop (length v1.cursors - 0) v1.cursors } →
    v3 ≡ record v2 { totals = drop (length v2.totals - 0) v2.totals } → v3 ≡ bare v0
all_gone v0 v1 v2 v3 e1 e2 e3 =
    e3
    ∙ ap (λ (v : StacksView). record v { totals = drop (length v.totals - 0) v.totals })
    (e2 ∙ ap (λ (v : StacksView). record v { cursors = drop (length v.cursors - 0) v.cursors }) e1)
    ∙ (λ i. record v0 {
      handlers = all_dropped v0.handlers i;
      cursors = all_dropped v0.cursors i;
      totals = all_dropped v0.totals i;
    })

-- nothing is there where there are no entries
nothing_there : {T : Type 0} (d : ℕ) (es : List (FrameEntry T)) → length es ≤ 0 →
    entries_at d es ≡ []
nothing_there d [] none = refl
nothing_there d (e ∷ es) none = absurd (omega (arith, none))

-- there are no entries where their numbers have no bit
pub bare_by_bits : (s : Inside) (v : StacksView) (h c t : ℕ) (none : Bool) →
    h ≡ length s.handlers → c ≡ length s.cursors → t ≡ length s.totals → stacks_view s ≡ v →
    (bit_or (bit_or h c) t == 0) ≡ none → OnTrue none (IsBare v)
bare_by_bits s v h c t false eh ec et is none = tt
bare_by_bits s v h c t true eh ec et is none =
    let all : bit_or (bit_or h c) t ≡ 0 = eqb-true (bit_or (bit_or h c) t) 0 none in
    let two : bit_or h c ≤ 0 = omega (arith, all, le_or_l (bit_or h c) t) in
    let d = length (floors s) in
    record {
      handlers =
          sym (ap (λ (u : StacksView). u.handlers) is)
          ∙ nothing_there d s.handlers (omega (arith, eh, two, le_or_l h c));
      cursors =
          sym (ap (λ (u : StacksView). u.cursors) is)
          ∙ nothing_there d s.cursors (omega (arith, ec, two, le_or_r h c));
      totals =
          sym (ap (λ (u : StacksView). u.totals) is)
          ∙ nothing_there d s.totals (omega (arith, et, all, le_or_r (bit_or h c) t));
    }

-- ---- a frame more, which has nothing yet

pub entered_view : (s t : Inside) (f : Floor) (room : ℕ) →
    AreOrdered (length (floors s)) (belongings s) → t.slots.operands ≡ s.slots.operands →
    t.bottom ≡ length s.slots.operands → t.room ≡ room → t.noted ≡ false →
    t.outer ≡ s.outer ++ f ∷ [] → f.bottom ≡ s.bottom → f.room ≡ s.room →
    f.noted ≡ s.noted → belongings t ≡ belongings s → t.trace.items ≡ s.trace.items →
    t.entered ≡ counted_up s.entered → stacks_view t ≡ with_frame room (stacks_view s)
entered_view s t f room ordered eo eb er en ef fb fr fn own et ee =
    let on : reverse t.outer ≡ f ∷ reverse s.outer =
    ap reverse ef ∙ reverse-append s.outer (f ∷ []) in
    let d = length (floors s) in
    let further : d < suc d = omega arith in
    rw (
      eo,
      eb,
      er,
      en,
      on,
      ap (λ (b : Belongings). b.handlers) own,
      ap (λ (b : Belongings). b.cursors) own,
      ap (λ (b : Belongings). b.totals) own,
      et,
      ee,
      none_further_in d (suc d) s.handlers further ordered.handlers,
      none_further_in d (suc d) s.cursors further ordered.cursors,
      none_further_in d (suc d) s.totals further ordered.totals,
      fb,
      fr,
      fn,
      drop-length s.slots.operands,
      take-length s.slots.operands,
    ) refl
