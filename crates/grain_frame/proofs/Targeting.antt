-- What a target holds is taken out of it, and something is put back.
use Rattle.std.proofs.Common.{◌≡◌, ◌∙◌, ◌<◌, ℕ, zero, suc, List, [], ◌∷◌, Option, Some, None, Bool, true, false, length, refl, sym, ap, subst, arith}
use Rattle.std.specs.Prelude.{◌||◌, is_some, option_map, slice_get, slice_set}
use Rattle.grain_value.specs.Cells.{content, content_flag, flat, idle, is_busy, lent, standing}
use Rattle.grain_value.specs.Looking.{cell_of}
use Rattle.grain_value.specs.Operands.{read_write}
use Rattle.grain_value.specs.declared.scopes.Entry.{Entry}
use Rattle.grain_value.specs.declared.stores.Cell.{Cell}
use Rattle.grain_value.specs.declared.values.Dynamic.{Dynamic}
use Rattle.grain_value.specs.declared.values.Dynamic.TheVariants as dynamic
use Rattle.grain_value.specs.declared.values.Held.{Held}
use Rattle.grain_stack.specs.Views.{StacksView}
use Rattle.grain_means.specs.Rules.{flag_of_cell, held_at}
use Rattle.grain_means.specs.lemmas.Scopes.{length_set_held}
use Rattle.grain_frame.specs.Abstraction.{this_of}
use Rattle.grain_frame.specs.Receivers.{KeepsBound, with_newest}
use Rattle.grain_frame.specs.Targets.{AssignedTarget, CanBeLent, CanBeWritten, HoldsAt, HoldsWritable, IsLentAt, content_at, put_in, taken_out, target_in, value_or_unit}
use Rattle.grain_ops.specs.Outcomes.{Outcome}
use Rattle.grain_ops.specs.Answers as ops
use Rattle.grain_ops.specs.declared.answers.AssignAnswer.{AssignAnswer}
use Rattle.grain_ops.specs.declared.answers.AssignAnswer.TheVariants as assigned
use Rattle.grain_frame.specs.declared.receivers.Bound.{Bound}
use Rattle.grain_frame.specs.declared.runs.Run.{Run}
use Rattle.grain_frame.specs.declared.targets.Target.{Target}
use Rattle.grain_frame.specs.declared.targets.Target.TheVariants as to
use Rattle.grain_frame.specs.lemmas.Entries.{entry_twice, same_entry}
use Rattle.grain_frame.proofs.Handing.{one_held}
use Rattle.grain_frame.proofs.Newest.{keeps_others, newest_is, newest_same, newest_twice}

abbrev cell_held : Option Cell → Held → Held
cell_held None h = h
cell_held (Some c) h = c.held

pub one_cell : (o : Option Cell) (a b : Held) → o ≡ Some (idle a) → o ≡ Some (idle b) → a ≡ b
one_cell o a b first second = ap (λ (x : Option Cell). cell_held x a) (sym first ∙ second)

-- a target holds one thing
pub one_at : {H : Type 0} (s : Run H) (t : Target) (a b : Held) → HoldsAt s t a →
    HoldsAt s t b → a ≡ b
one_at s (to.Entry i) a b first second = one_held (held_at s.scope i) a b first second
one_at s (to.Cell n) a b first second = one_cell (slice_get s.cells n) a b first second
one_at s to.This a b first second = one_held (this_of s) a b first second

-- what can be written is there
pub written_some : (o : Option Held) → CanBeWritten o → is_some o ≡ true
written_some None can = absurd can
written_some (Some h) can = refl

pub plain_one : (o : Option Held) (h : Held) → o ≡ Some h → CanBeWritten o → h.read_only ≡ false
plain_one o h is can = subst (λ (x : Option Held). CanBeWritten x) is can

pub plain_there : (o : Option Held) (h : Held) → o ≡ Some h → h.read_only ≡ false → CanBeWritten o
plain_there o h is plain = subst (λ (x : Option Held). CanBeWritten x) (sym is) plain

-- of two writes the second counts
cell_twice : (cs : List Cell) (n : ℕ) (a b : Cell) →
    slice_set (slice_set cs n a) n b ≡ slice_set cs n b
cell_twice [] n a b = refl
cell_twice (c ∷ cs) zero a b = refl
cell_twice (c ∷ cs) (suc n) a b = ap (λ (l : List Cell). c ∷ l) (cell_twice cs n a b)

-- a cell that is written with what it has is as it was
same_cell : (cs : List Cell) (n : ℕ) (c : Cell) → slice_get cs n ≡ Some c → slice_set cs n c ≡ cs
same_cell [] n c is = refl
same_cell (d ∷ cs) zero c is =
    let same : d ≡ c = cc in ap (λ (x : Cell). x ∷ cs) (sym same)
same_cell (d ∷ cs) (suc n) c is = ap (λ (l : List Cell). d ∷ l) (same_cell cs n c is)

pub put_twice : {H : Type 0} (s : Run H) (t : Target) (u h : Held) →
    put_in (taken_out s t u) t h ≡ put_in s t h
put_twice s (to.Entry i) u h = ap (λ (es : List Entry). record s { scope = es })
    (entry_twice s.scope i (read_write dynamic.Unit) h)
put_twice s (to.Cell n) u h = ap (λ (cs : List Cell). record s { cells = cs })
    (cell_twice s.cells n (lent u) (idle h))
put_twice s to.This u h = ap (λ (bs : List Bound). record s { receivers = bs })
    (newest_twice s.receivers (read_write dynamic.Unit) h)

-- what is put back as it was
pub put_same : {H : Type 0} (s : Run H) (t : Target) (h : Held) → HoldsAt s t h → put_in s t h ≡ s
put_same s (to.Entry i) h is =
    ap (λ (es : List Entry). record s { scope = es }) (same_entry s.scope i h is)
put_same s (to.Cell n) h is =
    ap (λ (cs : List Cell). record s { cells = cs }) (same_cell s.cells n (idle h) is)
put_same s to.This h is =
    ap (λ (bs : List Bound). record s { receivers = bs }) (newest_same s.level s.receivers h is)

pub set_is_there : (cs : List Cell) (n : ℕ) (b : Bool) (d : Cell) →
    option_map is_busy (slice_get cs n) ≡ Some b → slice_get (slice_set cs n d) n ≡ Some d
set_is_there [] n b d is = absurd cc
set_is_there (c ∷ cs) zero b d is = refl
set_is_there (c ∷ cs) (suc n) b d is = set_is_there cs n b d is

-- the target is lent from then on
pub lent_then : {H : Type 0} (s : Run H) (t : Target) (u : Held) → CanBeLent s t →
    IsLentAt (taken_out s t u) t
lent_then s (to.Entry i) u can =
    omega (arith, can, length_set_held s.scope i (read_write dynamic.Unit))
lent_then s (to.Cell n) u can = ap (λ (o : Option Cell). option_map is_busy o)
    (set_is_there s.cells n false (lent u) can)
lent_then s to.This u can = ap is_some
    (newest_is s.level s.receivers (read_write dynamic.Unit) (written_some (this_of s) can))

-- as many entries of the scope as before
pub long_as : {H : Type 0} (s : Run H) (t : Target) (h : Held) →
    length (put_in s t h).scope ≡ length s.scope
long_as s (to.Entry i) h = length_set_held s.scope i h
long_as s (to.Cell n) h = refl
long_as s to.This h = refl

-- The target can be lent again: what is back has the flag of what was lent, which could be written.
put_again : {H : Type 0} (s : Run H) (t : Target) (u h : Held) → CanBeLent s t → HoldsAt s t u →
    h.read_only ≡ u.read_only → CanBeLent (put_in s t h) t
put_again s (to.Entry i) u h can there flag = omega (arith, can, length_set_held s.scope i h)
put_again s (to.Cell n) u h can there flag = ap (λ (o : Option Cell). option_map is_busy o)
    (set_is_there s.cells n false (idle h) can)
put_again s to.This u h can there flag = plain_there (this_of (put_in s to.This h)) h
    (newest_is s.level s.receivers h (written_some (this_of s) can))
    (flag ∙ plain_one (this_of s) u there can)

pub lent_again : {H : Type 0} (s after : Run H) (t : Target) (u h : Held) → CanBeLent s t →
    HoldsAt s t u → h.read_only ≡ u.read_only → after ≡ put_in (taken_out s t u) t h →
    CanBeLent after t
lent_again {H = H} s after t u h can there flag is =
    subst (λ (r : Run H). CanBeLent r t) (sym (is ∙ put_twice s t u h))
    (put_again s t u h can there flag)

-- the frame has a `this` if it had one, and each other is as it was
pub put_keeps_this : {H : Type 0} (s : Run H) (t : Target) (h : Held) → CanBeLent s t →
    KeepsBound s.level s.receivers (put_in s t h).receivers
put_keeps_this s (to.Entry i) h can = (refl, refl)
put_keeps_this s (to.Cell n) h can = (refl, refl)
put_keeps_this s to.This h can =
    keeps_others s.level s.receivers h (written_some (this_of s) can)

-- where only the operands differ, a target can be lent too
pub lends_beside : {H : Type 0} (s : Run H) (v : StacksView) (t : Target) → CanBeLent s t →
    CanBeLent (record s { stacks = v }) t
lends_beside s v (to.Entry i) can = can
lends_beside s v (to.Cell n) can = can
lends_beside s v to.This can = can

-- a target is written beside the operands
pub put_stacks : {H : Type 0} (s : Run H) (v : StacksView) (t : Target) (h : Held) →
    record (put_in s t h) { stacks = v } ≡ put_in (record s { stacks = v }) t h
put_stacks s v (to.Entry i) h = refl
put_stacks s v (to.Cell n) h = refl
put_stacks s v to.This h = refl

pub put_keeps : {H : Type 0} (s : Run H) (t : Target) (h : Held) →
    (put_in s t h).stacks ≡ s.stacks
put_keeps s (to.Entry i) h = refl
put_keeps s (to.Cell n) h = refl
put_keeps s to.This h = refl

-- only the scope, the cells and the newest `this` differ
pub put_differs : {H : Type 0} (s : Run H) (t : Target) (h : Held) → put_in s t h ≡ record s {
  scope = (put_in s t h).scope;
  cells = (put_in s t h).cells;
  receivers = (put_in s t h).receivers;
}
put_differs s (to.Entry i) h = refl
put_differs s (to.Cell n) h = refl
put_differs s to.This h = refl

-- an index within a scope has an entry
pub entry_at : (es : List Entry) (i : ℕ) → i < length es → (h : Held) × (held_at es i ≡ Some h)
entry_at [] i within = absurd (omega (arith, within))
entry_at (e ∷ es) zero within = (e.held, refl)
entry_at (e ∷ es) (suc i) within = entry_at es i (omega (arith, within))

-- what a cell holds that is not lent
free_content : (o : Option Cell) → option_map is_busy o ≡ Some false →
    content o ≡ Some (standing o)
free_content None free = absurd cc
free_content (Some c) free =
    let idles : c.busy ≡ false = cc in rw idles refl

pub flagged : (v : Dynamic) (b : Bool) → b ≡ false →
    record { value = v; read_only = b } ≡ read_write v
flagged v b plain = rw plain refl

-- a cell whose content can be written
idle_cell : (o : Option Cell) → option_map is_busy o ≡ Some false → content_flag o ≡ false →
    o ≡ Some (idle (read_write (standing o)))
idle_cell None free flag = absurd cc
idle_cell (Some c) free flag =
    let idles : c.busy ≡ false = cc in
    let plain : c.held.read_only ≡ false = flag in
    as_idle c.held c.busy idles plain where
      as_idle : (g : Held) (b : Bool) → b ≡ false → g.read_only ≡ false →
          Some (record { held = g; busy = b }) ≡ Some (idle (read_write g.value))
      as_idle g b idles plain =
          rw (idles, flagged g.value g.read_only plain) refl

-- a cell whose content can be read is not lent
readable_free : (o : Option Cell) → is_some (content o) ≡ true → option_map is_busy o ≡ Some false
readable_free None read = absurd cc
readable_free (Some d) read = by_flag d.held d.busy read where
  by_flag : (h : Held) (b : Bool) →
      is_some (content (Some (record { held = h; busy = b }))) ≡ true → Some b ≡ Some false
  by_flag h true read = absurd cc
  by_flag h false read = refl

-- what can be written has no flag of its own
pub left_plain : (a b : Bool) → (a || b) ≡ false → a ≡ false
left_plain true b plain = absurd cc
left_plain false b plain = refl

pub right_plain : (a b : Bool) → (a || b) ≡ false → b ≡ false
right_plain true b plain = absurd cc
right_plain false b plain = plain

-- what is held, and can be written, is held so
pub held_plainly : (o : Option Held) (h : Held) → o ≡ Some h → h.read_only ≡ false →
    o ≡ Some (read_write (value_or_unit o))
held_plainly o h is plain = rw (is, ← plain) refl

pub held_value : (o : Option Held) (h : Held) → o ≡ Some h → value_or_unit o ≡ h.value
held_value o h is = rw is refl

-- what stands here, or the cell that it is, is a target
module _ {H : Type 0} (s : Run H) (here : Target) (h : Held)
    (free : is_some (flat s.cells h.value) ≡ true) where
  pub cell_lends : CanBeLent s here → CanBeLent s (target_in here (cell_of h.value))
  cell_lends can = at (cell_of h.value) refl where
    at : (c : Option ℕ) → cell_of h.value ≡ c → CanBeLent s (target_in here c)
    at None is = can
    at (Some n) is = readable_free (slice_get s.cells n) (rw is at free)

  -- what it holds is what is read there
  pub cell_read : content_at s here ≡ h.value →
      flat s.cells h.value ≡ Some (content_at s (target_in here (cell_of h.value)))
  cell_read whole = at (cell_of h.value) refl where
    at : (c : Option ℕ) → cell_of h.value ≡ c →
        flat s.cells h.value ≡ Some (content_at s (target_in here c))
    at None is = rw (is, whole) refl
    at (Some n) is =
        rw is (free_content (slice_get s.cells n)
        (readable_free (slice_get s.cells n) (rw is at free)))

  -- it holds its content
  pub cell_holds : HoldsWritable s here → flag_of_cell (cell_of h.value) s.cells ≡ false →
      HoldsWritable s (target_in here (cell_of h.value))
  cell_holds whole flag = at (cell_of h.value) refl where
    at : (c : Option ℕ) → cell_of h.value ≡ c → HoldsWritable s (target_in here c)
    at None is = whole
    at (Some n) is =
        idle_cell (slice_get s.cells n)
        (readable_free (slice_get s.cells n) (rw is at free)) (rw is at flag)

-- the content of a cell was lent to an op-assignment, and is back
module _ {H : Type 0} (s : Run H) (n : ℕ) (h : Held) (v : Dynamic) (mid after : List Cell)
    (holds : slice_get s.cells n ≡ Some (idle h)) (taken : mid ≡ slice_set s.cells n (lent h))
    (back : after ≡ slice_set mid n (idle (record h { value = v }))) where
  written_once : after ≡ slice_set s.cells n (idle (record h { value = v }))
  written_once = back ∙
      (ap (λ (cs : List Cell). slice_set cs n (idle (record h { value = v }))) taken
      ∙ cell_twice s.cells n (lent h) (idle (record h { value = v })))

  as_before : v ≡ h.value → record s { cells = after } ≡ s
  as_before same =
      ap (λ (cs : List Cell). record s { cells = cs })
      (written_once ∙ (ap (λ (x : Dynamic). slice_set s.cells n (idle (record h { value = x })))
      same
      ∙ same_cell s.cells n (idle h) holds))

  pub content_assigned : (r : AssignAnswer) (o : Outcome) → ops.Assigns r o h.value v →
      AssignedTarget r o s (record s { cells = after }) (to.Cell n) h
  content_assigned assigned.NotBuiltIn o did = (did.0, as_before did.1)
  content_assigned assigned.Done o did =
      (v, did, ap (λ (cs : List Cell). record s { cells = cs }) written_once)
  content_assigned (assigned.Failed x) o did = (did.0, as_before did.1)

-- so was a `this`
module _ {H : Type 0} (s : Run H) (h : Held) (v : Dynamic) (mid after : List Bound)
    (holds : this_of s ≡ Some h) (taken : mid ≡ with_newest (read_write dynamic.Unit) s.receivers)
    (back : after ≡ with_newest (record h { value = v }) mid) where
  this_once : after ≡ with_newest (record h { value = v }) s.receivers
  this_once = back ∙
      (ap (λ (bs : List Bound). with_newest (record h { value = v }) bs) taken
      ∙ newest_twice s.receivers (read_write dynamic.Unit) (record h { value = v }))

  this_before : v ≡ h.value → record s { receivers = after } ≡ s
  this_before same =
      ap (λ (bs : List Bound). record s { receivers = bs })
      (this_once ∙ (ap (λ (x : Dynamic). with_newest (record h { value = x }) s.receivers) same
      ∙ newest_same s.level s.receivers h holds))

  pub this_assigned : (r : AssignAnswer) (o : Outcome) → ops.Assigns r o h.value v →
      AssignedTarget r o s (record s { receivers = after }) to.This h
  this_assigned assigned.NotBuiltIn o did = (did.0, this_before did.1)
  this_assigned assigned.Done o did =
      (v, did, ap (λ (bs : List Bound). record s { receivers = bs }) this_once)
  this_assigned (assigned.Failed x) o did = (did.0, this_before did.1)

-- a target that can be lent holds something
pub held_there : {H : Type 0} (s : Run H) (t : Target) → CanBeLent s t →
    (h : Held) × HoldsAt s t h
held_there s (to.Entry i) can = entry_at s.scope i can
held_there s (to.Cell n) can = by_cell (slice_get s.cells n) can where
  by_cell : (o : Option Cell) → option_map is_busy o ≡ Some false →
      (h : Held) × (o ≡ Some (idle h))
  by_cell None free = absurd cc
  by_cell (Some d) free =
      let idles : d.busy ≡ false = cc in (d.held, rw (← idles) refl)
held_there s to.This can = by_this (this_of s) can where
  by_this : (o : Option Held) → CanBeWritten o → (h : Held) × (o ≡ Some h)
  by_this None can = absurd can
  by_this (Some h) can = (h, refl)
