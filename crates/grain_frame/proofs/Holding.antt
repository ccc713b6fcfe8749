-- What a target holds once something was put into it, and what can be read of one.
use Rattle.std.proofs.Common.{◌≡◌, ◌∙◌, ◌<◌, ℕ, zero, suc, List, [], ◌∷◌, Option, Some, None, Bool, true, false, length, refl, sym, ap, subst, arith}
use Rattle.std.specs.Prelude.{option_map, slice_get}
use Rattle.grain_value.specs.Cells.{content, idle, is_busy, standing}
use Rattle.grain_value.specs.Operands.{read_write}
use Rattle.grain_value.specs.Scopes.{set_held}
use Rattle.grain_value.specs.declared.scopes.Entry.{Entry}
use Rattle.grain_value.specs.declared.stores.Cell.{Cell}
use Rattle.grain_value.specs.declared.values.Dynamic.{Dynamic}
use Rattle.grain_value.specs.declared.values.Dynamic.TheVariants as dynamic
use Rattle.grain_value.specs.declared.values.Held.{Held}
use Rattle.grain_fault.specs.declared.traces.Fault.{Fault}
use Rattle.grain_program.specs.View.{View}
use Rattle.grain_stack.specs.Views.{StacksView}
use Rattle.grain_means.specs.Worlds.{Act, Frame, Place, Setup, World}
use Rattle.grain_means.specs.Rules.{cell_written, data_race, held_at, written_at}
use Rattle.grain_frame.specs.Abstraction.{this_of}
use Rattle.grain_frame.specs.Targets.{CanAssign, CanBeLent, HoldsAt, HoldsWritable, content_at, home_of, put_in}
use Rattle.grain_frame.specs.Waiting.{CanHold, GoesOn, IsLentCell, IsNotLent}
use Rattle.grain_frame.specs.declared.activations.Activation.{Activation}
use Rattle.grain_frame.specs.declared.assignments.Assignment.{Assignment}
use Rattle.grain_frame.specs.declared.receivers.Bound.{Bound}
use Rattle.grain_frame.specs.declared.runs.Run.{Run}
use Rattle.grain_frame.specs.declared.targets.Target.{Target}
use Rattle.grain_frame.specs.declared.targets.Target.TheVariants as to
use Rattle.grain_frame.proofs.Newest.{newest_is}
use Rattle.grain_frame.proofs.Targeting.{flagged, held_value, set_is_there, written_some}

entry_set : (es : List Entry) (i : ℕ) (h : Held) → i < length es →
    held_at (set_held es i h) i ≡ Some h
entry_set [] i h within = absurd (omega (arith, within))
entry_set (e ∷ es) zero h within = refl
entry_set (e ∷ es) (suc i) h within = entry_set es i h (omega (arith, within))

-- what was put into a target stands there
pub put_holds : {H : Type 0} (s : Run H) (t : Target) (h : Held) → CanBeLent s t →
    HoldsAt (put_in s t h) t h
put_holds s (to.Entry i) h can = entry_set s.scope i h can
put_holds s (to.Cell n) h can = set_is_there s.cells n false (idle h) can
put_holds s to.This h can = newest_is s.level s.receivers h (written_some (this_of s) can)

-- what a target holds is its content
pub content_is : {H : Type 0} (s : Run H) (t : Target) (h : Held) → HoldsAt s t h →
    content_at s t ≡ h.value
content_is s (to.Entry i) h holds = held_value (held_at s.scope i) h holds
content_is s (to.Cell n) h holds = ap standing holds
content_is s to.This h holds = held_value (this_of s) h holds

pub plain_content : {H : Type 0} (s : Run H) (t : Target) (h : Held) → HoldsAt s t h →
    h.read_only ≡ false → read_write (content_at s t) ≡ h
plain_content s t h holds plain =
    ap (λ (v : Dynamic). read_write v) (content_is s t h holds)
    ∙ sym (flagged h.value h.read_only plain)

pub put_content : {H : Type 0} (s : Run H) (t : Target) (h : Held) → CanBeLent s t →
    h.read_only ≡ false → read_write (content_at (put_in s t h) t) ≡ h
put_content s t h can plain = plain_content (put_in s t h) t h (put_holds s t h can) plain

-- what it holds so that it can be written
pub holds_plainly : {H : Type 0} (s : Run H) (t : Target) (h : Held) → HoldsAt s t h →
    h.read_only ≡ false → HoldsWritable s t
holds_plainly s t h holds plain =
    subst (λ (g : Held). HoldsAt s t g) (sym (plain_content s t h holds plain)) holds

-- what can be lent can be read, and is not lent
pub lends_holds : {H : Type 0} (s : Run H) (t : Target) → CanBeLent s t → CanHold s t
lends_holds s (to.Entry i) can = can
lends_holds s (to.Cell n) can = tt
lends_holds s to.This can = can

pub lends_free : {H : Type 0} (s : Run H) (t : Target) → CanBeLent s t → IsNotLent s t
lends_free s (to.Entry i) can = tt
lends_free s (to.Cell n) can = λ busy. other (option_map is_busy (slice_get s.cells n)) can busy where
  other : (o : Option Bool) → o ≡ Some false → o ≡ Some true → ⊥
  other o free busy = absurd cc
lends_free s to.This can = tt

-- the same where only the operands and the trace differ
pub content_beside : {H : Type 0} (s : Run H) (v : StacksView) (t : Target) →
    content_at (record s { stacks = v }) t ≡ content_at s t
content_beside s v (to.Entry i) = refl
content_beside s v (to.Cell n) = refl
content_beside s v to.This = refl

pub holds_beside : {H : Type 0} (s : Run H) (v : StacksView) (t : Target) → CanHold s t →
    CanHold (record s { stacks = v }) t
holds_beside s v (to.Entry i) can = can
holds_beside s v (to.Cell n) can = tt
holds_beside s v to.This can = can

pub free_beside : {H : Type 0} (s : Run H) (v : StacksView) (t : Target) → IsNotLent s t →
    IsNotLent (record s { stacks = v }) t
free_beside s v (to.Entry i) free = tt
free_beside s v (to.Cell n) free = free
free_beside s v to.This free = tt

pub goes_beside : {H : Type 0} (p : View) (f : Activation) (s : Run H) (a : Assignment)
    (v : StacksView) (trace : List Fault) → v ≡ record s.stacks { trace = trace } →
    GoesOn p f s a → GoesOn p f (record s { stacks = v }) a
goes_beside p f s a v trace is can = rw is (record {
  inside = can.inside;
  target = holds_beside s (record s.stacks { trace = trace }) a.target can.target;
  operand = can.operand;
  ahead = can.ahead;
  first = can.first;
  second = can.second;
  variable = can.variable;
})

-- an op-assignment can go on once its native is over, to which its target was lent
pub goes_after : {H : Type 0} (p : View) (f : Activation) (s t : Run H) (a : Assignment)
    (scope : List Entry) (cells : List Cell) (bs : List Bound) →
    t ≡ record s { scope = scope; cells = cells; receivers = bs } →
    length scope ≡ length s.scope → CanBeLent t a.target → CanAssign p f s a → GoesOn p f t a
goes_after p f s t a scope cells bs run long again can = record {
  inside = rw run (omega (arith, long, can.inside));
  target = lends_holds t a.target again;
  operand = rw run can.operand;
  ahead = can.ahead;
  first = can.first;
  second = can.second;
  variable = can.variable;
}

-- what stands in a cell that is not lent, or not there
pub free_standing : (o : Option Cell) (v : Dynamic) → content o ≡ Some v → standing o ≡ v
free_standing None v is = absurd cc
free_standing (Some c) v is = by_flag c.busy is where
  by_flag : (b : Bool) → content (Some (record c { busy = b })) ≡ Some v → c.held.value ≡ v
  by_flag true is = absurd cc
  by_flag false is = cc

pub none_standing : (o : Option Cell) → content o ≡ None →
    (option_map is_busy o ≡ Some true → ⊥) → standing o ≡ dynamic.Unit
none_standing None is free = refl
none_standing (Some c) is free = by_flag c.busy is free where
  by_flag : (b : Bool) → content (Some (record c { busy = b })) ≡ None → (Some b ≡ Some true → ⊥) →
      c.held.value ≡ dynamic.Unit
  by_flag true is free = absurd (free refl)
  by_flag false is free = absurd cc

-- a write into a cell that is lent, or not there, is refused
lent_cell : {S : Type 0} (m : Setup S) (o : Option Cell) (n : ℕ) (h : Held) (name : List ℕ)
    (f : Frame) (w : World S) (go : World S → Act S) → content o ≡ None →
    cell_written m o n h name f w go ≡ data_race m name f w
lent_cell m None n h name f w go is = refl
lent_cell {S = S} m (Some c) n h name f w go is = by_flag c.held c.busy is where
  by_flag : (g : Held) (b : Bool) → content (Some (record { held = g; busy = b })) ≡ None →
      cell_written m (Some (record { held = g; busy = b })) n h name f w go ≡ data_race m name f w
  by_flag g true is = refl
  by_flag g false is = absurd cc

pub lent_races : {H : Type 0} (m : Setup H) (s : Run H) (t : Target) (place : Option Place)
    (h : Held) (name : List ℕ) (f : Frame) (w : World H) (go : World H → Act H) →
    IsLentCell s t → w.cells ≡ s.cells →
    written_at m (home_of t place) h name f w go ≡ data_race m name f w
lent_races m s (to.Entry i) place h name f w go lent same = absurd lent
lent_races m s (to.Cell n) place h name f w go lent same =
    lent_cell m (slice_get w.cells n) n h name f w go (rw same lent)
lent_races m s to.This place h name f w go lent same = absurd lent
