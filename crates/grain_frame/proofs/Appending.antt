-- What is appended to a text: where it stops if memory is out, and what comes before it.
use Rattle.std.proofs.Common.{◌≡◌, ◌∙◌, ◌<◌, ◌≤◌, ◌+◌, ◌++◌, ◌∷◌, ℕ, List, [], Option, Some, None, Bool, true, false, if◌then◌else◌, Result, length, drop, take, zero, suc, ◌-◌, refl, sym, ap, arith}
use Rattle.std.specs.Prelude.{codes, is_none}
use Rattle.std.proofs.lemmas.List.{length-take-le, take_all}
use Rattle.grain_value.specs.Cells.{flat}
use Rattle.grain_value.specs.Looking.{text_of}
use Rattle.grain_value.specs.Operands.{arguments, below, top, under}
use Rattle.grain_value.specs.Sizes.{is_over}
use Rattle.grain_value.specs.Writing.{kind_of, plain, type_name_of}
use Rattle.grain_value.specs.declared.memory.OutOfMemory.{OutOfMemory}
use Rattle.grain_value.specs.declared.natives.Native.{Native}
use Rattle.grain_value.specs.declared.stores.Cell.{Cell}
use Rattle.grain_value.specs.declared.values.Dynamic.{Dynamic}
use Rattle.grain_value.specs.declared.values.Dynamic.TheVariants as dynamic
use Rattle.grain_value.specs.declared.values.Held.{Held}
use Rattle.grain_fault.specs.Classes.{catchable}
use Rattle.grain_fault.specs.Problems.{NoMemory, Plain, DataTooLarge}
use Rattle.grain_program.specs.View.{View}
use Rattle.grain_host.specs.Law.{Law, native_of}
use Rattle.grain_global.specs.declared.engines.Engine.{Engine}
use Rattle.grain_global.specs.StepsView.{StepsView}
use Rattle.grain_stack.specs.Views.{StacksView}
use Rattle.grain_means.specs.Worlds.{Frame, Setup, World, is_stop}
use Rattle.grain_means.specs.Rules.{answer_appended, appended, data_race, flat_all, flat_or_race, leave_by_fault, native, not_a_buffer, operand_under, position, pushed, put_behind, raised, segment_read, showing, showing_failed, to_string, type_appended}
use Rattle.grain_means.specs.Means.{setup}
use Rattle.grain_means.specs.lemmas.Stretches.{then_exactly}
use Rattle.grain_frame.specs.Abstraction.{Implements, frame_in, moment}
use Rattle.grain_frame.specs.declared.activations.Activation.{Activation}
use Rattle.grain_frame.specs.declared.runs.Progress.{Progress}
use Rattle.grain_frame.specs.declared.runs.Run.{Run}
use Rattle.grain_frame.specs.lemmas.Failing.{StopsAtMark, native_stops}
use Rattle.grain_frame.proofs.Serving.{kept_on, later_lands}

module _ {S : Type 0} (m : Setup S) (f : Frame) (w : World S)
    (halts : is_stop m.stop w.passed ≡ true) where
  -- a text goes after the buffer
  behind_stops : (o : Option (List ℕ)) (v : Dynamic) (s : List ℕ) (next : ℕ) →
      put_behind m o v s next f w ≡ leave_by_fault m f NoMemory w
  behind_stops None v s next = rw halts refl
  behind_stops (Some b) v s next = at (is_over m.engine.limits.text (length b + length s)) where
    at : (over : Bool) →
        (if over then raised m f (Plain (DataTooLarge (codes "Length of string")) (position m f)) w
        else pushed m f next (under 2 f.operands) (dynamic.Text (b ++ s)) w)
        ≡ leave_by_fault m f NoMemory w
    at true = rw halts refl
    at false = rw halts refl

  pub appended_stops : (s : List ℕ) (next : ℕ) →
      appended m s next f w ≡ leave_by_fault m f NoMemory w
  appended_stops s next = at (flat w.cells (operand_under 1 f.operands).value) where
    at : (o : Option Dynamic) →
        flat_or_race m o [] f w (λ v. put_behind m (text_of v) v s next f w)
        ≡ leave_by_fault m f NoMemory w
    at None = rw halts refl
    at (Some v) = behind_stops (text_of v) v s next

  pub type_stops : (t : List ℕ) (next : ℕ) →
      type_appended m t next f w ≡ leave_by_fault m f NoMemory w
  type_stops t next = rw halts refl

  -- the native failed
  pub failed_stops : (t : List ℕ) (next : ℕ) → StopsAtMark m f w (showing_failed m t next f)
  failed_stops t next x = at (catchable x) where
    at : (b : Bool) → (if b then type_appended m t next f w else raised m f x w)
        ≡ leave_by_fault m f NoMemory w
    at true = rw halts refl
    at false = rw halts refl

  -- the native gave this
  pub answer_stops : (o : Option Dynamic) (t : List ℕ) (next : ℕ) →
      answer_appended m o t next f w ≡ leave_by_fault m f NoMemory w
  answer_stops None t next = type_stops t next
  answer_stops (Some r) t next = appended_stops _ next

  -- a segment is shown
  pub showing_stops : (o : Option Native) (v : Dynamic) (h : Held) (next : ℕ) →
      showing m o v h next f w ≡ leave_by_fault m f NoMemory w
  showing_stops None v h next = appended_stops _ next
  showing_stops (Some n) v h next =
      native_stops m to_string None (h ∷ []) f w
      (λ r w1. answer_appended m (flat w1.cells r) (type_name_of v) next f w1)
      (showing_failed m (type_name_of v) next f) halts (failed_stops (type_name_of v) next)

  pub segment_stops : (o : Option (List ℕ)) (v : Dynamic) (h : Held) (next : ℕ) →
      segment_read m o v h next f w ≡ leave_by_fault m f NoMemory w
  segment_stops None v h next =
      showing_stops (native_of m.law w.host to_string (kind_of h.value ∷ [])) v h next
  segment_stops (Some s) v h next = appended_stops s next

-- a fault of the native is passed over: its trace is gone, and then the name of a type is appended
pub type_then : {H : Type 0} (law : Law H) (p : View) (engine : Engine) (f : Activation)
    (s : Run H) (n : StepsView) (host : H) (t : List ℕ) (next : ℕ) (cut : StacksView)
    (k : StepsView) (f' : Activation) (s' : Run H) (n' : StepsView)
    {r : Result Progress OutOfMemory} → cut ≡ record s.stacks { trace = [] } →
    k ≡ record n { passed = n.passed + 1 } → f.base ≤ length s.scope →
    Implements (setup law p engine) (moment f (record s { stacks = cut }) k host)
    (λ m place w. appended m t next (frame_in f (record s { stacks = cut }) place) w)
    (next ∷ []) 2 1 cut.handlers r (moment f' s' n' host) →
    Implements (setup law p engine) (moment f s n host)
    (λ m place w. type_appended m t next (frame_in f s place) w)
    (next ∷ []) 2 1 s.stacks.handlers r (moment f' s' n' host)
type_then {H = H} law p engine f s n host t next cut k f' s' n' {r} is counted inside does =
    at (rw (is, counted) at does) where
      untraced : Run H
      untraced = record s { stacks = record s.stacks { trace = [] } }

      passed : StepsView
      passed = record n { passed = n.passed + 1 }

      at : Implements (setup law p engine) (moment f untraced passed host)
          (λ m place w. appended m t next (frame_in f untraced place) w) (next ∷ []) 2 1
          s.stacks.handlers r (moment f' s' n' host) →
          Implements (setup law p engine) (moment f s n host)
          (λ m place w. type_appended m t next (frame_in f s place) w)
          (next ∷ []) 2 1 s.stacks.handlers r (moment f' s' n' host)
      at did = record {
        same = then_exactly (record {
          this = refl;
          order = omega arith;
          equal = λ stop clear halts u place.
              rw (clear n.passed (omega arith) (omega arith)) refl;
        }) did.same;
        kept = kept_on f f f' s untraced s' (record {
          chunk = refl;
          base = refl;
          scope = inside;
          room = refl;
          noted = refl;
          outer = refl;
          saved = refl;
          level = refl;
          this = (refl, refl);
          later = omega arith;
        }) did.kept;
        lands = later_lands engine f f' s untraced s' (next ∷ []) 2 1 s.stacks.handlers r (omega arith)
            refl did.lands;
        before = did.before;
      }

-- one more, less one
less_one : (n : ℕ) → suc n - 1 ≡ n
less_one n = omega arith

-- the last operand alone
pub last_alone : (hs : List Held) → 0 < length hs → arguments 1 hs ≡ top hs ∷ []
last_alone [] some = absurd (omega (arith, some))
last_alone (h ∷ []) some = refl
last_alone (h ∷ g ∷ hs) some =
    ap (λ (n : ℕ). drop n (h ∷ g ∷ hs)) (less_one (suc (length hs)))
    ∙ ap (λ (n : ℕ). drop n (g ∷ hs)) (sym (less_one (length hs)))
    ∙ last_alone (g ∷ hs) (omega arith)

-- as it is read
pub alone_read : (cells : List Cell) (hs : List Held) (v : Dynamic) → 0 < length hs →
    flat cells (top hs).value ≡ Some v →
    flat_all cells (arguments 1 hs) ≡ Some (record (top hs) { value = v } ∷ [])
alone_read cells hs v some read = rw (last_alone hs some, read) refl

-- the front of a front
take_shorter : (b n : ℕ) (hs : List Held) → b ≤ n → take b (take n hs) ≡ take b hs
take_shorter zero n hs le = refl
take_shorter (suc b) zero hs le = absurd (omega (arith, le))
take_shorter (suc b) (suc n) [] le = refl
take_shorter (suc b) (suc n) (h ∷ hs) le =
    ap (λ (l : List Held). h ∷ l) (take_shorter b n hs (omega (arith, le)))

-- all operands but none
pub under_none : (hs : List Held) → under 0 hs ≡ hs
under_none hs = take_all (length hs - 0) hs (omega arith)

-- two operands less
pub below_twice : (hs : List Held) → 2 ≤ length hs → below (below hs) ≡ under 2 hs
below_twice hs many =
    let short : length (below hs) - 1 ≡ length hs - 2 =
    omega (arith, length-take-le (length hs - 1) hs (omega arith)) in
    ap (λ (n : ℕ). take n (below hs)) short
    ∙ take_shorter (length hs - 2) (length hs - 1) hs (omega arith)

-- what the rules say of a text that goes after the buffer, and of a segment that is shown
module _ {S : Type 0} (m : Setup S) (f : Frame) (w : World S) (next : ℕ) where
  -- the buffer is a cell that is lent
  pub appends_lent : (s : List ℕ) → flat w.cells (operand_under 1 f.operands).value ≡ None →
      appended m s next f w ≡ data_race m [] f w
  appends_lent s none = rw none refl

  -- it is no text
  pub appends_to_none : (s : List ℕ) (v : Dynamic) →
      flat w.cells (operand_under 1 f.operands).value ≡ Some v → text_of v ≡ None →
      appended m s next f w ≡ not_a_buffer m v f w
  appends_to_none s v read none = rw (read, none) refl

  module _ (s b : List ℕ) (read : flat w.cells (operand_under 1 f.operands).value
      ≡ Some (dynamic.Text b)) where
    -- the text becomes too long
    pub appends_too_much : is_over m.engine.limits.text (length b + length s) ≡ true →
        appended m s next f w
        ≡ raised m f (Plain (DataTooLarge (codes "Length of string")) (position m f)) w
    appends_too_much over = rw (read, over) refl

    pub appends : is_over m.engine.limits.text (length b + length s) ≡ false →
        appended m s next f w ≡ pushed m f next (under 2 f.operands) (dynamic.Text (b ++ s)) w
    appends within = rw (read, within) refl

  -- no native shows the segment
  pub shows_plainly : (v : Dynamic) (h : Held) →
      native_of m.law w.host to_string (kind_of h.value ∷ []) ≡ None →
      segment_read m None v h next f w ≡ appended m (plain v) next f w
  shows_plainly v h none = rw none refl

  -- a native does, and the segment's type has this name
  pub shows : (v : Dynamic) (h : Held) (t : List ℕ) (n : Native) →
      native_of m.law w.host to_string (kind_of h.value ∷ []) ≡ Some n → t ≡ type_name_of v →
      segment_read m None v h next f w
      ≡ native m to_string None (h ∷ []) f w
      (λ r w1. answer_appended m (flat w1.cells r) t next f w1) (showing_failed m t next f)
  shows v h t n found typed =
      ap (λ (o : Option Native). showing m o v h next f w) found
      ∙ ap (λ (s : List ℕ). native m to_string None (h ∷ []) f w
      (λ r w1. answer_appended m (flat w1.cells r) s next f w1) (showing_failed m s next f)) (sym typed)

-- a native that is there
pub native_there : (o : Option Native) → is_none o ≡ false → (n : Native) × (o ≡ Some n)
native_there None some = absurd cc
native_there (Some n) some = (n, refl)
