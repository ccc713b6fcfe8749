-- Faults that are raised, and stretches that stop at their first mark because memory is wanted.
use Rattle.std.proofs.Common.{◌≡◌, ◌∙◌, ◌≤◌, ℕ, List, [], ◌∷◌, Option, Some, None, Result, Ok, Err, Bool, true, false, if◌then◌else◌, ◌&&◌, length, refl, ap, arith}
use Rattle.std.specs.Prelude.{slice_get, slice_set}
use Rattle.grain_value.specs.Cells.{content, flat, idle}
use Rattle.grain_value.specs.Looking.{cell_of}
use Rattle.grain_value.specs.declared.natives.Native.{Native}
use Rattle.grain_value.specs.declared.stores.Cell.{Cell}
use Rattle.grain_value.specs.declared.values.Dynamic.{Dynamic}
use Rattle.grain_value.specs.declared.values.Held.{Held}
use Rattle.grain_value.specs.declared.memory.OutOfMemory.{OutOfMemory}
use Rattle.grain_value.specs.Operands.{below, read_write}
use Rattle.grain_host.specs.Law.{Law, native_of}
use Rattle.grain_program.specs.View.{View, name_of, position_of}
use Rattle.grain_program.specs.declared.code.parts.AssignOp.{AssignOp}
use Rattle.grain_fault.specs.declared.faults.EvalAltResult.{EvalAltResult}
use Rattle.grain_fault.specs.Problems.{Problem, Plain, NoMemory, NonPureCall}
use Rattle.grain_global.specs.declared.engines.Engine.{Engine}
use Rattle.grain_stack.specs.declared.handlers.Handler.{Handler}
use Rattle.grain_ops.specs.Outcomes.{Outcome, NotBuiltIn, Gave, ArithmeticFault, TooLarge}
use Rattle.grain_means.specs.Worlds.{Act, Frame, Place, Setup, World}
use Rattle.grain_means.specs.Rules.{AtPlace, Home, InCell, InScope, Receiver, assigned_at, cell_written, content_now, data_race, first_is_read_only, flat_or_race, flattened, given, host_called, is_stop, kinds_in, leave_by_fault, marked, native, native_found, onward, op_assign_failed_at, operator_at, outcome_at, position, push_outcome, pushed, raised, stepped, written_at}
use Rattle.grain_host.specs.Signatures.{says_missing}
use Rattle.grain_means.specs.Means.{setup}
use Rattle.grain_means.specs.Simulation.{Computation, Environment, stopped, world}
use Rattle.grain_frame.specs.Abstraction.{abstraction, frame_in, is_out, ContinuesAt, Implements, KeepsFrame, Raises, moment}
use Rattle.grain_frame.specs.Operated.{IsFault, RaisesOutcome, fault_at}
use Rattle.grain_frame.specs.declared.activations.Activation.{Activation}
use Rattle.grain_frame.specs.declared.runs.Progress.{Progress}
use Rattle.grain_frame.specs.declared.runs.Progress.TheVariants as progress
use Rattle.grain_frame.specs.declared.runs.Run.{Run}
use Rattle.grain_global.specs.StepsView.{StepsView}
use Rattle.grain_frame.specs.lemmas.Arms.{raises_exactly}

-- a fault that is raised stops at its mark
abbrev pub StopsAtMark : {S : Type 0} → Setup S → Frame → World S → (Problem → World S → Act S) →
    Type 0
StopsAtMark m f w fails = (x : Problem) → fails x w ≡ leave_by_fault m f NoMemory w

found_stops : {S : Type 0} (m : Setup S) (o : Option Native) (name : List ℕ)
    (r : Option Receiver) (args : List Held) (f : Frame) (w : World S)
    (go : Dynamic → World S → Act S) (fails : Problem → World S → Act S) →
    is_stop m.stop w.passed ≡ true → StopsAtMark m f w fails →
    native_found m o name r args f w go fails ≡ leave_by_fault m f NoMemory w
found_stops m None name r args f w go fails halts stops = stops _
found_stops {S = S} m (Some n) name r args f w go fails halts stops =
    at (n.writes && first_is_read_only (given r args)) where
      at : (b : Bool) → (if b then fails (Plain (NonPureCall name) (position m f)) w
          else host_called m n.key r args f w go fails) ≡ leave_by_fault m f NoMemory w
      at true = stops _
      at false = rw halts refl

-- a native that wants memory is the run stopped at its first mark, whatever the host has
pub native_stops : {S : Type 0} (m : Setup S) (name : List ℕ) (r : Option Receiver)
    (args : List Held) (f : Frame) (w : World S) (go : Dynamic → World S → Act S)
    (fails : Problem → World S → Act S) → is_stop m.stop w.passed ≡ true →
    StopsAtMark m f w fails →
    native m name r args f w go fails ≡ leave_by_fault m f NoMemory w
native_stops m name r args f w go fails halts stops =
    found_stops m (native_of m.law w.host name (kinds_in (given r args))) name r args f w go fails
    halts stops

-- a write stops at its mark, whatever is written
pub written_stops : {S : Type 0} (m : Setup S) (a : Home) (h : Held) (name : List ℕ) (f : Frame)
    (w : World S) (go : World S → Act S) → is_stop m.stop w.passed ≡ true →
    written_at m a h name f w go ≡ leave_by_fault m f NoMemory w
written_stops m (InScope i) h name f w go halts = rw halts refl
written_stops m (AtPlace p) h name f w go halts = rw halts refl
written_stops {S = S} m (InCell n) h name f w go halts = at (slice_get w.cells n) where
  by_flag : (b : Bool) → (if b then data_race m name f w
      else marked m f w (λ w1. go (record w1 { cells = slice_set w1.cells n (idle h) })))
      ≡ leave_by_fault m f NoMemory w
  by_flag true = rw halts refl
  by_flag false = rw halts refl

  at : (o : Option Cell) → cell_written m o n h name f w go ≡ leave_by_fault m f NoMemory w
  at None = rw halts refl
  at (Some d) = by_flag d.busy

-- nothing is written into a cell that is lent, wherever what is no cell would be written
pub lent_raises : {S : Type 0} (m : Setup S) (v : Dynamic) (home : Option ℕ → Home) (h : Held)
    (name : List ℕ) (f : Frame) (w : World S) (go : World S → Act S) →
    ((n : ℕ) → home (Some n) ≡ InCell n) → flat w.cells v ≡ None →
    written_at m (home (cell_of v)) h name f w go ≡ data_race m name f w
lent_raises {S = S} m v home h name f w go is none = at (cell_of v) refl where
  by_flag : (n : ℕ) (x : Dynamic) (b : Bool) → (if b then None else Some x) ≡ None →
      (if b then data_race m name f w
      else marked m f w (λ w1. go (record w1 { cells = slice_set w1.cells n (idle h) })))
      ≡ data_race m name f w
  by_flag n x true e = refl
  by_flag n x false e = absurd cc

  by_cell : (n : ℕ) (o : Option Cell) → content o ≡ None →
      cell_written m o n h name f w go ≡ data_race m name f w
  by_cell n None e = refl
  by_cell n (Some d) e = by_flag n d.held.value d.busy e

  at : (c : Option ℕ) → cell_of v ≡ c →
      written_at m (home c) h name f w go ≡ data_race m name f w
  at None e = let no : Some v ≡ None = rw e at none in absurd cc
  at (Some n) e =
      ap (λ (a : Home). written_at m a h name f w go) (is n)
      ∙ by_cell n (slice_get w.cells n) (rw e at none)

-- a native's value stops there on its way into a target
pub taken_stops : {S : Type 0} (m : Setup S) (a : Home) (o : Option Dynamic) (name : List ℕ)
    (next : ℕ) (f : Frame) (w : World S) → is_stop m.stop w.passed ≡ true →
    flat_or_race m o name f w (λ v. assigned_at m a (read_write v) name next f w)
    ≡ leave_by_fault m f NoMemory w
taken_stops m a None name next f w halts = rw halts refl
taken_stops m a (Some v) name next f w halts =
    written_stops m a (read_write v) name f w
    (onward m f (stepped f next (below f.operands))) halts

-- so does the host's operator
pub operator_stops : {S : Type 0} (m : Setup S) (a : Home) (name op : List ℕ) (h u v : Held)
    (next : ℕ) (f : Frame) (w : World S) → is_stop m.stop w.passed ≡ true →
    operator_at m a name op h u v next f w ≡ leave_by_fault m f NoMemory w
operator_stops m a name op h u v next f w halts =
    native_stops m op None (u ∷ v ∷ []) f w
    (λ r w1. flattened m (read_write r) name f w1 (λ q.
    assigned_at m a (record h { value = q }) name next f w1)) (raised m f)
    halts (λ y. rw halts refl)

-- so does the fault of an op-assignment, whether or not the host's operator is asked then
pub op_assign_stops : {S : Type 0} (m : Setup S) (a : Home) (name : List ℕ) (o : AssignOp)
    (h v : Held) (next : ℕ) (f : Frame) (w : World S) → is_stop m.stop w.passed ≡ true →
    StopsAtMark m f w (op_assign_failed_at m a name o h v next f)
op_assign_stops {S = S} m a name o h v next f w halts x =
    at (says_missing (name_of m.program o.op_assign_name) x) where
      at : (b : Bool) →
          (if b then marked m f w (λ w1. operator_at m a name (name_of m.program o.op_name) h
          (record h { value = content_now a h w1 }) v next f (record w1 { trace = [] }))
          else raised m f x w) ≡ leave_by_fault m f NoMemory w
      at true = rw halts refl
      at false = rw halts refl

-- so does what an op-assignment gives, whatever it is
pub store_stops : {S : Type 0} (m : Setup S) (a : Home) (name : List ℕ) (r : Outcome) (o : AssignOp)
    (h : Held) (u : Dynamic) (v : Held) (next : ℕ) (f : Frame) (w : World S) →
    is_stop m.stop w.passed ≡ true →
    outcome_at m a name r o h u v next f w ≡ leave_by_fault m f NoMemory w
store_stops m a name NotBuiltIn o h u v next f w halts =
    native_stops m (name_of m.program o.op_assign_name)
    (Some (record { home = a; held = record h { value = u } })) (v ∷ []) f w
    (λ r w1. onward m f (stepped f next (below f.operands)) w1)
    (op_assign_failed_at m a name o h v next f) halts
    (op_assign_stops m a name o h v next f w halts)
store_stops m a name (Gave x) o h u v next f w halts =
    written_stops m a (record h { value = x }) name f w
    (onward m f (stepped f next (below f.operands))) halts
store_stops m a name (ArithmeticFault t) o h u v next f w halts = rw halts refl
store_stops m a name (TooLarge t) o h u v next f w halts = rw halts refl

-- a rule that stops at its first mark, where memory is out before anything is done
pub wants_memory : {H : Type 0} (law : Law H) (p : View) (engine : Engine) (f : Activation)
    (s : Run H) (n : StepsView) (host : H) {rule : Computation H} {ts : List ℕ} {takes gives : ℕ}
    {hs : List Handler} (r : Result Progress OutOfMemory) → is_out r ≡ true →
    f.base ≤ length s.scope →
    ((stop : Option ℕ) (u : Environment) (place : Option Place) →
    is_stop stop n.passed ≡ true →
    rule (stopped (setup law p engine) stop) place (world (abstraction s n host) u)
    ≡ leave_by_fault (stopped (setup law p engine) stop) (frame_in f s place) NoMemory
    (world (abstraction s n host) u)) →
    Implements (setup law p engine) (moment f s n host) rule ts takes gives hs r (moment f s n host)
wants_memory law p engine f s n host (Ok y) out inside stops = absurd cc
wants_memory law p engine f s n host (Err y) out inside stops = record {
  same = record {
    this = refl;
    order = omega arith;
    equal = λ stop clear halts u place. stops stop u place halts;
  };
  kept = record {
    chunk = refl;
    base = refl;
    scope = inside;
    room = refl;
    noted = refl;
    outer = refl;
    saved = refl;
    level = refl;
    this = (refl, refl);
    later = omega arith;
  };
  lands = tt;
  before = refl;
}

-- a fault is raised, and no operand is gone
pub raises_here : {H : Type 0} (law : Law H) (p : View) (engine : Engine) (f : Activation)
    (s s' : Run H) (n n' : StepsView) (host : H) (x : Problem) {rule : Computation H}
    {ts : List ℕ} {takes gives : ℕ} (r : Result Progress OutOfMemory) → Raises s n x r s' n' →
    f.base ≤ length s.scope →
    ((stop : Option ℕ) (u : Environment) (place : Option Place) →
    rule (stopped (setup law p engine) stop) place (world (abstraction s n host) u)
    ≡ raised (stopped (setup law p engine) stop) (frame_in f s place) x
    (world (abstraction s n host) u)) →
    Implements (setup law p engine) (moment f s n host) rule ts takes gives s.stacks.handlers r
    (moment f s' n' host)
raises_here {H = H} law p engine f s s' n n' host x {rule} {ts} {takes} {gives} (Ok q) h inside
    alike = record {
      same = raises_exactly f s s' n n' host x (Ok q) h alike;
      kept = kept s'.fault s' h.1;
      lands = lands q h.0 s'.fault s' h.1;
      before = ap (λ (k : StepsView). k.before) h.3;
    } where
      kept : (y : EvalAltResult) (s' : Run H) → s' ≡ record s { fault = y } → KeepsFrame f s f s'
      kept y s' es = rw es (record {
        chunk = refl;
        base = refl;
        scope = inside;
        room = refl;
        noted = refl;
        outer = refl;
        saved = refl;
        level = refl;
        this = (refl, refl);
        later = omega arith;
      })

      lands : (q : Progress) → q ≡ progress.Failed → (y : EvalAltResult) (s' : Run H) →
          s' ≡ record s { fault = y } →
          ContinuesAt engine s f s' f ts takes gives s.stacks.handlers (Ok q)
      lands q eq y s' es = rw (eq, es) (omega arith, refl, refl)
raises_here law p engine f s s' n n' host x {rule} {ts} {takes} {gives} (Err e) h inside alike =
    rw (h.0, h.1) (record {
      same = raises_exactly f s s n n host x (Err e) (refl, refl) alike;
      kept = record {
        chunk = refl;
        base = refl;
        scope = inside;
        room = refl;
        noted = refl;
        outer = refl;
        saved = refl;
        level = refl;
        this = (refl, refl);
        later = omega arith;
      };
      lands = tt;
      before = refl;
    })

-- an operator's fault is raised, or memory is out, and no operand is gone
pub outcome_raises : {H : Type 0} (law : Law H) (p : View) (engine : Engine) (f : Activation)
    (s s' : Run H) (n n' : StepsView) (host : H) (o : Outcome) {rule : Computation H}
    {ts : List ℕ} {takes gives : ℕ} (r : Result Progress OutOfMemory) →
    RaisesOutcome s n o (position_of p f.address) r s' n' → f.base ≤ length s.scope →
    ((stop : Option ℕ) (u : Environment) (place : Option Place) → IsFault o →
    rule (stopped (setup law p engine) stop) place (world (abstraction s n host) u)
    ≡ raised (stopped (setup law p engine) stop) (frame_in f s place)
    (fault_at o (position_of p f.address)) (world (abstraction s n host) u)) →
    ((stop : Option ℕ) (u : Environment) (place : Option Place) →
    is_stop stop n.passed ≡ true →
    rule (stopped (setup law p engine) stop) place (world (abstraction s n host) u)
    ≡ leave_by_fault (stopped (setup law p engine) stop) (frame_in f s place) NoMemory
    (world (abstraction s n host) u)) →
    Implements (setup law p engine) (moment f s n host) rule ts takes gives s.stacks.handlers r
    (moment f s' n' host)
outcome_raises law p engine f s s' n n' host o (Ok q) h inside raises stops =
    raises_here law p engine f s s' n n' host (fault_at o (position_of p f.address)) (Ok q) h.1
    inside (λ stop u place. raises stop u place h.0)
outcome_raises law p engine f s s' n n' host o (Err e) h inside raises stops =
    rw (h.0, h.1) (wants_memory law p engine f s n host (Err e) refl inside stops)

-- what an operator gives as a value stops at its first mark, whatever it is
pub push_stops : {S : Type 0} (m : Setup S) (o : Outcome) (name : List ℕ) (args : List Held)
    (next : ℕ) (operands : List Held) (f : Frame) (w : World S) → is_stop m.stop w.passed ≡ true →
    push_outcome m o name args next operands f w ≡ leave_by_fault m f NoMemory w
push_stops m NotBuiltIn name args next operands f w halts =
    native_stops m name None args f w (λ v w1. pushed m f next operands v w1) (raised m f) halts
    (λ y. rw halts refl)
push_stops m (Gave v) name args next operands f w halts = rw halts refl
push_stops m (ArithmeticFault t) name args next operands f w halts = rw halts refl
push_stops m (TooLarge t) name args next operands f w halts = rw halts refl

-- where an operator gives a fault, it is raised
pub push_raises : {S : Type 0} (m : Setup S) (o : Outcome) (name : List ℕ) (args : List Held)
    (next : ℕ) (operands : List Held) (f : Frame) (w : World S) → IsFault o →
    push_outcome m o name args next operands f w ≡ raised m f (fault_at o (position m f)) w
push_raises m NotBuiltIn name args next operands f w is = absurd is
push_raises m (Gave v) name args next operands f w is = absurd is
push_raises m (ArithmeticFault t) name args next operands f w is = refl
push_raises m (TooLarge t) name args next operands f w is = refl

pub store_raises : {S : Type 0} (m : Setup S) (a : Home) (name : List ℕ) (r : Outcome) (o : AssignOp)
    (h : Held) (u : Dynamic) (v : Held) (next : ℕ) (f : Frame) (w : World S) → IsFault r →
    outcome_at m a name r o h u v next f w ≡ raised m f (fault_at r (position m f)) w
store_raises m a name NotBuiltIn o h u v next f w is = absurd is
store_raises m a name (Gave x) o h u v next f w is = absurd is
store_raises m a name (ArithmeticFault t) o h u v next f w is = refl
store_raises m a name (TooLarge t) o h u v next f w is = refl
