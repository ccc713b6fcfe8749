-- How a function that a walk calls is entered and left.
use Rattle.std.specs.Prelude.{◌≡◌, ◌<◌, ◌≤◌, ◌+◌, ℕ, List, [], ◌∷◌, ◌++◌, true, false, Option, Some, None, Result, Ok, Err, if◌then◌else◌, length, map, slice_get}
use Rattle.grain_value.specs.Tree.{Tree}
use Rattle.grain_value.specs.View.{value_of}
use Rattle.grain_value.specs.Operands.{read_write, top}
use Rattle.grain_value.specs.declared.memory.OutOfMemory.{OutOfMemory}
use Rattle.grain_value.specs.declared.values.Dynamic.{Dynamic}
use Rattle.grain_value.specs.declared.values.Held.{Held}
use Rattle.grain_value.specs.declared.scopes.Entry.{Entry}
use Rattle.grain_fault.specs.Problems.{problem_of}
use Rattle.grain_fault.specs.declared.faults.EvalAltResult.{EvalAltResult}
use Rattle.grain_fault.specs.declared.faults.EvalAltResult.TheVariants as fault
use Rattle.grain_fault.specs.declared.places.Position.{Position}
use Rattle.grain_program.specs.Lookups.{function_by_text}
use Rattle.grain_program.specs.View.{View}
use Rattle.grain_program.specs.declared.code.functions.Function.{Function}
use Rattle.grain_global.specs.StepsView.{StepsView}
use Rattle.grain_global.specs.declared.engines.Engine.{Engine}
use Rattle.grain_stack.specs.Views.{innermost, with_frame}
use Rattle.grain_chain.specs.Walking.{is_want, outcome_of}
use Rattle.grain_chain.specs.declared.requests.Request.{Request}
use Rattle.grain_chain.specs.declared.requests.What.{What}
use Rattle.grain_chain.specs.declared.requests.What.TheVariants as what
use Rattle.grain_means.specs.Worlds.{Act, Answer, Go, InFrame, Place, Setup, Then, World}
use Rattle.grain_means.specs.Rules.{bound, frame_at}
use Rattle.grain_means.specs.Rules.InWorld.{body_over, function_called, function_under}
use Rattle.grain_means.specs.Simulation.{Simulates, SimulatesExactly}
use Rattle.grain_frame.specs.Receivers.{others_at}
use Rattle.grain_frame.specs.declared.receivers.Bound.{Bound}
use Rattle.grain_frame.specs.declared.runs.Run.{Run}
use Rattle.grain_vm.specs.Calls.{WrapsSo, caller_of}
use Rattle.grain_vm.specs.Driving.{Answers, IsApartIn, SameFlag, beside, having, is_named, left_by}
use Rattle.grain_vm.specs.declared.driving.Answered.{Answered}
use Rattle.grain_vm.specs.declared.calls.FrameEnd.{FrameEnd}
use Rattle.grain_vm.specs.declared.calls.FrameEnd.TheVariants as frame_end
use Rattle.grain_vm.specs.declared.methods.MethodCall.{MethodCall}
use Rattle.grain_vm.specs.declared.methods.Needed.{Needed}
use Rattle.grain_vm.specs.declared.methods.Needed.TheVariants as needed

-- ---- what a request calls

-- the arguments of a call, each of which can be written
abbrev pub given_to : List Tree → List Held
given_to ts = map read_write (map value_of ts)

-- the function of a call is there, with one parameter for each argument
pub record HasFunction (p : View) (c : MethodCall) : Type 0 where
  pub function : Function
  pub is : slice_get p.functions c.number ≡ Some function
  pub count : length function.params ≡ length c.arguments

-- the request for this calls a native, which is asked for so
abbrev pub AsksNative : View → Request → What → Request → Type 0
AsksNative p r (what.Native name) asked = asked ≡ r
AsksNative p r (what.Compiled n) asked = ⊥
AsksNative p r (what.Pointer f) asked =
    (function_by_text p f.name (length f.curry + length r.arguments) ≡ None)
    × (asked ≡ record r { what = what.Native f.name; arguments = f.curry ++ r.arguments })

-- the request for this calls the function of this number on these arguments
abbrev pub AsksFunction : View → Request → What → ℕ → List Tree → Type 0
AsksFunction p r (what.Native name) number ts = ⊥
AsksFunction p r (what.Compiled n) number ts = (number ≡ n) × (ts ≡ r.arguments)
AsksFunction p r (what.Pointer f) number ts =
    (function_by_text p f.name (length f.curry + length r.arguments) ≡ Some number)
    × (ts ≡ f.curry ++ r.arguments)

-- the request calls this function
pub record CallsFunction (p : View) (r : Request) (c : MethodCall) : Type 0 where
  pub there : HasFunction p c
  pub asks : AsksFunction p r r.what c.number c.arguments
  pub position : c.pos ≡ r.pos
  pub receiver : c.receiver ≡ r.receiver

-- what is asked for is what a pointer names
abbrev pub IsPointer : What → Type 0
IsPointer (what.Native name) = ⊥
IsPointer (what.Compiled n) = ⊥
IsPointer (what.Pointer f) = Unit {0}

-- what a request calls; if memory runs out, the request, which is for a pointer, is given back
abbrev pub NeedsSo : View → Request → Result Needed Request → Type 0
NeedsSo p r (Ok (needed.Native asked)) = AsksNative p r r.what asked
NeedsSo p r (Ok (needed.Function c)) = CallsFunction p r c
NeedsSo p r (Err back) = (back ≡ r) × IsPointer r.what

-- what came of a request: its native was called, or it calls this function, and nothing is done
abbrev pub ServesRequest : {H : Type 0} → Setup H → Request → Run H → StepsView → H →
    Result Answered MethodCall → Run H → StepsView → H → Type 0
ServesRequest m r s n host (Ok a) s' n' host' =
    SameFlag r.receiver (left_by a) × IsApartIn a
    × Answers m (is_named r.what) (having r.what r) r.receiver s n host a s' n' host'
ServesRequest m r s n host (Err c) s' n' host' =
    CallsFunction m.program r c × (n' ≡ n) × (host' ≡ host)

-- ---- the `this` of the function

-- the newest `this` is of no level above this one
abbrev pub NoneAbove : ℕ → List Bound → Type 0
NoneAbove level [] = Unit {0}
NoneAbove level (b ∷ bs) = b.level ≤ level

-- the receiver, if there is one, is the `this` of the frame of this level
abbrev pub bound_with : ℕ → Option Held → List Bound → List Bound
bound_with level None bs = bs
bound_with level (Some h) bs = record { level = level; held = h } ∷ bs

-- what is kept of a receiver during the call: the receiver itself, if it is read-only, since then the
-- `this` is a copy
abbrev pub kept_back : Option Held → Option Held
kept_back None = None
kept_back (Some h) = if h.read_only then Some h else None

-- what goes back to the walk after the call: what was kept, or else what the `this` holds then
abbrev pub given_back : Option Held → Option Held → Option Held
given_back back None = None
given_back None (Some h) = Some h
given_back (Some b) (Some h) = Some b

-- ---- the way in and the way out

-- what follows from the answer of a call
abbrev pub Hears : Type 0 → Type 0
Hears S = Setup S → Option Place → Answer → World S → Act S

-- The call has begun: its operation is charged, the function's frame is entered, the caller's frame is
-- the next one outside it, the caller's scope is put aside, the level is one higher, and the receiver
-- is the `this` there.
pub record MethodEntered {H : Type 0} (engine : Engine) (g : Function) (x : Option Held)
    (s s' : Run H) : Type 0 where
  pub saved : s'.saved ≡ s.saved ++ s.scope ∷ []
  pub level : s'.level ≡ s.level + 1
  pub receivers : s'.receivers ≡ bound_with (s.level + 1) x s.receivers
  pub caller : s'.stacks.outer ≡ innermost s.stacks ∷ s.stacks.outer
  pub operands : s'.stacks.operands ≡ []
  pub cursors : s'.stacks.cursors ≡ []
  pub totals : s'.stacks.totals ≡ []
  pub handlers : s'.stacks.handlers ≡ []
  pub room : s'.stacks.room ≡ g.chunk.max_stack
  pub unnoted : s'.stacks.noted ≡ false
  pub count : s'.count ≡ s.count + 1
  pub allowed : s.count < engine.limits.operations

-- The call is over: but for the cells, the count, how often a frame was entered, the trace and the
-- fault all is as it was before.
pub record MethodOver {H : Type 0} (s s' : Run H) : Type 0 where
  pub scope : s'.scope ≡ s.scope
  pub saved : s'.saved ≡ s.saved
  pub level : s'.level ≡ s.level
  pub receivers : s'.receivers ≡ s.receivers
  pub room : s'.stacks.room ≡ s.stacks.room
  pub noted : s'.stacks.noted ≡ s.stacks.noted
  pub outer : s'.stacks.outer ≡ s.stacks.outer
  pub operands : s'.stacks.operands ≡ s.stacks.operands
  pub cursors : s'.stacks.cursors ≡ s.stacks.cursors
  pub totals : s'.stacks.totals ≡ s.stacks.totals
  pub handlers : s'.stacks.handlers ≡ s.stacks.handlers
  pub later : s.count ≤ s'.count

-- After the operation is charged and the limits are tested: the frame is entered, on a scope of the
-- arguments, one level up; or memory is out, and nothing has changed.
abbrev pub EntersBound : {H : Type 0} → Function → View → Option Held → List Tree → Run H →
    Result (Option Held) (Result Dynamic EvalAltResult × Option Held) → Run H → Type 0
EntersBound g p x ts s (Ok back) s' =
    (back ≡ kept_back x)
    × (s' ≡ record s {
      stacks = with_frame g.chunk.max_stack s.stacks;
      scope = bound p g.params (given_to ts);
      saved = s.saved ++ s.scope ∷ [];
      level = s.level + 1;
      receivers = bound_with (s.level + 1) x s.receivers;
    })
EntersBound g p x ts s (Err o) s' = (s' ≡ s) × (o.1 ≡ x) × (is_want o.0 ≡ true)

-- a mark is passed where the frame is entered
abbrev pub MarksEntry : Result (Option Held) (Result Dynamic EvalAltResult × Option Held) →
    StepsView → StepsView → Type 0
MarksEntry (Ok back) n n' = n' ≡ record n { passed = n.passed + 1 }
MarksEntry (Err o) n n' = n' ≡ n

-- what a frame that is over gives the call of its function, at this position
abbrev pub GivesOutcome : {H : Type 0} → View → Position → Function →
    Result FrameEnd OutOfMemory → Run H → StepsView → Result Dynamic EvalAltResult → StepsView →
    Type 0
GivesOutcome p q g (Ok frame_end.Value) s n o n' =
    (o ≡ Ok (top s.stacks.operands).value) × (n' ≡ n)
GivesOutcome p q g (Ok frame_end.Fault) s n (Ok v) n' = ⊥
GivesOutcome p q g (Ok frame_end.Fault) s n (Err y) n' =
    WrapsSo p g q (problem_of s.fault) (problem_of y) n n'
GivesOutcome p q g (Err e) s n o n' = (o ≡ Err fault.Memory) × (n' ≡ n)

-- the run after the function's frame is left, and its `this` is gone
abbrev pub left_from : {H : Type 0} → Run H → Run H
left_from s = record (caller_of s) { receivers = others_at s.level s.receivers }

-- the body gave this answer, and what is left is what follows from the call's outcome
abbrev pub LeavesBody : {H : Type 0} → Setup H → Position → Function → Answer → Run H → StepsView →
    Result Dynamic EvalAltResult → Run H → StepsView → Type 0
LeavesBody {H = H} m q g a s n o s' n' =
    (scope : List Entry) (x : Option Held) (host : H) (heard : Hears H) →
    SimulatesExactly m (beside scope x s n host)
    (λ m place w. body_over m q g (heard m place) a w) (is_want o)
    (beside scope x s' n' host) (λ m place w. heard m place (outcome_of o) w)

module _ {H : Type 0} (m : Setup H) (q : Position) (g : Function) (args : List Held) where
  -- The function's frame is entered: from its call, under any place, what is left is its body, and then
  -- what follows from the answer. `scope` is that of the meaning's caller, and `x` is any `this`.
  abbrev pub EntersBody : Run H → StepsView → H → Run H → StepsView → H → Type 0
  EntersBody s n host s' n' host' =
      (scope : List Entry) (x : Option Held) (spot : Option Place) (heard : Hears H) →
      SimulatesExactly m (beside scope x s n host)
      (λ m place w. function_under m q g args (heard m place) spot w) false
      (beside s'.scope x s' n' host')
      (λ m place w. Then (Go (InFrame (frame_at g.chunk 0 spot)) w)
      (λ a w2. body_over m q g (heard m place) a (record w2 { scope = scope; level = s.level })))

  -- the call is over before its frame is entered
  abbrev pub EndsBefore : Run H → StepsView → H → Result Dynamic EvalAltResult → Run H → StepsView →
      H → Type 0
  EndsBefore s n host o s' n' host' =
      (scope : List Entry) (x : Option Held) (spot : Option Place) (heard : Hears H) →
      SimulatesExactly m (beside scope x s n host)
      (λ m place w. function_under m q g args (heard m place) spot w) (is_want o)
      (beside scope x s' n' host') (λ m place w. heard m place (outcome_of o) w)

  -- what came of the beginning of a call with this receiver
  abbrev pub Enters : Engine → Option Held → Run H → StepsView → H →
      Result (Option Held) (Result Dynamic EvalAltResult × Option Held) → Run H → StepsView → H →
      Type 0
  Enters engine x s n host (Ok back) s' n' host' =
      (back ≡ kept_back x) × MethodEntered engine g x s s' × EntersBody s n host s' n' host'
  Enters engine x s n host (Err o) s' n' host' =
      (o.1 ≡ x) × MethodOver s s' × EndsBefore s n host o.0 s' n' host'

-- A call was done, wherever its receiver, if it has one, stands among the roots: what follows is what
-- follows from the call's outcome, and there stands what the call left of the receiver.
abbrev pub CallsMethod : {H : Type 0} → Setup H → MethodCall → Function → Run H → StepsView → H →
    Result Dynamic EvalAltResult → Option Held → Run H → StepsView → H → Type 0
CallsMethod {H = H} m c g s n host o left s' n' host' =
    (scope : List Entry) (heard : Hears H) →
    Simulates m (beside scope c.receiver s n host)
    (λ m place w. function_called m c.pos g (given_to c.arguments) (heard m place) place w)
    (is_want o) (beside scope left s' n' host') (λ m place w. heard m place (outcome_of o) w)
