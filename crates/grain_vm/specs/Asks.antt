-- Natives that ask for calls: what they ask for is done, until they are over.
use Rattle.std.specs.Prelude.{◌≡◌, ◌⊎◌, ◌<◌, ◌≤◌, ◌+◌, ℕ, List, Option, Some, None, Bool, true, false, if◌then◌else◌, Result, Ok, Err, length}
use Rattle.grain_value.specs.Tree.{Tree}
use Rattle.grain_value.specs.declared.scopes.Entry.{Entry}
use Rattle.grain_value.specs.declared.values.Dynamic.{Dynamic}
use Rattle.grain_value.specs.declared.values.FnPtr.{FnPtr}
use Rattle.grain_value.specs.declared.values.Held.{Held}
use Rattle.grain_fault.specs.Problems.{NoMemory, problem_of}
use Rattle.grain_fault.specs.declared.faults.EvalAltResult.{EvalAltResult}
use Rattle.grain_fault.specs.declared.faults.EvalAltResult.TheVariants as fault
use Rattle.grain_fault.specs.declared.places.Position.{Position}
use Rattle.grain_fault.specs.declared.traces.Fault.{Fault}
use Rattle.grain_host.specs.Law.{Value, Fault as FaultOf}
use Rattle.grain_chain.specs.Walking.{is_want, no_memory, outcome_of}
use Rattle.grain_global.specs.StepsView.{StepsView}
use Rattle.grain_global.specs.declared.engines.Engine.{Engine}
use Rattle.grain_fault.specs.Absences.{is_dot_expr, is_indexing_type}
use Rattle.grain_means.specs.Worlds.{Act, Answer, Callback, Came, Failed, Frame, Place, Setup, World}
use Rattle.grain_means.specs.Rules.{called_back, called_back_over, given_up, is_told, native_over, position, told}
use Rattle.grain_means.specs.Rules.InWorld.{failed_so, trace_of}
use Rattle.grain_means.specs.Simulation.{Computation, Simulates, SimulatesExactly}
use Rattle.grain_frame.specs.Natives.{IsAt}
use Rattle.grain_frame.specs.Receivers.{KeepsBound}
use Rattle.grain_frame.specs.Targets.{home_of}
use Rattle.grain_frame.specs.Waiting.{IsKept, IsKeptAt, IsNotLent, LeadsTo, Lends, asking, beside, state_after, state_with}
use Rattle.grain_frame.specs.declared.activations.Activation.{Activation}
use Rattle.grain_frame.specs.declared.runs.Run.{Run}
use Rattle.grain_frame.specs.declared.targets.Target.TheVariants as to
use Rattle.grain_frame.specs.declared.waiting.Loan.{Loan}
use Rattle.grain_frame.specs.declared.waiting.Loan.TheVariants as have
use Rattle.grain_frame.specs.declared.waiting.Waiting.{Waiting}
use Rattle.grain_program.specs.View.{View}
use Rattle.grain_vm.specs.Methods.{Hears}
use Rattle.grain_vm.specs.declared.driving.AskingNative.{AskingNative}
use Rattle.grain_vm.specs.declared.driving.Answered.{Answered}
use Rattle.grain_vm.specs.declared.driving.Answered.TheVariants as answered

-- an instruction waits for a native: it can go on after it, and what the native was lent is what the
-- instruction writes, or nothing
pub record IsWaiting {H : Type 0} (p : View) (f : Activation) (s : Run H) (w : Waiting) : Type 0 where
  pub takes : ℕ
  pub gives : ℕ
  pub targets : List ℕ
  pub leads : LeadsTo p f s w.rest takes gives targets
  pub lends : Lends w.rest w.lent
  pub kept : IsKept s w.lent

-- the run has an instruction that waits for a native
abbrev pub Awaits : {H : Type 0} → View → Activation → Run H → Type 0
Awaits p f s = (w : Waiting) × (s.waiting ≡ Some w) × IsWaiting p f s w

-- a call whose pointer and values are these, and whose faults have this position
pub record IsCallback {H : Type 0} (m : Setup H) (q : Position) (p : FnPtr) (values : List Tree)
    (c : Option Place → Callback) : Type 0 where
  pub at : (place : Option Place) → position m (c place).frame ≡ q
  pub pointer : (place : Option Place) → (c place).pointer ≡ p
  pub values_are : (place : Option Place) → (c place).values ≡ values

-- The call that a native asked for was done, whatever the scope and the `this` are meanwhile: what follows
-- is what follows from its outcome.
abbrev pub CallsBack : {H : Type 0} → Setup H → Position → FnPtr → List Tree → Run H → StepsView → H →
    Result Dynamic EvalAltResult → Run H → StepsView → H → Type 0
CallsBack {H = H} m q p values s n host o s' n' host' =
    (c : Option Place → Callback) (scope : List Entry) (x : Option Held) (heard : Hears H) →
    IsCallback m q p values c →
    Simulates m (beside scope x s n host)
    (λ m place w. called_back m (heard m place) (c place) w) (is_want o)
    (beside scope x s' n' host') (λ m place w. heard m place (outcome_of o) w)

-- what the host hears of, or what goes on without it
abbrev pub told_of : {H : Type 0} → Result (Result Dynamic EvalAltResult) EvalAltResult →
    (Option Place → Callback) → Computation H
told_of (Ok (Ok v)) c m place w = told m (c place) (Value v) w
told_of (Ok (Err x)) c m place w = told m (c place) (FaultOf (problem_of x)) w
told_of (Err x) c m place w = given_up m (c place) (Failed (problem_of x)) w

abbrev pub told_is_out : Result (Result Dynamic EvalAltResult) EvalAltResult → Bool
told_is_out (Ok o) = false
told_is_out (Err x) = no_memory (problem_of x)

-- what the host hears of a fault, if it hears of it
abbrev pub told_fault : EvalAltResult → Result (Result Dynamic EvalAltResult) EvalAltResult
told_fault x = if is_told (problem_of x) then Ok (Err x) else Err x

-- the host may be told of how a call ended
abbrev pub IsHeard : Result Dynamic EvalAltResult → Type 0
IsHeard (Ok v) = Unit {0}
IsHeard (Err x) = is_told (problem_of x) ≡ true

-- what the host hears of how a call ended
abbrev pub TellsOf : {H : Type 0} → Setup H → Position → Result Dynamic EvalAltResult → Run H →
    StepsView → Result (Result Dynamic EvalAltResult) EvalAltResult → StepsView → Type 0
TellsOf {H = H} m q came s n r n' =
    (c : Option Place → Callback) (scope : List Entry) (x : Option Held) (host : H) →
    ((place : Option Place) → position m (c place).frame ≡ q) →
    SimulatesExactly m (beside scope x s n host)
    (λ m place w. called_back_over m (c place) (outcome_of came) w) (told_is_out r)
    (beside scope x s n' host) (told_of r c)

-- a call that the host hears of has taken an operation, which was left
abbrev pub TookOne : {H : Type 0} → Engine → Run H → Result Dynamic EvalAltResult → Run H → Type 0
TookOne engine s (Ok v) s' = (s.count < s'.count) × (s.count < engine.limits.operations)
TookOne engine s (Err x) s' =
    ((s.count < s'.count) × (s.count < engine.limits.operations))
    ⊎ (is_told (problem_of x) ≡ false)

-- the scope once a native is over that was lent this: an entry may have been written
abbrev pub ScopeOver : Loan → List Entry → List Entry → Type 0
ScopeOver have.Nothing scope scope' = scope' ≡ scope
ScopeOver (have.Target t) scope scope' = length scope' ≡ length scope
ScopeOver (have.Cell n h) scope scope' = scope' ≡ scope
ScopeOver (have.Apart h) scope scope' = scope' ≡ scope

-- and each `this`: the frame's own may have been written
abbrev pub ThisOver : {H : Type 0} → Loan → Run H → Run H → Type 0
ThisOver have.Nothing s s' = s'.receivers ≡ s.receivers
ThisOver (have.Target t) s s' = KeepsBound s.level s.receivers s'.receivers
ThisOver (have.Cell n h) s s' = s'.receivers ≡ s.receivers
ThisOver (have.Apart h) s s' = s'.receivers ≡ s.receivers

-- what it was lent stands in the run again
abbrev pub IsBackAt : {H : Type 0} → Run H → Loan → Type 0
IsBackAt s have.Nothing = Unit {0}
IsBackAt s (have.Target t) = IsKeptAt s t
IsBackAt s (have.Cell n h) = IsNotLent s (to.Cell n)
IsBackAt s (have.Apart h) = Unit {0}

-- A native that asked for calls is over: but for what it was lent, the cells, the count, how often a frame
-- was entered, the trace and the fault all is as it was before.
pub record NativeOver {H : Type 0} (l : Loan) (s s' : Run H) : Type 0 where
  pub scope : ScopeOver l s.scope s'.scope
  pub saved : s'.saved ≡ s.saved
  pub level : s'.level ≡ s.level
  pub receivers : ThisOver l s s'
  pub room : s'.stacks.room ≡ s.stacks.room
  pub noted : s'.stacks.noted ≡ s.stacks.noted
  pub outer : s'.stacks.outer ≡ s.stacks.outer
  pub operands : s'.stacks.operands ≡ s.stacks.operands
  pub cursors : s'.stacks.cursors ≡ s.stacks.cursors
  pub totals : s'.stacks.totals ≡ s.stacks.totals
  pub handlers : s'.stacks.handlers ≡ s.stacks.handlers
  pub back : IsBackAt s' l
  pub later : s.count ≤ s'.count

-- The native was called back and called until it was over, wherever the frame stands and whatever follows.
abbrev pub EndsNative : {H : Type 0} → Setup H → AskingNative → Run H → StepsView → H →
    Result Dynamic EvalAltResult → Option Held → Run H → StepsView → H → Type 0
EndsNative {H = H} m native s n host o left s' n' host' =
    (f : Option Place → Frame) (heard : Hears H) (scope : List Entry) (x : Option Held) →
    IsAt m f native.pos →
    Simulates m (state_with native.lent scope x s n host)
    (asking (home_of to.This) s native.asked native.lent f heard) (is_want o)
    (state_after native.lent left scope x s' n' host')
    (λ m place w. heard m place (outcome_of o) w)

-- what follows in a walk, or where a native was called back, once a native is over that asked for calls: its
-- fault is raised at a mark
abbrev pub raised_to : {H : Type 0} → Hears H → Setup H → Option Place → Answer → World H → Act H
raised_to heard m place =
    native_over (heard m place (Failed NoMemory)) (λ v w. heard m place (Came v) w)
    (failed_so m (heard m place))

-- A native that was called so far is over, wherever it was called and whatever follows.
abbrev pub FinishesNative : {H : Type 0} → Setup H → Answered → Run H → StepsView → H →
    Result Dynamic EvalAltResult → Option Held → Run H → StepsView → H → Type 0
FinishesNative m (answered.Over r) s n host o left s' n' host' =
    (o ≡ r.0) × (left ≡ r.1) × (s' ≡ s) × (n' ≡ n) × (host' ≡ host)
FinishesNative {H = H} m (answered.Asks native) s n host o left s' n' host' =
    (f : Option Place → Frame) (heard : Hears H) (scope : List Entry) (x : Option Held) →
    IsAt m f native.pos →
    Simulates m (state_with native.lent scope x s n host)
    (asking (home_of to.This) s native.asked native.lent f (raised_to heard)) (is_want o)
    (state_after native.lent left scope x s' n' host')
    (λ m place w. heard m place (outcome_of o) w)

-- the fault of a native that is over is raised at a mark, and the trace is then that of the fault before, if
-- that is kept; or memory is out for it, and nothing has changed
abbrev pub RaisesTraced : {H : Type 0} → EvalAltResult → Option (List Fault) → Run H → StepsView →
    Result Dynamic EvalAltResult → Run H → StepsView → Type 0
RaisesTraced x before s n r s' n' =
    ((r ≡ Err x) × (s' ≡ record s {
      stacks = record s.stacks {
        trace = trace_of before (Failed (problem_of x)) s.stacks.trace;
      };
    }) × (n' ≡ record n { passed = n.passed + 1 }))
    ⊎ ((r ≡ Err fault.Memory) × (s' ≡ s) × (n' ≡ n))

abbrev pub RaisesUnlessOut : {H : Type 0} → Bool → EvalAltResult → Option (List Fault) → Run H →
    StepsView → Result Dynamic EvalAltResult → Run H → StepsView → Type 0
RaisesUnlessOut true x before s n r s' n' = (r ≡ Err x) × (s' ≡ s) × (n' ≡ n)
RaisesUnlessOut false x before s n r s' n' = RaisesTraced x before s n r s' n'

-- the same of a native that is over with this: a value is handed on, and so is want of memory
abbrev pub RaisesInWalk : {H : Type 0} → Result Dynamic EvalAltResult → Option (List Fault) → Run H →
    StepsView → Result Dynamic EvalAltResult → Run H → StepsView → Type 0
RaisesInWalk (Ok v) before s n r s' n' = (r ≡ Ok v) × (s' ≡ s) × (n' ≡ n)
RaisesInWalk (Err x) before s n r s' n' =
    RaisesUnlessOut (no_memory (problem_of x)) x before s n r s' n'

-- whether a property was missed just now, and the trace that this fault left, which stands in the run
abbrev pub IsMissed : Bool → List Fault → Option (List Fault) → Type 0
IsMissed true trace missed = missed ≡ Some trace
IsMissed false trace missed = missed ≡ None

-- whether a native ended with the fault that there is no such property, and whether with the one that
-- there is no such indexer
abbrev pub has_missed : Answer → Bool
has_missed (Came v) = false
has_missed (Failed x) = is_dot_expr x

abbrev pub has_no_indexer : Answer → Bool
has_no_indexer (Came v) = false
has_no_indexer (Failed x) = is_indexing_type x
