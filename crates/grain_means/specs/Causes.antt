-- Why a run ends in a fault: it came to a frame at an instruction that raises the fault on what the
-- frame and the world then have.
pub mod Pointers
pub mod Literals
pub mod Instructions
pub mod Questions
pub mod Callbacks
pub mod Interpolation
pub mod Natives
pub mod Answers
pub mod Positions
pub mod Spots
pub mod Chains
pub use Rattle.grain_means.specs.Causes.Instructions.{truth_read, truth_on_top, Points, PointsNowhere, PointsFirst, HasReceiver, IsMethodCall, receiver, args_beside, function_beside, CallsPointed, CallsUnder, MissesPointed, AsksEither, PointedReadsLent, FirstReadsLent, MethodReadsLent, CallsOn, CallsFunction, Calls, Charges, IsCharged, HasTooMany, ReadsTop, Overfills, IsOver, HasNext, CountsPast, SwitchesBack, GivesLent, GoesOverNone, CountsTooFar, UsesEntry, Unwinds, Tests, AsksPointer, AsksName, NamesNone, Throws, Holds, AssignsConstant, Misses, Operates, HasNoBuiltIn, Mistypes, IsLent, AssignsLent, HoldsThis, AsksThis, AssignsLentThis, StoresLent, ReadsLent}
pub use Rattle.grain_means.specs.Causes.Callbacks.{parameters, ThreePassed, IsTaken, IsKeptOut, IsEntered, first_asked, BackEnds, HearsOf, reply_again, answered_again_world, next_asked, next_asked_world, native_begins, NativeBack, question_back, IsCalledBack, native_asked_world, BackAsks, back_asked, back_start, AsksNext, at_first, again, AsksOn, of_native, inside, GoesPast, HostFails, RunsBack, body_back, LeavesBack, AsksFirst, asked_by, asked_in}
pub use Rattle.grain_means.specs.Causes.Natives.{AssignsTo, AssignsByHost, Question, all_args, native_asked, reply_to, IsCalled, EndsWith, asks_first, AsksAgain, AsksSecond, AsksToAssign, AsksOnCopies, LendsReceiver, lent_last, AsksOnReceiver, AsksOnce, AsksNative, AsksLast, FindsNone, FindsNative, WritesConstant, HostAnswers}
pub use Rattle.grain_means.specs.Causes.Spots.{untraced, ChainWalk, CallAsks, call_asked, call_start, IsReason, IsLeft, CallEnds, InvocationEnds, Invokes, WalksTo, AtStep, Falls, WalkRow}
pub use Rattle.grain_means.specs.Causes.Chains.{ChainReads, ChainRow, LeavesNative, RaisedByChain, FromHostOrChain, ChainAsks, AsksFor, by_question, by_chain}
pub use Rattle.grain_means.specs.Causes.Positions.{CallsWith, ReceiverCalls, this_for, roots_for, ChainCalls, ChainCallFails, body_begins, out_of_body, Enters, LeftCall, BodyFails, LeftByChain, HasPosition, AnsweredSo, IsNoChain, TellsHere, ThrowsUnitAt, ThrowsUnit, HaveCaughtUnit, FirstIsArmed, ThrownAnew, Tells}
pub use Rattle.grain_means.specs.Causes.Literals.{HasTemplate, HasPairs, LacksTemplate, LacksKey, MakesOfLent, ChecksSize, Measures, MeasuresLent, LacksTotal, GrowsTooLarge}
pub use Rattle.grain_means.specs.Causes.Interpolation.{ShowsSegment, asks_for_text, AsksToShow, Gives, EndsBy, IsPassedOver, Renders, as_text, as_plain, as_given, as_type, AppendsTo, EndsBuffer, LacksBuffer, AppendsTooMuch}
use Rattle.std.specs.Prelude.{◌≡◌, ◌⊎◌, ◌<◌, ◌≤◌, ◌+◌, ℕ, List, [], Some, None, true, false, length, Result, Ok, Err}
use Rattle.grain_value.specs.declared.values.Dynamic.{Dynamic}
use Rattle.grain_value.specs.declared.values.Held.{Held}
use Rattle.grain_value.specs.Cells.{flat}
use Rattle.grain_value.specs.Operands.{top}
use Rattle.grain_fault.specs.Classes.{catchable}
use Rattle.grain_fault.specs.Positions.{at_position}
use Rattle.grain_fault.specs.declared.places.Position.{Position}
use Rattle.grain_fault.specs.declared.faults.MalformedKind.TheVariants as kind
use Rattle.grain_fault.specs.declared.faults.EvalAltResult.{EvalAltResult}
use Rattle.grain_fault.specs.declared.faults.EvalAltResult.TheVariants as fault
use Rattle.grain_fault.specs.Problems.{FaultKind, FunctionNotFound, MismatchDataType, AssignmentToConstant, DataRace, IndexingType, NonPureCall, DotExpr, Arithmetic, For, Runtime, TooManyOperations, TooManyVariables, StackOverflow, UnboundThis, DataTooLarge, Terminated, Malformed, Problem, Plain, InFunctionCall, InModule, SystemError, NoMemory, problem_of}
use Rattle.grain_program.specs.declared.code.instruction_set.Op.{Op}
use Rattle.grain_program.specs.declared.code.instruction_set.Op.TheVariants as op
use Rattle.grain_program.specs.declared.code.functions.Function.{Function}
use Rattle.grain_program.specs.View.{View, name_of, position_of, source_text}
use Rattle.grain_global.specs.declared.engines.Engine.{Engine}
use Rattle.grain_ops.specs.Outcomes.{ArithmeticFault, TooLarge}
use Rattle.grain_means.specs.Worlds.{Act, Go, Answer, Came, Failed, Callback, InFrame, InHost, World, Setup}
use Rattle.grain_host.specs.Law.{Law, Stop}
use Rattle.grain_host.specs.Law as reply
use Rattle.grain_value.specs.declared.natives.Native.{Native}
use Rattle.grain_means.specs.Rules.{position, race_text, is_stop, main}
use Rattle.grain_means.specs.Means.{Begin, setup, first_world}
use Rattle.grain_means.specs.Comes.{ProgramPoint, CatchPoint, Comes, ComesToCatch, Meets}
use Rattle.grain_means.specs.Ends.{Ends}

-- it costs an operation, of which the host hears, and the host says with this value that the run is
-- to stop
abbrev pub IsStopped : {S : Type 0} → Setup S → Dynamic → ProgramPoint S → Type 0
IsStopped m v at = (at.world.count < m.engine.limits.operations)
    × (m.law.progress_reply at.world.host (at.world.count + 1) ≡ Stop v)
    × Charges m.program at.instruction at.frame at.world

-- the run of an act comes to a point where this holds, and the fault tells a position of a frame of
-- this level
pub record Raised {S : Type 0} (m : Setup S) (act : Act S) (level : ℕ) (x : Problem)
    (Why : ProgramPoint S → Type 0) : Type 0 where
  pub point : ProgramPoint S
  pub met : Meets m point act
  pub why : Why point
  pub tells : Tells m act level point x

-- an op-assignment calls what it writes by this name
abbrev pub AssignsNamed : View → List ℕ → Op → Type 0
AssignsNamed program name (op.AssignLocalOp slot n k) = name ≡ name_of program n
AssignsNamed program name (op.AssignThisOp k) = name ≡ []
AssignsNamed program name o = ⊥

-- the host answers the operator of an op-assignment to the variable of this name with a cell whose
-- content is lent, at once or after the calls that it asks for first
pub record AnswersLent {S : Type 0} (m : Setup S) (name : List ℕ) (at : ProgramPoint S) : Type 0
  where
    pub named : AssignsNamed m.program name at.instruction
    pub question : Question S
    pub asks : AsksSecond m question at
    pub native : Native
    pub found : native_asked m question ≡ Some native
    pub called : IsCalled question native
    pub answer : Dynamic
    pub answers : ((reply_to m question native.key ≡ reply.Done answer)
        × (flat question.world.cells answer ≡ None))
        ⊎ ((a : AsksFirst m question native at.frame at.world) × (v : World S)
        × Ends m (Go (InHost (asked_by m a)) (asked_in m a)) (Came answer) v
        × (flat v.cells answer ≡ None))

-- where a fault says that the content of a cell is lent
abbrev pub Races : {S : Type 0} → Setup S → List ℕ → ProgramPoint S → Type 0
Races m s at = (name : List ℕ) × (s ≡ race_text name) ×
    (ReadsLent m name at.instruction at.frame at.world ⊎ AnswersLent m name at)

-- where an instruction raises a fault of this kind; but for a chain it raises no other kind than these
abbrev pub Raises : {S : Type 0} → Setup S → FaultKind → ProgramPoint S → Type 0
Raises m (FunctionNotFound s) at = FindsNone m (FunctionNotFound s) at
    ⊎ NamesNone s at.instruction at.frame at.world
Raises m (IndexingType s) at = FindsNone m (IndexingType s) at
Raises m (DotExpr s) at = FindsNone m (DotExpr s) at
Raises m (NonPureCall s) at = WritesConstant m s at
Raises m (Terminated v) at = IsStopped m v at
Raises m (MismatchDataType r a) at = Mistypes r a at.instruction at.frame at.world
Raises m (DataRace s) at = Races m s at
Raises m (AssignmentToConstant s) at =
    AssignsConstant m.program s at.instruction at.frame at.world
Raises m (Arithmetic s) at = ((name : List ℕ) × (args : List Held) ×
    Operates m (ArithmeticFault s) name args at.instruction at.frame at.world)
    ⊎ CountsTooFar s at.instruction at.frame
Raises m For at = GoesOverNone at.instruction at.frame at.world
Raises m (Runtime v) at =
    (flat at.world.cells (top at.frame.operands).value ≡ Some v) × Throws at.instruction
Raises m TooManyOperations at = (m.engine.limits.operations ≤ at.world.count) ×
    Charges m.program at.instruction at.frame at.world
Raises m TooManyVariables at = Overfills m at.instruction at.frame at.world
Raises m UnboundThis at =
    (at.frame.this ≡ None) × AsksThis at.instruction at.frame at.world
Raises m StackOverflow at = IsCharged m at.world ×
    (m.engine.limits.levels ≤ at.world.level) × Calls m.program at.instruction at.frame at.world
Raises m (DataTooLarge t) at = ((name : List ℕ) × (args : List Held) ×
    Operates m (TooLarge t) name args at.instruction at.frame at.world)
    ⊎ (GrowsTooLarge m t at.instruction at.frame at.world ⊎ AppendsTooMuch m t at)
Raises m (Malformed (kind.SlotPastScope i n)) at =
    (n ≡ length at.world.scope) × (n ≤ i) × UsesEntry i at.instruction at.frame at.world
Raises m (Malformed (kind.UnwindPastScope t n)) at =
    (n ≡ length at.world.scope) × (n < t) × Unwinds t at.instruction at.frame
Raises m (Malformed (kind.TemplateNotMap s)) at =
    LacksTemplate s at.instruction at.frame at.world
Raises m (Malformed (kind.KeyNotText s)) at = LacksKey s at.instruction at.frame at.world
Raises m (Malformed (kind.BufferNotText s)) at = LacksBuffer m s at
Raises m (Malformed (kind.MissingTotal i)) at = LacksTotal m i at.instruction at.frame
Raises m k at = ⊥

-- where an instruction raises this fault, or a fault leaves the call that the instruction is
abbrev pub Row : {S : Type 0} → Setup S → Problem → ProgramPoint S → Type 0
Row m (Plain k p) at = Raises m k at
Row m (InFunctionCall s source x p) at =
    (source ≡ source_text m.program) × (catchable x ≡ true) ×
    ((g : Function) × (s ≡ name_of m.program g.name) ×
    Enters m g
    (λ body. Raised m body (at.world.level + 1) x
    (λ in_body. Row m x in_body ⊎ FromHostOrChain m x in_body)) at)
Row m (InModule s x p) at = ⊥
Row m (SystemError s e) at = ⊥
Row m NoMemory at = ⊥

-- an instruction raises the fault, or the host answered it, or a chain ends in it
abbrev pub Why : {S : Type 0} → Setup S → Problem → ProgramPoint S → Type 0
Why m x at = Row m x at ⊎ FromHostOrChain m x at

-- the handler that catches comes as far as the charge at its target: the scope is no shorter than at
-- its push, and its variable, if it has one, finds room
abbrev pub ComesToCharge : {S : Type 0} → Setup S → CatchPoint S → Type 0
ComesToCharge m at = (at.handler.scope ≤ length at.world.scope)
    × ((n : ℕ) → at.handler.variable ≡ Some n → at.handler.scope < m.engine.limits.variables)

-- a fault of this kind is raised while a handler catches: the scope is shorter than at its push; or
-- the handler has a variable, and the scope is full; or no operation is left for the charge at the
-- target; or the host, which hears of it, says with this value that the run is to stop
abbrev pub FailsToCatch : {S : Type 0} → Setup S → FaultKind → CatchPoint S → Type 0
FailsToCatch m (Malformed (kind.TryFloorBroken wanted n)) at = (wanted ≡ at.handler.scope) ×
    (n ≡ length at.world.scope) × (n < wanted)
FailsToCatch m TooManyVariables at = (n : ℕ) × (at.handler.variable ≡ Some n) ×
    (m.engine.limits.variables ≤ at.handler.scope) × (at.handler.scope ≤ length at.world.scope)
FailsToCatch m TooManyOperations at = ComesToCharge m at ×
    (m.engine.limits.operations ≤ at.world.count)
FailsToCatch m (Terminated v) at = ComesToCharge m at ×
    (at.world.count < m.engine.limits.operations)
    × (m.law.progress_reply at.world.host (at.world.count + 1) ≡ Stop v)
FailsToCatch m k at = ⊥

abbrev pub CatchRow : {S : Type 0} → Setup S → Problem → CatchPoint S → Type 0
CatchRow m (Plain k p) at = FailsToCatch m k at
CatchRow m (InFunctionCall s source x p) at = ⊥
CatchRow m (InModule s x p) at = ⊥
CatchRow m (SystemError s e) at = ⊥
CatchRow m NoMemory at = ⊥

-- where a fault is raised while a handler catches: at its target, but a scope that is too short where
-- the fault that is to be caught was raised
abbrev pub kind_raised_at : {S : Type 0} → FaultKind → CatchPoint S → ℕ
kind_raised_at (Malformed k) at = at.frame.address
kind_raised_at k at = at.handler.target

abbrev pub raised_at : {S : Type 0} → Problem → CatchPoint S → ℕ
raised_at (Plain k p) at = kind_raised_at k at
raised_at (InFunctionCall s source x p) at = at.frame.address
raised_at (InModule s x p) at = at.frame.address
raised_at (SystemError s e) at = at.frame.address
raised_at NoMemory at = at.frame.address

-- The run of an act comes to a handler that catches, and catching raises this fault, in a frame of
-- this level, or else it left a call there and has the call's position.
pub record RaisedByCatch {S : Type 0} (m : Setup S) (act : Act S) (level : ℕ) (x : Problem) :
    Type 0 where
  pub point : CatchPoint S
  pub comes : ComesToCatch m point act
  pub why : CatchRow m x point
  pub tells : ((point.world.level ≡ level)
      × HasPosition (position_of m.program (raised_at x point)) x)
      ⊎ ((p : Position) × LeftCall m act level (ComesToCatch m point) p × HasPosition p x)

-- The run of an act comes to an instruction whose native, or a native that its chain calls, asks for calls,
-- and a function is called back.
pub record CallsBack {S : Type 0} (m : Setup S) (act : Act S) : Type 0 where
  pub point : ProgramPoint S
  pub met : Meets m point act
  pub first : Callback
  pub start : World S
  pub asks : AsksFor m point first start
  pub comes : Comes m (InHost first) start (Go (InFrame point.frame) point.world)
  pub address : first.frame.address ≡ point.frame.address
  pub runs : RunsBack m first start

-- why the run of an act, of this level, ends in this fault
pub data Cause {S : Type 0} (m : Setup S) : Act S → ℕ → Problem → Type 0 where
  -- an instruction raised it
  raised : {act : Act S} {level : ℕ} {x : Problem} → Raised m act level x (Why m x) →
      Cause m act level x
  -- it was raised where a handler caught another fault
  by_catch : {act : Act S} {level : ℕ} {x : Problem} → RaisedByCatch m act level x →
      Cause m act level x
  -- It left the body of a function that a native called back. No script may catch it, and it has the
  -- position of the native's call, if that is in a frame of this level, or else that of the call there
  -- which it left.
  from_native : {act : Act S} {level : ℕ} {y : Problem} (c : CallsBack m act) → catchable y ≡ false →
      Cause m (body_back m c.runs) (c.runs.world.level + 1) y → (p : Position) →
      ((c.point.world.level ≡ level) × (p ≡ position m c.runs.callback.frame))
      ⊎ LeftCall m act level (Meets m c.point) p → Cause m act level (at_position p y)

-- why a run ends so: memory is out only where it is stopped, and any other fault has its cause
abbrev pub Caused : {S : Type 0} → Setup S → Act S → ℕ → Answer → World S → Type 0
Caused m act level (Came v) w = Unit {0}
Caused m act level (Failed x) w =
    ((x ≡ NoMemory) × (is_stop m.stop w.passed ≡ true)) ⊎ Cause m act level x

-- each fault of a call has its cause in the program's run; want of memory is free
abbrev pub HasCause : {S : Type 0} → Law S → View → Engine → Begin S →
    Result Dynamic EvalAltResult → Type 0
HasCause law program engine b (Ok v) = Unit {0}
HasCause {S = S} law program engine b (Err x) =
    let m : Setup S = setup law program engine in
    (x ≡ fault.Memory) ⊎ Cause m (main m (first_world b)) b.global.level (problem_of x)
