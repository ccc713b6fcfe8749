-- What the code has of a world, and where a stretch of it led.
use Rattle.std.specs.Prelude.{◌≡◌, ◌⊎◌, ◌<◌, ◌≤◌, ◌+◌, ◌-◌, ℕ, List, Bool, true, false, Option, Some, None, Result, Ok, Err, length, map, option_map}
use Rattle.std.specs.List.{AllByRecursion}
use Rattle.grain_value.specs.declared.values.Dynamic.{Dynamic}
use Rattle.grain_value.specs.declared.values.Held.{Held}
use Rattle.grain_value.specs.declared.memory.OutOfMemory.{OutOfMemory}
use Rattle.grain_value.specs.Operands.{top}
use Rattle.grain_fault.specs.Problems.{Problem, NoMemory, problem_of}
use Rattle.grain_fault.specs.declared.faults.EvalAltResult.{EvalAltResult}
use Rattle.grain_program.specs.declared.code.instruction_set.Op.{Op}
use Rattle.grain_program.specs.declared.code.instruction_set.Op.TheVariants as op
use Rattle.grain_program.specs.Effects.{own_takes, takes_of, gives_of, leads_of}
use Rattle.grain_program.specs.Layout.{most_code}
use Rattle.grain_program.specs.Shapes.{TryHandler, Shape, shape}
use Rattle.grain_program.specs.TypedAt.{IsTypedAt, IsCovered, Verified}
use Rattle.grain_program.specs.Decoding.{op_at}
use Rattle.grain_program.specs.Typing.{In}
use Rattle.grain_program.specs.View.{View}
use Rattle.grain_host.specs.Law.{Law}
use Rattle.grain_global.specs.declared.engines.Engine.{Engine}
use Rattle.grain_stack.specs.Cursors.{items_left}
use Rattle.grain_stack.specs.declared.cursors.Cursor.{Cursor}
use Rattle.grain_stack.specs.declared.handlers.Handler.{Handler}
use Rattle.grain_stack.specs.declared.totals.Total.{Total}
use Rattle.grain_means.specs.Worlds.{Act, Go, End, Then, Came, Failed, Frame, InFrame, InHost, Place, Receiver, Setup, World}
use Rattle.grain_means.specs.Worlds as worlds
use Rattle.grain_means.specs.Rules.{cells_lent, leave_by_fault, native_over, offered, instr, or_return, with_token}
use Rattle.grain_means.specs.Simulation.{LocalState, Computation, Simulates, SimulatesExactly}
use Rattle.grain_means.specs.Means.{setup}
use Rattle.grain_global.specs.StepsView.{StepsView}
use Rattle.grain_frame.specs.Receivers.{KeepsBound, bound_at}
use Rattle.grain_frame.specs.declared.activations.Activation.{Activation}
use Rattle.grain_frame.specs.declared.contexts.Context.{Context}
use Rattle.grain_frame.specs.declared.runs.Run.{Run}
use Rattle.grain_frame.specs.declared.runs.Progress.{Progress}
use Rattle.grain_frame.specs.declared.runs.Progress.TheVariants as progress
use Rattle.grain_frame.specs.declared.native_calls.NativeEnd.{NativeEnd}
use Rattle.grain_frame.specs.declared.native_calls.NativeEnd.TheVariants as native_end

-- the `this` of the running frame, if it has one
abbrev pub this_of : {H : Type 0} → Run H → Option Held
this_of s = bound_at s.level s.receivers

-- the world's parts that a run has
abbrev pub abstraction : {H : Type 0} → Run H → StepsView → H → LocalState H
abstraction s n host = record {
  scope = s.scope;
  cells = s.cells;
  host = host;
  this = this_of s;
  count = s.count;
  level = s.level;
  trace = s.stacks.trace;
  ran = n.begun;
  passed = n.passed;
}

-- a cursor of the meaning, and a frame's cursors
abbrev pub cursor_in : Cursor → worlds.Cursor
cursor_in c = record { left = items_left c.left; counter = c.counter }

abbrev pub cursors_in : List Cursor → List worlds.Cursor
cursors_in cs = map cursor_in cs

-- a total of the meaning, and a frame's totals
abbrev pub total_in : Total → worlds.Total
total_in t = record { arrays = t.arrays; maps = t.maps; text = t.text }

abbrev pub totals_in : List Total → List worlds.Total
totals_in ts = map total_in ts

-- a handler of the meaning, and a frame's handlers
abbrev pub handler_in : Handler → worlds.Handler
handler_in h = record {
  target = h.target;
  variable = h.variable;
  operands = h.operands;
  cursors = h.cursors;
  totals = h.totals;
  scope = h.scope;
  caught = option_map problem_of h.caught;
}

abbrev pub handlers_in : List Handler → List worlds.Handler
handlers_in hs = map handler_in hs

-- a frame's handlers as a typing has them
abbrev pub try_in : Handler → TryHandler
try_in h = record {
  target = h.target;
  variable = h.variable;
  height = h.operands;
  cursors = h.cursors;
}

abbrev pub tries_in : List Handler → List TryHandler
tries_in hs = map try_in hs

-- each of the handlers keeps at least this many entries of the scope
abbrev pub Above : ℕ → List Handler → Type 0
Above base hs = AllByRecursion (λ h. base ≤ h.scope) hs

-- the frame of the meaning, by the place of its `this`; a position in place of its instruction's is
-- given to who needs it
abbrev pub frame_in : {H : Type 0} → Activation → Run H → Option Place → Frame
frame_in a s place =
    record {
      address = a.address;
      operands = s.stacks.operands;
      cursors = cursors_in s.stacks.cursors;
      totals = totals_in s.stacks.totals;
      handlers = handlers_in s.stacks.handlers;
      base = a.base;
      floor = a.floor;
      this = place;
      slot = a.slot;
      position = None;
    }

-- memory is out
abbrev pub is_out : {A : Type 0} → Result A OutOfMemory → Bool
is_out (Ok x) = false
is_out (Err e) = true

-- Where an instruction led. The value of a frame that is over is its last operand. A fault lies in
-- the run, and is offered to the frame's handlers.
abbrev pub continuation : {H : Type 0} → Result Progress OutOfMemory → EvalAltResult →
    (Option Place → Frame) → Computation H
continuation (Ok progress.Continues) x f m place w = Go (InFrame (f place)) w
continuation (Ok progress.Returned) x f m place w = End (Came (top (f place).operands).value) w
continuation (Ok progress.Failed) x f m place w = offered m (f place) (problem_of x) w
continuation (Err e) x f m place w = leave_by_fault m (f place) NoMemory w

-- the instruction at which a frame stands
abbrev pub instruction_here : {H : Type 0} → (Option Place → Frame) → Computation H
instruction_here f m place w =
    let r = or_return (op_at m.program.code (f place).address) in
    instr m r.0 ((f place).address + r.1) (f place) w

-- a fault is raised, unless memory is out
abbrev pub Raises : {H : Type 0} → Run H → StepsView → Problem → Result Progress OutOfMemory →
    Run H → StepsView → Type 0
Raises s n x (Ok p) s' n' =
    (p ≡ progress.Failed) × (s' ≡ record s { fault = s'.fault }) × (problem_of s'.fault ≡ x)
    × (n' ≡ record n { passed = n.passed + 1 })
Raises s n x (Err e) s' n' = (s' ≡ s) × (n' ≡ n)

-- an operation was taken, or the frame stands further on in the code
abbrev pub Progresses : {H : Type 0} → Engine → Run H → Activation → Run H → Activation → Type 0
Progresses engine s f s' f' =
    ((s.count < s'.count) × (s.count < engine.limits.operations)) ⊎
    ((s.count ≤ s'.count) × (f.address < f'.address))

-- What was done takes and then gives these numbers of operands. If the frame goes on, it does at one
-- of these addresses, with the cursors that it had and these handlers, and an operation was taken or
-- the address lies further on. After a fault the frame has its cursors and its handlers, and no
-- operand is gone but those that are taken.
abbrev pub ContinuesAt : {H : Type 0} → Engine → Run H → Activation → Run H → Activation →
    List ℕ → (takes gives : ℕ) → List Handler → Result Progress OutOfMemory → Type 0
ContinuesAt engine s f s' f' targets takes gives handlers (Ok progress.Continues) =
    In f'.address targets
    × (length s'.stacks.operands ≡ length s.stacks.operands - takes + gives)
    × (s'.stacks.handlers ≡ handlers) × Progresses engine s f s' f'
    × (s'.stacks.cursors ≡ s.stacks.cursors)
ContinuesAt engine s f s' f' targets takes gives handlers (Ok progress.Returned) = Unit {0}
ContinuesAt engine s f s' f' targets takes gives handlers (Ok progress.Failed) =
    (length s.stacks.operands - takes ≤ length s'.stacks.operands)
    × (s'.stacks.handlers ≡ s.stacks.handlers) × (s'.stacks.cursors ≡ s.stacks.cursors)
ContinuesAt engine s f s' f' targets takes gives handlers (Err e) = Unit {0}

-- The frame is the same but for its address, its floor and the slot that it blames. The frames around
-- it are as they were, with their scopes and each `this`. The level is the same, and the frame has a
-- `this` if it had one.
pub record KeepsFrame {H : Type 0} (f : Activation) (s : Run H) (f' : Activation) (s' : Run H) :
    Type 0 where
  pub chunk : f'.chunk ≡ f.chunk
  pub base : f'.base ≡ f.base
  pub scope : f.base ≤ length s'.scope
  pub room : s'.stacks.room ≡ s.stacks.room
  pub noted : s'.stacks.noted ≡ s.stacks.noted
  pub outer : s'.stacks.outer ≡ s.stacks.outer
  pub saved : s'.saved ≡ s.saved
  pub level : s'.level ≡ s.level
  pub this : KeepsBound s.level s.receivers s'.receivers
  pub later : s.count ≤ s'.count

-- an instruction can begin in the frame that takes and gives these numbers of operands: they and the
-- room for them are there
pub record CanBegin {H : Type 0} (f : Activation) (s : Run H) (takes gives next : ℕ) : Type 0 where
  pub inside : f.base ≤ length s.scope
  pub operands : takes ≤ length s.stacks.operands
  pub room : length s.stacks.operands - takes + gives ≤ s.stacks.room
  pub ahead : f.address < next

-- an instruction that has no chain can begin in the frame
abbrev pub Ready : {H : Type 0} → Activation → Run H → Op → ℕ → Type 0
Ready f s o next = CanBegin f s (own_takes o) (gives_of o) next

-- an instruction of the program can begin in the frame
abbrev pub ReadyIn : {H : Type 0} → View → Activation → Run H → Op → ℕ → Type 0
ReadyIn p f s o next = CanBegin f s (takes_of p o) (gives_of o) next

-- what stays the same in a run, by its context
abbrev pub setup_of : {H : Type 0} → Law H → Context → Setup H
setup_of law context = setup law context.program.now context.engine.now

-- where a frame stands, with the run, the counts and the host
pub record Moment (H : Type 0) : Type 0 where
  pub frame : Activation
  pub run : Run H
  pub counts : StepsView
  pub host : H

abbrev pub moment : {H : Type 0} → Activation → Run H → StepsView → H → Moment H
moment f s n host = record { frame = f; run = s; counts = n; host = host }

-- The code did what a rule says from one moment to another: it takes and gives these numbers of
-- operands, and goes on at one of the targets with these handlers, or a fault is raised, or the
-- frame is over. The host may have been reached.
pub record Implements {H : Type 0} (m : Setup H) (a : Moment H) (rule : Computation H)
    (targets : List ℕ) (takes gives : ℕ) (handlers : List Handler)
    (result : Result Progress OutOfMemory) (b : Moment H) : Type 0 where
  pub same : SimulatesExactly m
      (abstraction a.run a.counts a.host) rule
      (is_out result) (abstraction b.run b.counts b.host)
      (continuation result b.run.fault (frame_in b.frame b.run))
  pub kept : KeepsFrame a.frame a.run b.frame b.run
  pub lands : ContinuesAt m.engine a.run a.frame b.run b.frame targets takes gives handlers result
  pub before : b.counts.before ≡ a.counts.before

-- the code did the instruction, which leaves the handlers, and goes on where its row says, with as
-- many operands as its row leaves
abbrev pub Performs : {H : Type 0} → Setup H → Moment H → Op → ℕ →
    Result Progress OutOfMemory → Moment H → Type 0
Performs m a o next result b =
    Implements m a (λ m place w. instr m o next (frame_in a.frame a.run place) w)
    (leads_of m.program o next) (takes_of m.program o) (gives_of o) a.run.stacks.handlers result b

-- The same of code that may read or write the frame's `this`: the two are one where the place that the
-- frame has for it holds the code's.
pub record ImplementsBound {H : Type 0} (m : Setup H) (a : Moment H) (rule : Computation H)
    (targets : List ℕ) (takes gives : ℕ) (handlers : List Handler)
    (result : Result Progress OutOfMemory) (b : Moment H) : Type 0 where
  pub same : Simulates m
      (abstraction a.run a.counts a.host) rule
      (is_out result) (abstraction b.run b.counts b.host)
      (continuation result b.run.fault (frame_in b.frame b.run))
  pub kept : KeepsFrame a.frame a.run b.frame b.run
  pub lands : ContinuesAt m.engine a.run a.frame b.run b.frame targets takes gives handlers result
  pub before : b.counts.before ≡ a.counts.before

abbrev pub PerformsBound : {H : Type 0} → Setup H → Moment H → Op → ℕ →
    Result Progress OutOfMemory → Moment H → Type 0
PerformsBound m a o next result b =
    ImplementsBound m a (λ m place w. instr m o next (frame_in a.frame a.run place) w)
    (leads_of m.program o next) (takes_of m.program o) (gives_of o) a.run.stacks.handlers result b

-- how many operands and cursors a frame has, and its handlers, as a typing has them
abbrev pub shape_in : {H : Type 0} → Run H → Shape
shape_in s =
    shape (length s.stacks.operands) (length s.stacks.cursors) (tries_in s.stacks.handlers)

-- a frame runs: it stands where the typing of its chunk knows it with its cursors and its handlers,
-- and has noted no fault
pub record Runs {H : Type 0} (program : View) (f : Activation) (s : Run H) : Type 0 where
  pub inside : f.base ≤ length s.scope
  pub typed : IsTypedAt program f.chunk f.address (length s.stacks.operands)
      (length s.stacks.cursors) (tries_in s.stacks.handlers)
  pub above : Above f.base s.stacks.handlers
  pub room : f.chunk.max_stack ≡ s.stacks.room
  pub unnoted : s.stacks.noted ≡ false
  pub entered : 0 < length s.stacks.outer

-- the frame's handlers can catch: they stand in a typing with operands and cursors that are there
abbrev pub CanCatch : {H : Type 0} → View → Activation → Run H → Type 0
CanCatch p f s = (depth : ℕ) × (cursors : ℕ) × (depth ≤ length s.stacks.operands)
    × (cursors ≤ length s.stacks.cursors)
    × IsCovered p f.chunk depth cursors (tries_in s.stacks.handlers) × Above f.base s.stacks.handlers

-- if the frame goes on, it stands where the typing knows it, and after a fault its handlers can
-- catch
abbrev pub StaysTyped : {H : Type 0} → View → Engine → Run H → Activation → Run H → Activation →
    Result Progress OutOfMemory → Type 0
StaysTyped p engine s f s' f' (Ok progress.Continues) =
    IsTypedAt p f'.chunk f'.address (length s'.stacks.operands) (length s'.stacks.cursors)
    (tries_in s'.stacks.handlers)
    × Progresses engine s f s' f' × (f.address < most_code) × Above f'.base s'.stacks.handlers
StaysTyped p engine s f s' f' (Ok progress.Returned) = Unit {0}
StaysTyped p engine s f s' f' (Ok progress.Failed) = CanCatch p f' s'
StaysTyped p engine s f s' f' (Err e) = Unit {0}

-- What is to be done once an operation was asked for: what follows it, or what follows from the
-- fault; where memory is out, a fault left the frame.
abbrev pub charge_continuation : {H : Type 0} → Result Bool OutOfMemory → EvalAltResult →
    (Option Place → Frame) → (Setup H → Option Place → World H → Act H) →
    (Setup H → Option Place → Problem → World H → Act H) → Computation H
charge_continuation (Ok true) x f go fails m place w = go m place w
charge_continuation (Ok false) x f go fails m place w = fails m place (problem_of x) w
charge_continuation (Err e) x f go fails m place w = leave_by_fault m (f place) NoMemory w

-- the same of an operation that a call at a position takes, where `out` follows if memory is out
abbrev pub taken_continuation : {H : Type 0} → Result Bool OutOfMemory → EvalAltResult →
    Computation H → Computation H → (Setup H → Option Place → Problem → World H → Act H) →
    Computation H
taken_continuation (Ok true) x out go fails m place w = go m place w
taken_continuation (Ok false) x out go fails m place w = fails m place (problem_of x) w
taken_continuation (Err e) x out go fails m place w = out m place w

-- an operation is taken if the frame goes on; else a fault lies in the run, and perhaps an
-- operation is taken
abbrev pub ChargeResult : {H : Type 0} → Engine → Run H → Run H → Result Bool OutOfMemory → Type 0
ChargeResult engine s s' (Ok true) =
    (s' ≡ record s { count = s.count + 1 }) × (s.count < engine.limits.operations)
ChargeResult engine s s' (Ok false) =
    (s' ≡ record s { count = s'.count; fault = s'.fault }) × (s.count ≤ s'.count)
ChargeResult engine s s' (Err e) =
    (s' ≡ record s { count = s'.count; fault = s'.fault }) × (s.count ≤ s'.count)

-- what follows from a native's value or from its fault, or where it asks for a call first and has this of
-- what it was lent; where memory is out, a fault left the frame
abbrev pub native_continuation : {H : Type 0} → Result NativeEnd OutOfMemory →
    (Option Place → Option Receiver) → (Option Place → Frame) →
    (Setup H → Option Place → Dynamic → World H → Act H) →
    (Setup H → Option Place → Problem → World H → Act H) → Computation H
native_continuation (Ok (native_end.Value v)) r f go fails m place w = go m place v w
native_continuation (Ok (native_end.Fault x)) r f go fails m place w =
    fails m place (problem_of x) w
native_continuation (Ok (native_end.Asks a)) r f go fails m place w =
    Then (Go (InHost (record {
      receiver = r place;
      frame = f place;
      token = a.token;
      pointer = a.pointer;
      values = a.values;
    })) (record w { cells = cells_lent (r place) w.cells; tokens = with_token a.token w.tokens }))
    (native_over (leave_by_fault m (f place) NoMemory) (go m place) (fails m place))
native_continuation (Err e) r f go fails m place w = leave_by_fault m (f place) NoMemory w

-- One instruction of a frame, or some in a row: the code did them from one moment to another, the
-- frames around it are as they were, and if the frame goes on, it stands where the typing knows it.
pub record Stepped {H : Type 0} (m : Setup H) (a : Moment H)
    (result : Result Progress OutOfMemory) (b : Moment H) : Type 0 where
  pub goes : Simulates m (abstraction a.run a.counts a.host)
      (instruction_here (frame_in a.frame a.run)) (is_out result)
      (abstraction b.run b.counts b.host)
      (continuation result b.run.fault (frame_in b.frame b.run))
  pub kept : KeepsFrame a.frame a.run b.frame b.run
  pub stays : StaysTyped m.program m.engine a.run a.frame b.run b.frame result
  pub before : b.counts.before ≡ a.counts.before

-- the frame stands at this instruction, after which is this address
pub record StandsAt {H : Type 0} (program : View) (f : Activation) (s : Run H) (o : Op) (next : ℕ) :
    Type 0 where
  pub width : ℕ
  pub read : op_at program.code f.address ≡ Some (o, width)
  pub next_is : next ≡ f.address + width
  pub seen : Verified program f.chunk f.address (length s.stacks.operands)
      (length s.stacks.cursors) (tries_in s.stacks.handlers) o width

-- the instruction is none of those that may call a function
abbrev pub IsNoCall : Op → Type 0
IsNoCall o = ((name count : ℕ) → o ≡ op.Call name count → ⊥)
    × ((count : ℕ) → o ≡ op.CallFnPtr count → ⊥)

-- the instruction walks along no place, and calls no pointer with a receiver: so it runs no function that
-- has a `this`
abbrev pub RunsNoMethod : Op → Type 0
RunsNoMethod o = ((index : ℕ) → o ≡ op.Chain index → ⊥)
    × ((count : ℕ) → o ≡ op.CallFnPtrMethod count → ⊥)
    × ((count slot : ℕ) → o ≡ op.CallFnPtrOnLocal count slot → ⊥)
    × ((count : ℕ) → o ≡ op.CallFnPtrOnThis count → ⊥)

-- the instruction asks the host for no native
abbrev pub AsksNothing : Op → Type 0
AsksNothing o = ((slot name k : ℕ) → o ≡ op.AssignLocalOp slot name k → ⊥)
    × ((k : ℕ) → o ≡ op.AssignThisOp k → ⊥)
    × ((name count token : ℕ) → o ≡ op.CallOp name count token → ⊥)
    × (o ≡ op.InterpolateAppend → ⊥)

-- the frame at another address
abbrev pub moved : Activation → ℕ → Activation
moved f address = record f { address = address }

-- a mark more
abbrev pub marked_once : StepsView → StepsView
marked_once n = record n { passed = n.passed + 1 }

-- an instruction more has begun, with its mark
abbrev pub begun_one : StepsView → StepsView
begun_one n = record n { begun = n.begun + 1; passed = n.passed + 1 }
