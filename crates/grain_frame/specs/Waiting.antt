-- Instructions that wait for a native, which asks for a call first.
use Rattle.std.specs.Prelude.{◌≡◌, ◌<◌, ◌≤◌, ◌-◌, ℕ, List, [], ◌∷◌, Option, Some, None, Bool, false, true, Result, Ok, Err, IfSome, length, option_map, slice_get, slice_set}
use Rattle.grain_value.specs.Cells.{content, flat, idle, is_busy}
use Rattle.grain_value.specs.declared.scopes.Entry.{Entry}
use Rattle.grain_fault.specs.declared.places.Position.{Position}
use Rattle.grain_host.specs.Law.{Law, Outcome}
use Rattle.grain_host.specs.Answers as host_answers
use Rattle.grain_host.specs.Answers.{reply_of}
use Rattle.grain_host.specs.declared.host_answers.HostAnswer.{HostAnswer}
use Rattle.grain_global.specs.StepsView.{StepsView}
use Rattle.grain_frame.specs.Natives.{IsAt}
use Rattle.grain_frame.specs.Receivers.{KeepsBound}
use Rattle.grain_value.specs.Operands.{below, read_write, under}
use Rattle.grain_value.specs.declared.memory.OutOfMemory.{OutOfMemory}
use Rattle.grain_value.specs.declared.values.Dynamic.{Dynamic}
use Rattle.grain_value.specs.declared.values.Held.{Held}
use Rattle.grain_fault.specs.Problems.{Problem, NoMemory, problem_of}
use Rattle.grain_fault.specs.declared.faults.EvalAltResult.{EvalAltResult}
use Rattle.grain_program.specs.Effects.{takes_of, gives_of, leads_of}
use Rattle.grain_program.specs.declared.code.instruction_set.Op.{Op}
use Rattle.grain_program.specs.View.{View}
use Rattle.grain_stack.specs.declared.handlers.Handler.{Handler}
use Rattle.grain_means.specs.Worlds as worlds
use Rattle.grain_means.specs.Worlds.{Act, Answer, Callback, Frame, Go, Home, InCell, InHost, Place, Receiver, Setup, Then, World}
use Rattle.grain_means.specs.Rules.{answer_appended, assigned_at, flattened, instr, leave_by_fault, native_over, no_memory, onward, op_assign_failed_at, pushed, raised, showing_failed, stepped, told, with_token}
use Rattle.grain_means.specs.Simulation.{Computation, LocalState, Simulates}
use Rattle.grain_frame.specs.Abstraction.{CanBegin, ContinuesAt, KeepsFrame, Moment, abstraction, continuation, frame_in, is_out, this_of}
use Rattle.grain_frame.specs.Targets.{CanBeWritten, HoldsAt, HoldsWritable, assigned_name, content_at, home_of, kept_operand, put_in, receiver_at, taken_out}
use Rattle.grain_frame.specs.declared.activations.Activation.{Activation}
use Rattle.grain_frame.specs.declared.assignments.Assignment.{Assignment}
use Rattle.grain_frame.specs.declared.native_calls.Asked.{Asked}
use Rattle.grain_frame.specs.declared.native_calls.NativeEnd.{NativeEnd}
use Rattle.grain_frame.specs.declared.native_calls.NativeEnd.TheVariants as native_end
use Rattle.grain_frame.specs.declared.runs.Run.{Run}
use Rattle.grain_frame.specs.declared.targets.Target.{Target}
use Rattle.grain_frame.specs.declared.targets.Target.TheVariants as to
use Rattle.grain_frame.specs.declared.waiting.Loan.{Loan}
use Rattle.grain_frame.specs.declared.waiting.Loan.TheVariants as have
use Rattle.grain_frame.specs.declared.waiting.Performed.{Performed}
use Rattle.grain_frame.specs.declared.waiting.Performed.TheVariants as performed
use Rattle.grain_frame.specs.declared.waiting.Rest.{Rest}
use Rattle.grain_frame.specs.declared.waiting.Resumed.{Resumed}
use Rattle.grain_frame.specs.declared.waiting.Waiting.{Waiting}
use Rattle.grain_frame.specs.declared.waiting.Resumed.TheVariants as went
use Rattle.grain_frame.specs.declared.runs.Progress.{Progress}
use Rattle.grain_frame.specs.declared.waiting.Rest.TheVariants as rest

-- What a native has that asks for a call, as the meaning has it, if the frame's `this` stands at a place.
-- What stands nowhere in the run stands there.
abbrev pub receiver_in : {H : Type 0} → (Option Place → Home) → Run H → Loan → Option Place →
    Option Receiver
receiver_in apart s have.Nothing place = None
receiver_in apart s (have.Target t) place =
    Some (receiver_at t place (read_write (content_at s t)))
receiver_in apart s (have.Cell n h) place = Some (record { home = InCell n; held = h })
receiver_in apart s (have.Apart h) place = Some (record { home = apart place; held = h })

-- the call that the native asks for
abbrev pub callback_in : {H : Type 0} → (Option Place → Home) → Run H → Asked → Loan →
    (Option Place → Frame) → Option Place → Callback
callback_in apart s a l f place = record {
  receiver = receiver_in apart s l place;
  frame = f place;
  token = a.token;
  pointer = a.pointer;
  values = a.values;
}

-- it is to be done, and then what follows from how the native ends
abbrev pub asking : {H : Type 0} → (Option Place → Home) → Run H → Asked → Loan →
    (Option Place → Frame) → (Setup H → Option Place → Answer → World H → Act H) → Computation H
asking apart s a l f heard m place w =
    Then (Go (InHost (callback_in apart s a l f place))
    (record w { tokens = with_token a.token w.tokens })) (heard m place)

-- what an instruction does with its native's value
abbrev pub value_rest : {H : Type 0} → Rest → (Option Place → Frame) → Setup H → Option Place →
    Dynamic → World H → Act H
value_rest (rest.Push count next) f m place v w =
    pushed m (f place) next (under count (f place).operands) v w
value_rest (rest.Assign a) f m place v w =
    onward m (f place) (stepped (f place) a.next (below (f place).operands)) w
value_rest (rest.Operate a) f m place v w =
    flattened m (read_write v) (assigned_name m.program a.variable) (f place) w
    (λ q. assigned_at m (home_of a.target place) (read_write q) (assigned_name m.program a.variable)
    a.next (f place) w)
value_rest (rest.Show type_name next) f m place v w =
    answer_appended m (flat w.cells v) type_name next (f place) w

-- and with its fault, if it assigns to what held this when it began
abbrev pub fault_rest : {H : Type 0} → Held → Rest → (Option Place → Frame) → Setup H →
    Option Place → Problem → World H → Act H
fault_rest g (rest.Push count next) f m place x w = raised m (f place) x w
fault_rest g (rest.Assign a) f m place x w =
    op_assign_failed_at m (home_of a.target place) (assigned_name m.program a.variable) a.operator
    g (kept_operand a.kept (f place).operands) a.next (f place) x w
fault_rest g (rest.Operate a) f m place x w = raised m (f place) x w
fault_rest g (rest.Show type_name next) f m place x w =
    showing_failed m type_name next (f place) x w

-- what follows in an instruction from how its native ends
abbrev pub rest_of : {H : Type 0} → Held → Rest → (Option Place → Frame) → Setup H → Option Place →
    Answer → World H → Act H
rest_of g r f m place a w =
    native_over (leave_by_fault m (f place) NoMemory) (value_rest r f m place)
    (fault_rest g r f m place) a w

-- What the native of an instruction that waits asks for, and what then follows; what is lent is never
-- `Loan::Apart`. A run without such an instruction does not occur (`LandsOrWaits`).
abbrev pub waits_continuation : {H : Type 0} → Held → Option Waiting → Run H →
    (Option Place → Frame) → Computation H
waits_continuation g (Some w) s f m place v =
    asking (home_of to.This) s w.asked w.lent f (rest_of g w.rest f) m place v
waits_continuation g None s f m place v = leave_by_fault m (f place) NoMemory v

-- where an instruction led, or what its native asks for, as the run has it
abbrev pub performed_continuation : {H : Type 0} → Held → Result Performed OutOfMemory → Run H →
    (Option Place → Frame) → Computation H
performed_continuation g (Ok (performed.Leads p)) s f m place w =
    continuation (Ok p) s.fault f m place w
performed_continuation g (Ok performed.Waits) s f m place v =
    waits_continuation g s.waiting s f m place v
performed_continuation g (Err e) s f m place w = leave_by_fault m (f place) NoMemory w

-- the same where a native is over, or asks for a call: what follows is this
abbrev pub end_continuation : {H : Type 0} → Result NativeEnd OutOfMemory →
    (Option Place → Home) → Run H → Loan → (Option Place → Frame) →
    (Setup H → Option Place → Answer → World H → Act H) → Computation H
end_continuation (Ok (native_end.Value v)) apart s l f heard m place w = heard m place (worlds.Came v) w
end_continuation (Ok (native_end.Fault x)) apart s l f heard m place w =
    heard m place (worlds.Failed (problem_of x)) w
end_continuation (Ok (native_end.Asks a)) apart s l f heard m place w =
    asking apart s a l f heard m place w
end_continuation (Err e) apart s l f heard m place w = heard m place (worlds.Failed NoMemory) w

-- how a native ended, as the meaning has it
abbrev pub answer_of : Result Dynamic EvalAltResult → Answer
answer_of (Ok v) = worlds.Came v
answer_of (Err x) = worlds.Failed (problem_of x)

-- whether it ended because memory ran out
abbrev pub no_memory_came : Result Dynamic EvalAltResult → Bool
no_memory_came (Ok v) = false
no_memory_came (Err x) = no_memory (problem_of x)

-- the target is a cell that is lent, or is not there
abbrev pub IsLentCell : {H : Type 0} → Run H → Target → Type 0
IsLentCell s (to.Entry i) = ⊥
IsLentCell s (to.Cell n) = content (slice_get s.cells n) ≡ None
IsLentCell s to.This = ⊥

-- what a target holds can be read, and written if it is no cell
abbrev pub CanHold : {H : Type 0} → Run H → Target → Type 0
CanHold s (to.Entry i) = i < length s.scope
CanHold s (to.Cell n) = Unit {0}
CanHold s to.This = CanBeWritten (this_of s)

-- it is no cell that is lent
abbrev pub IsNotLent : {H : Type 0} → Run H → Target → Type 0
IsNotLent s (to.Entry i) = Unit {0}
IsNotLent s (to.Cell n) = option_map is_busy (slice_get s.cells n) ≡ Some true → ⊥
IsNotLent s to.This = Unit {0}

-- what the instruction's native was lent is back
abbrev pub IsBack : {H : Type 0} → Run H → Rest → Type 0
IsBack s (rest.Push count next) = Unit {0}
IsBack s (rest.Assign a) = IsNotLent s a.target
IsBack s (rest.Operate a) = Unit {0}
IsBack s (rest.Show type_name next) = Unit {0}

-- what stands at a target that is no cell, and can be written
abbrev pub IsKeptAt : {H : Type 0} → Run H → Target → Type 0
IsKeptAt s (to.Entry i) = HoldsWritable s (to.Entry i)
IsKeptAt s (to.Cell n) = ⊥
IsKeptAt s to.This = HoldsWritable s to.This

-- what a native has that asks for a call stands in the run, or nowhere
abbrev pub IsKept : {H : Type 0} → Run H → Loan → Type 0
IsKept s have.Nothing = Unit {0}
IsKept s (have.Target t) = IsKeptAt s t
IsKept s (have.Cell n h) = Unit {0}
IsKept s (have.Apart h) = Unit {0}

-- what the instruction's native has is what the instruction writes, or nothing
abbrev pub Lends : Rest → Loan → Type 0
Lends (rest.Push count next) l = l ≡ have.Nothing
Lends (rest.Assign a) have.Nothing = ⊥
Lends (rest.Assign a) (have.Target t) = t ≡ a.target
Lends (rest.Assign a) (have.Cell n h) = (a.target ≡ to.Cell n) × (h.read_only ≡ false)
Lends (rest.Assign a) (have.Apart h) = ⊥
Lends (rest.Operate a) l = l ≡ have.Nothing
Lends (rest.Show type_name next) l = l ≡ have.Nothing

-- an op-assignment can go on after a native: what it writes can be read, the operand is there, and the
-- names are in their pool
pub record GoesOn {H : Type 0} (p : View) (f : Activation) (s : Run H) (a : Assignment) : Type 0 where
  pub inside : f.base ≤ length s.scope
  pub target : CanHold s a.target
  pub operand : 0 < length s.stacks.operands
  pub ahead : f.address < a.next
  pub first : a.operator.op_assign_name < length p.names
  pub second : a.operator.op_name < length p.names
  pub variable : IfSome a.variable (λ n. n < length p.names)

-- the instruction that waits takes and gives these numbers of operands, and goes on at this address
abbrev pub LeadsTo : {H : Type 0} → View → Activation → Run H → Rest → (takes gives : ℕ) → List ℕ →
    Type 0
LeadsTo p f s (rest.Push count next) takes gives targets =
    (f.base ≤ length s.scope) × (count ≤ length s.stacks.operands)
    × (length s.stacks.operands - count < s.stacks.room) × (f.address < next)
    × (takes ≡ count) × (gives ≡ 1) × (targets ≡ next ∷ [])
LeadsTo p f s (rest.Assign a) takes gives targets =
    GoesOn p f s a × (takes ≡ 1) × (gives ≡ 0) × (targets ≡ a.next ∷ [])
LeadsTo p f s (rest.Operate a) takes gives targets =
    GoesOn p f s a × (takes ≡ 1) × (gives ≡ 0) × (targets ≡ a.next ∷ [])
LeadsTo p f s (rest.Show type_name next) takes gives targets =
    CanBegin f s 2 1 next × (takes ≡ 2) × (gives ≡ 1) × (targets ≡ next ∷ [])

-- Where an instruction leads, or how it goes on once its native is over. One that waits has changed neither
-- its frame nor its operands, cursors and handlers.
abbrev pub LandsOrWaits : {H : Type 0} → Setup H → Moment H → Moment H → List ℕ →
    (takes gives : ℕ) → List Handler → Result Performed OutOfMemory → Type 0
LandsOrWaits m a b targets takes gives handlers (Ok (performed.Leads p)) =
    ContinuesAt m.engine a.run a.frame b.run b.frame targets takes gives handlers (Ok p)
LandsOrWaits m a b targets takes gives handlers (Ok performed.Waits) =
    (w : Waiting) × (b.run.waiting ≡ Some w)
    × LeadsTo m.program b.frame b.run w.rest takes gives targets × Lends w.rest w.lent
    × IsKept b.run w.lent × (b.run.stacks.operands ≡ a.run.stacks.operands)
    × (b.run.stacks.handlers ≡ handlers) × (b.run.stacks.handlers ≡ a.run.stacks.handlers)
    × (b.frame ≡ a.frame) × (b.run.stacks.cursors ≡ a.run.stacks.cursors)
LandsOrWaits m a b targets takes gives handlers (Err e) = Unit {0}

-- The code did what a rule says from one moment to another, as in `ImplementsBound`, or the instruction
-- waits for a native.
pub record ImplementsOrWaits {H : Type 0} (m : Setup H) (a : Moment H) (rule : Computation H)
    (targets : List ℕ) (takes gives : ℕ) (handlers : List Handler)
    (result : Result Performed OutOfMemory) (b : Moment H) : Type 0 where
  -- what an assignment's target held when the instruction began, of which no more is known
  pub held : Held
  pub plain : held.read_only ≡ false
  pub same : Simulates m (abstraction a.run a.counts a.host) rule (is_out result)
      (abstraction b.run b.counts b.host)
      (performed_continuation held result b.run (frame_in b.frame b.run))
  pub kept : KeepsFrame a.frame a.run b.frame b.run
  pub lands : LandsOrWaits m a b targets takes gives handlers result
  pub before : b.counts.before ≡ a.counts.before

abbrev pub PerformsOrWaits : {H : Type 0} → Setup H → Moment H → Op → ℕ →
    Result Performed OutOfMemory → Moment H → Type 0
PerformsOrWaits m a o next result b =
    ImplementsOrWaits m a (λ m place w. instr m o next (frame_in a.frame a.run place) w)
    (leads_of m.program o next) (takes_of m.program o) (gives_of o) a.run.stacks.handlers result b

-- what a native was lent that stands nowhere in the run, if it was lent something
abbrev pub lent_of : Option Held → Loan
lent_of None = have.Nothing
lent_of (Some h) = have.Apart h

abbrev pub performed_of : Result Progress OutOfMemory → Result Performed OutOfMemory
performed_of (Ok p) = Ok (performed.Leads p)
performed_of (Err e) = Err e

-- what a native has that was lent what the target holds: a cell is lent from then on
abbrev pub KeepsLent : {H : Type 0} → Run H → Target → Loan → Run H → Type 0
KeepsLent s (to.Entry i) l s' = (l ≡ have.Target (to.Entry i)) × (s' ≡ s)
KeepsLent s (to.Cell n) l s' = (h : Held) × HoldsAt s (to.Cell n) h × (l ≡ have.Cell n h)
    × (s' ≡ taken_out s (to.Cell n) h)
KeepsLent s to.This l s' = (l ≡ have.Target to.This) × (s' ≡ s)

-- the run once what a native was lent is back
abbrev pub given_back_run : {H : Type 0} → Loan → Run H → Run H
given_back_run have.Nothing s = s
given_back_run (have.Target t) s = s
given_back_run (have.Cell n h) s = record s { cells = slice_set s.cells n (idle h) }
given_back_run (have.Apart h) s = s

-- what it has that stands nowhere in the run
abbrev pub apart_of : Loan → Option Held
apart_of have.Nothing = None
apart_of (have.Target t) = None
apart_of (have.Cell n h) = None
apart_of (have.Apart h) = Some h

-- all that it was lent
abbrev pub held_of_lent : {H : Type 0} → Run H → Loan → Option Held
held_of_lent s have.Nothing = None
held_of_lent s (have.Target t) = Some (read_write (content_at s t))
held_of_lent s (have.Cell n h) = Some h
held_of_lent s (have.Apart h) = Some h

-- the same native, and the run, once it left this of what it was lent
abbrev pub LeavesLent : {H : Type 0} → Run H → Loan → Option Held → Loan → Run H → Type 0
LeavesLent s have.Nothing left l s' = (left ≡ None) × (l ≡ have.Nothing) × (s' ≡ s)
LeavesLent s (have.Target t) left l s' =
    (h : Held) × (left ≡ Some h) × (l ≡ have.Target t) × (s' ≡ put_in s t h)
LeavesLent s (have.Cell n g) left l s' =
    (h : Held) × (left ≡ Some h) × (l ≡ have.Cell n h) × (s' ≡ s)
LeavesLent s (have.Apart g) left l s' =
    (h : Held) × (left ≡ Some h) × (l ≡ have.Apart h) × (s' ≡ s)

-- The host was resumed with what it was lent, if anything, and left it so; where memory is out, nothing
-- has changed.
abbrev pub ResumesWith : {H : Type 0} → Law H → ℕ → Outcome → Loan → Run H → H → HostAnswer → Loan →
    Run H → H → Type 0
ResumesWith law token o l s host said l' s' host' =
    (left : Option Held) × LeavesLent s l left l' s'
    × host_answers.Resumed law host token o (record { receiver = held_of_lent s l; values = [] })
    (reply_of said) host' (record { receiver = left; values = [] })

-- the state of the code, but with this scope and this `this`: while a walk is under way, its root may
-- be away from its entry or from the frame's `this`
abbrev pub beside : {H : Type 0} → List Entry → Option Held → Run H → StepsView → H → LocalState H
beside scope this s n host = record (abstraction s n host) { scope = scope; this = this }

-- The scope and the `this` where a native has this: what stands at a target stands in the run, and what
-- stands nowhere in it is what the meaning has at the place. Else they may be any.
abbrev pub scope_where : {H : Type 0} → Loan → List Entry → Run H → List Entry
scope_where have.Nothing scope s = scope
scope_where (have.Target t) scope s = s.scope
scope_where (have.Cell c h) scope s = scope
scope_where (have.Apart h) scope s = scope

abbrev pub this_where : {H : Type 0} → Loan → Option Held → Run H → Option Held
this_where have.Nothing x s = x
this_where (have.Target t) x s = this_of s
this_where (have.Cell c h) x s = x
this_where (have.Apart h) x s = Some h

-- the state of the code there
abbrev pub state_with : {H : Type 0} → Loan → List Entry → Option Held → Run H → StepsView → H →
    LocalState H
state_with l scope x s n host = beside (scope_where l scope s) (this_where l x s) s n host

-- The state once the native is over that had this: what stands nowhere in the run is now this.
abbrev pub this_after : {H : Type 0} → Loan → Option Held → Option Held → Run H → Option Held
this_after have.Nothing left x s = x
this_after (have.Target t) left x s = this_of s
this_after (have.Cell c h) left x s = x
this_after (have.Apart h) left x s = left

abbrev pub state_after : {H : Type 0} → Loan → Option Held → List Entry → Option Held → Run H →
    StepsView → H → LocalState H
state_after l left scope x s n host =
    beside (scope_where l scope s) (this_after l left x s) s n host

-- what a native came to: it is over, and then what follows from how it ended, or it asks for a call
abbrev pub resumed_continuation : {H : Type 0} → Resumed → Run H → (Option Place → Frame) →
    (Setup H → Option Place → Answer → World H → Act H) → Computation H
resumed_continuation (went.Over o left) s f heard m place w = heard m place (answer_of o) w
resumed_continuation (went.Asks a l) s f heard m place w =
    asking (home_of to.This) s a l f heard m place w

abbrev pub resumed_state : {H : Type 0} → Loan → Resumed → List Entry → Option Held → Run H →
    StepsView → H → LocalState H
resumed_state l (went.Over o left) scope x s n host = state_after l left scope x s n host
resumed_state l (went.Asks a l') scope x s n host = state_with l' scope x s n host

abbrev pub resumed_is_out : Resumed → Bool
resumed_is_out (went.Over o left) = no_memory_came o
resumed_is_out (went.Asks a l) = false

-- what a native has that goes on is still kept as it was; what stands nowhere is given where it is over
abbrev pub StaysLent : {H : Type 0} → Loan → Resumed → Run H → Type 0
StaysLent have.Nothing (went.Over o left) s = left ≡ None
StaysLent have.Nothing (went.Asks a l) s = l ≡ have.Nothing
StaysLent (have.Target t) (went.Over o left) s = (left ≡ None) × IsKeptAt s t
StaysLent (have.Target t) (went.Asks a l) s = (l ≡ have.Target t) × IsKeptAt s t
StaysLent (have.Cell n h) (went.Over o left) s = (left ≡ None) × IsNotLent s (to.Cell n)
StaysLent (have.Cell n h) (went.Asks a l) s =
    (g : Held) × (l ≡ have.Cell n g) × (g.read_only ≡ h.read_only)
StaysLent (have.Apart h) (went.Over o left) s = (g : Held) × (left ≡ Some g) × (g.read_only ≡ h.read_only)
StaysLent (have.Apart h) (went.Asks a l) s =
    (g : Held) × (l ≡ have.Apart g) × (g.read_only ≡ h.read_only)

-- where nothing of the run was lent, only the trace may differ, and where a cell was, it and the cells
abbrev pub Untouched : {H : Type 0} → Loan → (s s' : Run H) → Type 0
Untouched have.Nothing s s' =
    s' ≡ record s { stacks = record s.stacks { trace = s'.stacks.trace } }
Untouched (have.Target t) s s' = Unit {0}
Untouched (have.Cell n h) s s' = s' ≡ record s {
  cells = s'.cells;
  stacks = record s.stacks { trace = s'.stacks.trace };
}
Untouched (have.Apart h) s s' =
    s' ≡ record s { stacks = record s.stacks { trace = s'.stacks.trace } }

-- the run once a native was told: only what it was lent, the cells and the trace may differ
pub record ToldRun {H : Type 0} (l : Loan) (s : Run H) (r : Resumed) (s' : Run H) : Type 0 where
  pub others : s' ≡ record s {
    scope = s'.scope;
    cells = s'.cells;
    receivers = s'.receivers;
    stacks = record s.stacks { trace = s'.stacks.trace };
  }
  pub long : length s'.scope ≡ length s.scope
  pub this : KeepsBound s.level s.receivers s'.receivers
  pub size : length s'.cells ≡ length s.cells
  pub left : StaysLent l r s'
  pub same : Untouched l s s'

-- The host was told, and the code did what the rule says, wherever the frame stands and whatever follows.
-- `start` is the rule with the token still out.
pub record TellsHost {H : Type 0} (law : Law H) (token : ℕ) (o : Outcome) (l : Loan) (q : Position)
    (s : Run H) (n : StepsView) (host : H) (r : Resumed) (s' : Run H) (n' : StepsView) (host' : H) :
    Type 0 where
  pub same : (m : Setup H) (f : Option Place → Frame) (a : Asked)
      (heard : Setup H → Option Place → Answer → World H → Act H) (scope : List Entry)
      (x : Option Held) → m.law ≡ law → IsAt m f q → a.token ≡ token →
      Simulates m (state_with l scope x s n host)
      (λ m place w. Then (told m (callback_in (home_of to.This) s a l f place) o
      (record w { tokens = with_token token w.tokens })) (heard m place)) (resumed_is_out r)
      (resumed_state l r scope x s' n' host') (resumed_continuation r s' f heard)
  pub run : ToldRun l s r s'
