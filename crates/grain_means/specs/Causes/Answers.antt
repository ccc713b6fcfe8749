-- How the calls that the walk of a chain makes end: of natives, and of functions.
pub use Rattle.grain_means.specs.Causes.Questions.{answered_world, asking_world}
use Rattle.std.specs.Prelude.{◌≡◌, ◌+◌, ◌&&◌, length, ℕ, List, [], ◌++◌, Option, Some, None, true, false, map, option_map}
use Rattle.grain_value.specs.declared.values.FnPtr.{FnPtr}
use Rattle.grain_value.specs.Operands.{read_write, values_in}
use Rattle.grain_value.specs.declared.natives.Native.{Native}
use Rattle.grain_value.specs.declared.values.Dynamic.{Dynamic}
use Rattle.grain_value.specs.declared.values.Dynamic.TheVariants as dynamic
use Rattle.grain_value.specs.declared.values.Held.{Held}
use Rattle.grain_fault.specs.Positions.{at_position_if_none}
use Rattle.grain_fault.specs.Problems.{Problem, Plain, DataRace, NonPureCall, NoMemory}
use Rattle.grain_host.specs.Law as reply
use Rattle.grain_host.specs.Signatures.{not_found}
use Rattle.grain_program.specs.declared.code.functions.Function.{Function}
use Rattle.grain_program.specs.View.{View}
use Rattle.grain_value.specs.Tree.{Tree}
use Rattle.grain_means.specs.Worlds.{Callback, End, Frame, Go, InHost, is_stop, Answer, Came, Failed, Place, Setup, World}
use Rattle.grain_means.specs.Ends.{Ends}
use Rattle.grain_means.specs.Rules.{Receiver, no_memory, position, curried_in, function_by_name, function_called, function_numbered, pointed_native, first_is_read_only, flat_all, given, lent_at, race_text}
use Rattle.grain_means.specs.Tasks.{Call, Invocation, Method, Numbered, Pointed}
use Rattle.grain_means.specs.Causes.Questions.{IsCalled, Question, native_asked, reply_to}
use Rattle.grain_means.specs.Causes.Callbacks.{HostFails, LeavesBack, first_asked}

-- a mark is passed
abbrev pub past : {S : Type 0} → World S → World S
past w = record w { passed = w.passed + 1 }

-- memory is not out at the next mark
abbrev pub Passes : {S : Type 0} → Setup S → World S → Type 0
Passes m w = is_stop m.stop w.passed ≡ false

-- what a walk needs is a question to the host, on arguments as they are read
abbrev pub question_of : {S : Type 0} → Call → Option Receiver → World S → List Held → Question S
question_of c r w args =
    record { world = w; name = c.name; lent = r; args = args }

-- A native that a walk calls asks for calls first: this is the first of them, with these arguments, in this
-- world.
pub record CallAsks {S : Type 0} (m : Setup S) (c : Call) (r : Option Receiver) (w : World S) : Type 0
  where
    pub args : List Held
    pub reads : flat_all w.cells (map read_write c.values) ≡ Some args
    pub native : Native
    pub found : native_asked m (question_of c r w args) ≡ Some native
    pub called : IsCalled (question_of c r w args) native
    pub clear : Passes m w
    pub clear_again : Passes m (past w)
    pub token : ℕ
    pub pointer : FnPtr
    pub values : List Tree
    pub asks : reply_to m (question_of c r w args) native.key ≡ reply.Ask token pointer values
    -- a frame at the call's position, of which nothing else is said
    pub frame : Frame
    pub position : position m frame ≡ c.position

abbrev pub call_asked : {S : Type 0} {m : Setup S} {c : Call} {r : Option Receiver} {w : World S} →
    CallAsks m c r w → Callback
call_asked {m = m} {c = c} {r = r} {w = w} a =
    first_asked m (question_of c r w a.args) a.native a.frame a.token a.pointer a.values

abbrev pub call_start : {S : Type 0} {m : Setup S} {c : Call} {r : Option Receiver} {w : World S} →
    CallAsks m c r w → World S
call_start {m = m} {r = r} {w = w} a = asking_world m a.native.key r a.args a.token w

-- How a call of a native by a walk ends where memory is not out at one of its own marks, and the world then.
-- It ends with a fault if an argument is a cell whose content is lent, if there is no such native, or if the
-- native writes its first argument and that can only be read. Else the host answers with a value, or with a
-- fault, which gets the call's position if the host gave it none; or it asks for calls first, and the run of
-- these ends so. That may be want of memory: the host answered it there, or memory was out in that run.
pub data CallEnds {S : Type 0} (m : Setup S) (c : Call) (r : Option Receiver) (w : World S) :
    Answer → World S → Type 0 where
  lent : flat_all w.cells (map read_write c.values) ≡ None → Passes m w →
      CallEnds m c r w (Failed (Plain (DataRace (race_text [])) c.position)) (past w)
  missing : (args : List Held) → flat_all w.cells (map read_write c.values) ≡ Some args →
      native_asked m (question_of c r w args) ≡ None → Passes m w →
      CallEnds m c r w (Failed (not_found c.name (values_in (given r args)) c.position)) (past w)
  refused : (args : List Held) → flat_all w.cells (map read_write c.values) ≡ Some args →
      (n : Native) → native_asked m (question_of c r w args) ≡ Some n →
      n.writes && first_is_read_only (given r args) ≡ true → Passes m w →
      CallEnds m c r w (Failed (Plain (NonPureCall c.name) c.position)) (past w)
  gave : (args : List Held) → flat_all w.cells (map read_write c.values) ≡ Some args →
      (n : Native) → native_asked m (question_of c r w args) ≡ Some n →
      IsCalled (question_of c r w args) n → Passes m w → Passes m (past w) → (v : Dynamic) →
      reply_to m (question_of c r w args) n.key ≡ reply.Done v →
      CallEnds m c r w (Came v) (answered_world m n.key r args w)
  failed : (args : List Held) → flat_all w.cells (map read_write c.values) ≡ Some args →
      (n : Native) → native_asked m (question_of c r w args) ≡ Some n →
      IsCalled (question_of c r w args) n → Passes m w → Passes m (past w) → (x : Problem) →
      reply_to m (question_of c r w args) n.key ≡ reply.Failed x → Passes m (past (past w)) →
      CallEnds m c r w (Failed (at_position_if_none c.position x))
      (past (answered_world m n.key r args w))
  asked_gave : (a : CallAsks m c r w) (v : Dynamic) {u : World S} →
      Ends m (Go (InHost (call_asked a)) (call_start a)) (Came v) u → CallEnds m c r w (Came v) u
  asked_failed : (a : CallAsks m c r w) (x : Problem) {u : World S} →
      Ends m (Go (InHost (call_asked a)) (call_start a)) (Failed x) u → no_memory x ≡ false →
      Passes m u → CallEnds m c r w (Failed x) (past u)
  asked_out : (a : CallAsks m c r w) {u : World S} →
      Ends m (Go (InHost (call_asked a)) (call_start a)) (Failed NoMemory) u →
      CallEnds m c r w (Failed NoMemory) u

-- The calls that a native asked for first are the reason why it ended so, and not only the body of a
-- function that it called back.
abbrev pub IsReason : {S : Type 0} {m : Setup S} {c : Call} {r : Option Receiver} {w u : World S}
    {a : Answer} → CallEnds m c r w a u → Type 0
IsReason {m = m} (asked_failed a x ends some clear) = HostFails m (call_asked a) (call_start a) x
IsReason {m = m} (asked_out a ends) = HostFails m (call_asked a) (call_start a) NoMemory
IsReason ends = Unit {0}

-- The body of a function that a native called back ended with a fault that no script may catch, and so the
-- native ended.
abbrev pub IsLeft : {S : Type 0} {m : Setup S} {c : Call} {r : Option Receiver} {w u : World S}
    {a : Answer} → CallEnds m c r w a u → Type 0
IsLeft {m = m} (asked_failed a x ends some clear) = LeavesBack m (call_asked a) (call_start a) x
IsLeft ends = ⊥

-- the function that a walk calls, and its arguments, if the program has it
abbrev pub on_values : List Held → Option Function → Option (Function × List Held)
on_values args found = option_map (λ g. (g, args)) found

abbrev pub resolved : View → Invocation → Method → Option (Function × List Held)
resolved p i (Numbered n) =
    on_values (map read_write i.values) (function_numbered p (Some n))
resolved p i (Pointed r) =
    on_values (curried_in r ++ map read_write i.values)
    (function_by_name p r.name (length r.curry + length i.values))

-- How a call of a function by a walk ends, under what stands at a place, and the world then. Where a
-- pointer names no function, a native is called. A number of no function would give unit; the walk of a
-- chain comes to no such call, since it takes the numbers of methods from the program's functions.
pub data InvocationEnds {S : Type 0} (m : Setup S) (i : Invocation) (p : Option Place) (w : World S) :
    Answer → World S → Type 0 where
  by_function : (g : Function) (args : List Held) → resolved m.program i i.method ≡ Some (g, args) →
      {a : Answer} {v : World S} → Ends m (function_called m i.position g args End p w) a v →
      InvocationEnds m i p w a v
  by_native : (r : FnPtr) → i.method ≡ Pointed r → resolved m.program i i.method ≡ None →
      {a : Answer} {v : World S} → CallEnds m (pointed_native i r) (lent_at w.roots p) w a v →
      InvocationEnds m i p w a v
  by_nothing : (n : ℕ) → i.method ≡ Numbered n → resolved m.program i i.method ≡ None →
      InvocationEnds m i p w (Came dynamic.Unit) w
