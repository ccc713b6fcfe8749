-- A walk in the world: its first root stands at a place, and its other roots are the last ones of the
-- world.
use Rattle.std.specs.Prelude.{ℕ, zero, suc, ◌+◌, List, [], ◌∷◌, ◌++◌, Option, Some, None, length, take, map, option_map, if◌then◌else◌}
use Rattle.grain_fault.specs.Absences.{is_dot_expr, is_indexing_type}
use Rattle.grain_fault.specs.declared.traces.Fault.{Fault}
use Rattle.grain_value.specs.Cells.{flat}
use Rattle.grain_value.specs.Operands.{read_write}
use Rattle.grain_value.specs.View.{value_of}
use Rattle.grain_value.specs.declared.values.Dynamic.TheVariants as dynamic
use Rattle.grain_value.specs.declared.values.FnPtr.{FnPtr}
use Rattle.grain_value.specs.declared.values.Held.{Held}
use Rattle.grain_value.specs.declared.values.paths.PathStep.{PathStep}
use Rattle.grain_fault.specs.Problems.{Problem, Plain, DataRace, NoMemory}
use Rattle.grain_fault.specs.declared.places.Position.{Position}
use Rattle.grain_program.specs.Chains.{slot_of}
use Rattle.grain_program.specs.declared.code.functions.Function.{Function}
use Rattle.grain_program.specs.View.{View}
use Rattle.grain_means.specs.Worlds.{is_stop, Place, Answer, Came, Failed, Frame, World, Act, Setup}
use Rattle.grain_means.specs.Places.{look, put}
use Rattle.grain_means.specs.Tasks.{Task, Done, Mark, Look, Flatten, Write, Root, Drop, Need, Invoke, Call, Invocation, Method, Numbered, Pointed, Walked}
use Rattle.grain_means.specs.Rules.Faults.{race_text, marked_or}
use Rattle.grain_means.specs.Rules.Reads.{flat_all}
use Rattle.grain_means.specs.Rules.Homes.{AtPlace}
use Rattle.grain_means.specs.Rules.Natives.{Receiver, native_or}
use Rattle.grain_means.specs.Rules.Calls.{body_called, body_failed, function_by_name, function_numbered}
use Rattle.grain_means.specs.Rules.Pointers.{curried_in}

-- Where a place of a walk lies in the world. The walk began at the place p of a world with n roots. So
-- the walk's first root, which has number 0, is what stands at p, and the walk's root of number k + 1 is
-- the world's root of number n + k.
abbrev pub world_place : Place → ℕ → ℕ → List PathStep → Place
world_place p n zero path = record p { path = p.path ++ path }
world_place p n (suc k) path = record { root = n + k; path = path }

abbrev pub placed : Place → ℕ → Place → Place
placed p n q = world_place p n q.root q.path

-- the frame while a step of the chain of index k is done: its faults blame the step, and have this
-- position
abbrev pub at_step : View → ℕ → ℕ → Position → Frame → Frame
at_step program k n q f = record f { slot = Some (slot_of program k n); position = Some q }

-- what stands at a place, as a native is lent it
abbrev pub lent_at : List Held → Option Place → Option Receiver
lent_at roots None = None
lent_at roots (Some p) = Some (record { home = AtPlace p; held = look roots p })

-- A call that a walk needs ends with a fault: there is a mark, and then the walk goes on from that fault,
-- or, if memory is out at the mark, from want of memory.
abbrev pub failed_so : {S : Type 0} → Setup S → (Answer → World S → Act S) → Problem → World S → Act S
failed_so m heard x w = marked_or m (heard (Failed NoMemory)) w (heard (Failed x))

-- The trace that a call left which a walk needs, if the call ended with a fault that says that there is no
-- such property. That is asked of every call, and is for those of properties: after such a fault an indexer
-- is called in their place, and if there is none, the first fault is the walk's.
abbrev pub missed_by : Answer → List Fault → Option (List Fault)
missed_by (Came v) trace = None
missed_by (Failed x) trace = if is_dot_expr x then Some trace else None

-- the trace after a call that ended so, where the one before missed a property and left this trace
abbrev pub trace_of : Option (List Fault) → Answer → List Fault → List Fault
trace_of None a trace = trace
trace_of (Some before) (Came v) trace = trace
trace_of (Some before) (Failed x) trace = if is_indexing_type x then before else trace

-- the native that a walk calls where a pointer names no function
abbrev pub pointed_native : Invocation → FnPtr → Call
pointed_native i r = record {
  step = i.step;
  position = i.position;
  name = r.name;
  receiver = i.this;
  values = map value_of r.curry ++ i.values;
}

-- the functions that a walk calls
module _ {S : Type 0} (m : Setup S) where
  -- a function that a walk calls is over: what follows from its value, or from its fault at the call
  abbrev pub body_over : Position → Function → (Answer → World S → Act S) → Answer → World S → Act S
  body_over q g heard (Came v) w = heard (Came v) w
  body_over q g heard (Failed x) w =
      body_failed m (heard (Failed NoMemory)) (λ y. heard (Failed y)) q g x w

  -- A function that a walk calls, and then what follows from the answer. Its `this` is the place, if there
  -- is one; what can only be read there is copied to a new root, which goes afterwards.
  abbrev pub function_under : Position → Function → List Held → (Answer → World S → Act S) →
      Option Place → World S → Act S
  function_under q g args heard this w =
      body_called m (heard (Failed NoMemory)) (λ x. heard (Failed x)) q g args this
      (body_over q g heard) w

  abbrev pub copy_dropped : ℕ → (Answer → World S → Act S) → Answer → World S → Act S
  copy_dropped n heard a w = heard a (record w { roots = take n w.roots })

  abbrev pub function_on : Position → Function → List Held → (Answer → World S → Act S) → Place →
      World S → Act S
  function_on q g args heard p w =
      if (look w.roots p).read_only
      then function_under q g args (copy_dropped (length w.roots) heard)
      (Some (record { root = length w.roots; path = [] }))
      (record w { roots = w.roots ++ look w.roots p ∷ [] })
      else function_under q g args heard (Some p) w

  abbrev pub function_called : Position → Function → List Held → (Answer → World S → Act S) →
      Option Place → World S → Act S
  function_called q g args heard None w = function_under q g args heard None w
  function_called q g args heard (Some p) w = function_on q g args heard p w

-- a walk of the chain of index k, in a frame
module _ {S : Type 0} (m : Setup S) (k : ℕ) (f : Frame) where
  -- The native that a walk needs is called on its arguments as they are read. If one of them is a cell
  -- whose content is lent, that is a fault. Then comes what follows from the answer, from the fault, or
  -- from want of memory.
  abbrev pub needed : Call → Option Receiver → (Answer → World S → Act S) → World S →
      Option (List Held) → Act S
  needed c r heard w None = failed_so m heard (Plain (DataRace (race_text [])) c.position) w
  needed c r heard w (Some args) =
      native_or m (heard (Failed NoMemory)) c.name r args
      (at_step m.program k c.step c.position f) w (λ v w1. heard (Came v) w1) (failed_so m heard)

  -- a call that a walk needs, to which the place is lent
  abbrev pub performed : Call → Option Place → (Answer → World S → Act S) → World S → Act S
  performed c p heard w =
      needed c (lent_at w.roots p) heard w (flat_all w.cells (map read_write c.values))

  -- The function that a pointer names, on the pointer's values and then these; if there is none, the
  -- native of that name, which is lent the place, if there is one.
  abbrev pub pointed_called : Invocation → Option Place → (Answer → World S → Act S) → FnPtr →
      Option Function → World S → Act S
  pointed_called i p heard r None w =
      performed (pointed_native i r) p heard w
  pointed_called i p heard r (Some g) w =
      function_called m i.position g (curried_in r ++ map read_write i.values) heard p w

  -- The function of a number. The numbers of methods are looked up among the program's functions, so that
  -- the walk of a chain calls no other; one that is not there would give unit.
  abbrev pub numbered_called : Invocation → Option Place → (Answer → World S → Act S) →
      Option Function → World S → Act S
  numbered_called i p heard None w = heard (Came dynamic.Unit) w
  numbered_called i p heard (Some g) w =
      function_called m i.position g (map read_write i.values) heard p w

  -- a function that a walk calls, under the place, if there is one
  abbrev pub invoked : Invocation → Option Place → (Answer → World S → Act S) → Method → World S →
      Act S
  invoked i p heard (Numbered n) w =
      numbered_called i p heard (function_numbered m.program (Some n)) w
  invoked i p heard (Pointed r) w =
      pointed_called i p heard r
      (function_by_name m.program r.name (length r.curry + length i.values)) w

  -- A task of a walk that began at the place p of a world with n roots, and then what follows from how the
  -- walk ends. A call begins without a trace. If the call before missed a property, `missed` is the trace
  -- that it left.
  abbrev pub walks : Place → ℕ → Option (List Fault) → Task → (Walked → World S → Act S) → World S →
      Act S
  walks p n missed (Done o) done w = done o w
  walks p n missed (Mark out go) done w =
      if is_stop m.stop w.passed then walks p n missed out done w
      else walks p n missed go done (record w { passed = w.passed + 1 })
  walks p n missed (Look q go) done w = walks p n missed (go (look w.roots (placed p n q))) done w
  walks p n missed (Flatten v go) done w = walks p n missed (go (flat w.cells v)) done w
  walks p n missed (Write q v t) done w =
      walks p n missed t done (record w { roots = put w.roots (placed p n q) v })
  walks p n missed (Root h t) done w = walks p n missed t done (record w { roots = w.roots ++ h ∷ [] })
  walks p n missed (Drop i go) done w =
      walks p n missed (go (look w.roots (record { root = n + i; path = [] }))) done
      (record w { roots = take (n + i) w.roots })
  walks p n missed (Need c go) done w =
      performed c (option_map (placed p n) c.receiver) (λ a w1.
      walks p n (missed_by a w1.trace) (go a) done (record w1 { trace = trace_of missed a w1.trace }))
      (record w { trace = [] })
  walks p n missed (Invoke i go) done w =
      invoked i (option_map (placed p n) i.this) (λ a w1. walks p n None (go a) done w1) i.method
      (record w { trace = [] })
