-- Calls that a native asks for: what they call, and how a native is called back.
use Rattle.std.specs.Prelude.{◌≡◌, ◌<◌, ◌+◌, List, ◌++◌, Option, Some, None, true, false, Result, Ok, Err, length}
use Rattle.grain_value.specs.Tree.{Tree}
use Rattle.grain_value.specs.declared.memory.OutOfMemory.{OutOfMemory}
use Rattle.grain_value.specs.declared.scopes.Entry.{Entry}
use Rattle.grain_value.specs.declared.values.Dynamic.{Dynamic}
use Rattle.grain_value.specs.declared.values.FnPtr.{FnPtr}
use Rattle.grain_value.specs.declared.values.Held.{Held}
use Rattle.grain_fault.specs.Problems.{problem_of}
use Rattle.grain_fault.specs.declared.faults.EvalAltResult.{EvalAltResult}
use Rattle.grain_fault.specs.declared.places.Position.{Position}
use Rattle.grain_program.specs.Lookups.{function_by_text}
use Rattle.grain_program.specs.View.{View}
use Rattle.grain_global.specs.StepsView.{StepsView}
use Rattle.grain_global.specs.declared.engines.Engine.{Engine}
use Rattle.grain_chain.specs.Walking.{is_want, no_memory, outcome_of}
use Rattle.grain_chain.specs.declared.requests.Request.{Request}
use Rattle.grain_means.specs.Worlds.{Callback, Failed, Place, Setup}
use Rattle.grain_means.specs.Rules.{arguments_back, flat_all, is_told, native_back, native_back_over, native_called_back, position}
use Rattle.grain_means.specs.Simulation.{Simulates, SimulatesExactly}
use Rattle.grain_frame.specs.Waiting.{beside}
use Rattle.grain_frame.specs.declared.runs.Run.{Run}
use Rattle.grain_vm.specs.Driving.{IsNative, name_in}
use Rattle.grain_vm.specs.Methods.{HasFunction, Hears, MethodOver, given_to}
use Rattle.grain_vm.specs.declared.methods.Needed.{Needed}
use Rattle.grain_vm.specs.declared.methods.Needed.TheVariants as needed

-- what a pointer calls that a native asks for on these values, at this position: a function that it names,
-- if natives may call functions, or else a native
abbrev pub FindsBack : View → Engine → Position → FnPtr → List Tree → Result Needed OutOfMemory → Type 0
FindsBack p engine q f ts (Ok (needed.Function c)) =
    HasFunction p c × (engine.callbacks ≡ true)
    × (function_by_text p f.name (length f.curry + length ts) ≡ Some c.number) × (c.pos ≡ q)
    × (c.receiver ≡ None) × (c.arguments ≡ f.curry ++ ts)
FindsBack p engine q f ts (Ok (needed.Native r)) =
    (engine.callbacks ≡ true → function_by_text p f.name (length f.curry + length ts) ≡ None)
    × IsNative r.what × (name_in r.what ≡ f.name) × (r.pos ≡ q) × (r.receiver ≡ None)
    × (r.arguments ≡ f.curry ++ ts)
FindsBack p engine q f ts (Err e) = Unit {0}

-- a call of a native that another one asks for, for which this is the request
pub record IsRequestBack {H : Type 0} (m : Setup H) (r : Request) (c : Option Place → Callback) :
    Type 0 where
  pub at : (place : Option Place) → position m (c place).frame ≡ r.pos
  pub named : (place : Option Place) → (c place).pointer.name ≡ name_in r.what
  pub arguments : (place : Option Place) → arguments_back (c place) ≡ given_to r.arguments

-- A native that is called back took its operation, and is one level up; or a fault came before it, of which
-- no host hears.
abbrev pub BeginsBack : {H : Type 0} → Setup H → Position → Run H → StepsView → H →
    Option EvalAltResult → Run H → StepsView → H → Type 0
BeginsBack {H = H} m q s n host None s' n' host' =
    (s' ≡ record s { count = s.count + 1; level = s.level + 1 })
    × (s.count < m.engine.limits.operations)
    × ((c : Option Place → Callback) (scope : List Entry) (x : Option Held) (heard : Hears H) →
    ((place : Option Place) → position m (c place).frame ≡ q) →
    SimulatesExactly m (beside scope x s n host)
    (λ m place w. native_called_back m (heard m place) (c place) w) false
    (beside scope x s' n' host')
    (λ m place w. native_back m (native_back_over m (heard m place) s.level) (c place)
    (flat_all w.cells (arguments_back (c place))) w))
BeginsBack {H = H} m q s n host (Some e) s' n' host' =
    MethodOver s s' × (is_told (problem_of e) ≡ false)
    × ((c : Option Place → Callback) (scope : List Entry) (x : Option Held) (heard : Hears H) →
    ((place : Option Place) → position m (c place).frame ≡ q) →
    SimulatesExactly m (beside scope x s n host)
    (λ m place w. native_called_back m (heard m place) (c place) w) (no_memory (problem_of e))
    (beside scope x s' n' host') (λ m place w. heard m place (Failed (problem_of e)) w))

-- a native was called back, with this outcome, whatever the scope and the `this` are and whatever follows
abbrev pub NativeCallsBack : {H : Type 0} → Setup H → Request → Run H → StepsView → H →
    Result Dynamic EvalAltResult → Run H → StepsView → H → Type 0
NativeCallsBack {H = H} m r s n host o s' n' host' =
    (c : Option Place → Callback) (scope : List Entry) (x : Option Held) (heard : Hears H) →
    IsRequestBack m r c →
    Simulates m (beside scope x s n host)
    (λ m place w. native_called_back m (heard m place) (c place) w) (is_want o)
    (beside scope x s' n' host') (λ m place w. heard m place (outcome_of o) w)
