-- What a program means: the end of its main run, the run that is stopped at a mark, and a slow
-- evaluator.
use Rattle.std.specs.Prelude.{◌≡◌, ℕ, zero, suc, List, [], Option, Some, None, Result, Ok, Err}
use Rattle.grain_value.specs.declared.values.Dynamic.{Dynamic}
use Rattle.grain_value.specs.declared.scopes.Entry.{Entry}
use Rattle.grain_value.specs.declared.stores.Cell.{Cell}
use Rattle.grain_fault.specs.declared.traces.Fault.{Fault}
use Rattle.grain_fault.specs.declared.faults.EvalAltResult.{EvalAltResult}
use Rattle.grain_fault.specs.declared.faults.EvalAltResult.TheVariants as fault
use Rattle.grain_fault.specs.Problems.{NoMemory, problem_of}
use Rattle.grain_program.specs.View.{View}
use Rattle.grain_host.specs.Law.{Law}
use Rattle.grain_global.specs.declared.engines.Engine.{Engine}
use Rattle.grain_global.specs.declared.states.GlobalRuntimeState.{GlobalRuntimeState}
use Rattle.grain_means.specs.Worlds.{Act, Go, End, Then, Answer, Came, Failed, World, Setup}
use Rattle.grain_means.specs.Rules.{next, main}
use Rattle.grain_means.specs.Ends.{Ends}
use Rattle.grain_means.specs.Length.{run_length}

-- a state in which main begins
pub record Begin (S : Type 0) : Type 0 where
  pub scope : List Entry
  pub cells : List Cell
  pub host : S
  pub global : GlobalRuntimeState

-- an end: the answer, where the frames stopped that a fault left, and the state afterwards
pub record Finish (S : Type 0) : Type 0 where
  pub answer : Answer
  pub trace : List Fault
  pub scope : List Entry
  pub cells : List Cell
  pub host : S
  pub global : GlobalRuntimeState

abbrev pub setup : {S : Type 0} → Law S → View → Engine → Setup S
setup law program engine = record { law = law; program = program; engine = engine; stop = None }

-- the world of a beginning: no trace, no instruction begun, no mark passed, no token open
abbrev pub first_world : {S : Type 0} → Begin S → World S
first_world b = record {
  roots = [];
  scope = b.scope;
  cells = b.cells;
  host = b.host;
  count = b.global.num_operations;
  level = b.global.level;
  trace = [];
  ran = 0;
  passed = 0;
  tokens = Some [];
}

-- the world of an end, after this number of instructions and marks, with no token open
abbrev pub last_world : {S : Type 0} → Finish S → ℕ → ℕ → World S
last_world e ran passed = record {
  roots = [];
  scope = e.scope;
  cells = e.cells;
  host = e.host;
  count = e.global.num_operations;
  level = e.global.level;
  trace = e.trace;
  ran = ran;
  passed = passed;
  tokens = Some [];
}

-- main's run ends so, and begins this number of instructions
abbrev pub MainEnds : {S : Type 0} → Setup S → Begin S → Finish S → ℕ → Type 0
MainEnds m b e ran =
    (passed : ℕ) ×
    ((run : Ends m (main m (first_world b)) e.answer (last_world e ran passed)) ×
    (run_length run ≡ ran))

-- the program's run under the engine ends so
abbrev pub Means : {S : Type 0} → Law S → View → Engine → Begin S → Finish S → ℕ → Type 0
Means law program engine b e ran = MainEnds (setup law program engine) b e ran

-- the run at whose mark k memory is out ends so
abbrev pub Stopped : {S : Type 0} → ℕ → Law S → View → Engine → Begin S → Finish S → ℕ →
    Type 0
Stopped {S = S} k law program engine b e ran =
    let m : Setup S = setup law program engine in MainEnds (record m { stop = Some k }) b e ran

-- What a call answered: with a value or a fault the end that the program means, and where memory is
-- out the end of the run that is stopped at some mark.
abbrev pub Evaluates : {S : Type 0} → Law S → View → Engine → Begin S →
    Result Dynamic EvalAltResult → (Answer → Finish S) → ℕ → Type 0
Evaluates law program engine b (Ok v) finish ran = Means law program engine b (finish (Came v)) ran
Evaluates law program engine b (Err fault.Memory) finish ran =
    (k : ℕ) × Stopped k law program engine b (finish (Failed NoMemory)) ran
Evaluates law program engine b (Err x) finish ran =
    Means law program engine b (finish (Failed (problem_of x))) ran

-- a slow evaluator: at most as many nested steps as the number says
pub record Over (S : Type 0) : Type 0 where
  pub answer : Answer
  pub world : World S

abbrev pub and_then : {S : Type 0} → Option (Over S) → (Answer → World S → Option (Over S)) →
    Option (Over S)
and_then None k = None
and_then (Some e) k = k e.answer e.world

abbrev pub slowly : {S : Type 0} → Setup S → ℕ → Act S → Option (Over S)
slowly m zero act = None
slowly m (suc n) (End a w) = Some (record { answer = a; world = w })
slowly m (suc n) (Go t w) = slowly m n (next m t w)
slowly m (suc n) (Then first rest) = and_then (slowly m n first) (λ a w. slowly m n (rest a w))
