-- What a run leaves of the scope on which it began: the entries below its base keep their names and
-- order, and a fault cuts the others.
use Rattle.std.specs.Prelude.{◌≡◌, ◌⊎◌, ◌≤◌, ℕ, List, [], ◌∷◌, ◌++◌, Option, Some, None, Result, Ok, Err, length, map, take}
use Rattle.grain_value.specs.declared.values.Dynamic.{Dynamic}
use Rattle.grain_value.specs.declared.scopes.Entry.{Entry}
use Rattle.grain_fault.specs.declared.traces.Fault.{Fault}
use Rattle.grain_fault.specs.Problems.{Problem, NoMemory, problem_of}
use Rattle.grain_fault.specs.declared.faults.EvalAltResult.{EvalAltResult}
use Rattle.grain_program.specs.View.{View}
use Rattle.grain_host.specs.Law.{Law}
use Rattle.grain_program.specs.Decoding.{op_at}
use Rattle.grain_program.specs.declared.code.instruction_set.Op.TheVariants as op
use Rattle.grain_global.specs.declared.engines.Engine.{Engine}
use Rattle.grain_means.specs.Worlds.{Act, Answer, Came, Failed, Setup, Frame, InFrame, World}
use Rattle.grain_means.specs.Rules.{main}
use Rattle.grain_means.specs.Comes.{Comes}
use Rattle.grain_means.specs.Blame.{Blamed}
use Rattle.grain_means.specs.Means.{Begin, Finish, MainEnds, first_world}

abbrev pub name_in : Entry → List ℕ
name_in e = e.name

abbrev pub names : List Entry → List (List ℕ)
names scope = map name_in scope

-- the scope has the entries below the base, with these names
pub record Keeps (base : ℕ) (ns : List (List ℕ)) (scope : List Entry) : Type 0 where
  pub there : base ≤ length scope
  pub named : names (take base scope) ≡ ns

-- the frame stands at a checkpoint
abbrev pub AtCheckpoint : View → Frame → Type 0
AtCheckpoint program f = (width : ℕ) × (op_at program.code f.address ≡ Some (op.Checkpoint, width))

-- This fault left a frame of this level and base, to which the run had come: the trace has its address
-- last, with the slot of what is blamed, unless memory is out; and the scope is no longer than its floor.
-- Where memory is out and the frame stands at a checkpoint that is done, the floor is the scope's length
-- there.
pub record Cut {S : Type 0} (m : Setup S) (act : Act S) (level base : ℕ) (x : Problem)
    (scope : List Entry) (trace : List Fault) : Type 0 where
  pub frame : Frame
  pub world : World S
  pub comes : Comes m (InFrame frame) world act
  pub own : world.level ≡ level
  pub based : frame.base ≡ base
  pub inner : List Fault
  pub slot : Option ℕ
  pub last : trace ≡ inner ++ record { address = frame.address; slot = slot } ∷ []
  pub blames : (x ≡ NoMemory) ⊎ Blamed m frame world slot x
  pub short : (length scope ≤ frame.floor) ⊎
      ((x ≡ NoMemory) × AtCheckpoint m.program frame × (length scope ≤ length world.scope))

-- with a value the trace is empty, and a fault cuts the scope, unless memory is out where no frame
-- is left
abbrev pub Cuts : {S : Type 0} → Setup S → Act S → ℕ → ℕ → Answer → World S → Type 0
Cuts m act level base (Came v) w = w.trace ≡ []
Cuts m act level base (Failed x) w =
    Cut m act level base x w.scope w.trace ⊎ ((x ≡ NoMemory) × (w.trace ≡ []))

-- What a call leaves of its scope after this fault. Its run ends so, and where memory is out the run
-- that is stopped at a mark does. In that run the fault left main's frame, so that the scope is no
-- longer than main's floor, or memory is out and no frame was left.
abbrev pub IsCut : {S : Type 0} → Law S → View → Engine → Begin S → Problem → Finish S → Type 0
IsCut {S = S} law program engine b x e =
    (stop : Option ℕ) × ((stop ≡ None) ⊎ (x ≡ NoMemory)) ×
    (let m : Setup S = record { law = law; program = program; engine = engine; stop = stop } in
    ((ran : ℕ) × MainEnds m b e ran) ×
    (Cut m (main m (first_world b)) b.global.level (length b.scope) x e.scope e.trace ⊎
    ((x ≡ NoMemory) × (e.trace ≡ []))))

abbrev pub answer_in : Result Dynamic EvalAltResult → Answer
answer_in (Ok v) = Came v
answer_in (Err x) = Failed (problem_of x)

-- what a call leaves of its scope: all its entries with their names, and after a fault no more than
-- main's floor
pub record Leaves {S : Type 0} (law : Law S) (program : View) (engine : Engine) (b : Begin S)
    (result : Result Dynamic EvalAltResult) (finish : Answer → Finish S) : Type 0 where
  pub keeps : Keeps (length b.scope) (names b.scope) (finish (answer_in result)).scope
  pub cuts : (x : EvalAltResult) → result ≡ Err x →
      IsCut law program engine b (problem_of x) (finish (Failed (problem_of x)))
