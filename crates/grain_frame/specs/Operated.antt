-- What the built-in operators give, as the frame goes on with it.
use Rattle.std.specs.Prelude.{◌≡◌, ℕ, List, Result, Ok, Err}
use Rattle.grain_value.specs.declared.values.Dynamic.{Dynamic}
use Rattle.grain_value.specs.declared.memory.OutOfMemory.{OutOfMemory}
use Rattle.grain_value.specs.declared.values.Held.{Held}
use Rattle.grain_value.specs.declared.scopes.Entry.{Entry}
use Rattle.grain_value.specs.Scopes.{set_held}
use Rattle.grain_fault.specs.Problems.{Problem, Plain, Arithmetic, DataTooLarge, NoMemory}
use Rattle.grain_fault.specs.declared.places.Position.{Position}
use Rattle.grain_ops.specs.Answers.{FailsSo}
use Rattle.grain_ops.specs.Outcomes.{Outcome, NotBuiltIn, Gave, ArithmeticFault, TooLarge}
use Rattle.grain_ops.specs.declared.answers.AssignAnswer.{AssignAnswer}
use Rattle.grain_ops.specs.declared.answers.AssignAnswer.TheVariants as assigned
use Rattle.grain_global.specs.StepsView.{StepsView}
use Rattle.grain_frame.specs.Abstraction.{Raises}
use Rattle.grain_frame.specs.declared.runs.Progress.{Progress}
use Rattle.grain_frame.specs.declared.runs.Run.{Run}

-- an op-assignment writes the entry at an index of a scope, which held this and keeps its flag, if it
-- is done, and changes nothing else
abbrev pub AssignedEntry : AssignAnswer → Outcome → (before after : List Entry) → ℕ → Held → Type 0
AssignedEntry assigned.NotBuiltIn o before after i h = (o ≡ NotBuiltIn) × (after ≡ before)
AssignedEntry assigned.Done o before after i h =
    (v : Dynamic) × (o ≡ Gave v) ×
    (after ≡ set_held before i (record { value = v; read_only = h.read_only }))
AssignedEntry (assigned.Failed x) o before after i h = FailsSo x o × (after ≡ before)

-- the outcome is a fault, which is this one at a position; of any other outcome `fault_at` says
-- nothing
abbrev pub IsFault : Outcome → Type 0
IsFault (ArithmeticFault text) = Unit {0}
IsFault (TooLarge what) = Unit {0}
IsFault o = ⊥

abbrev pub fault_at : Outcome → Position → Problem
fault_at (ArithmeticFault text) p = Plain (Arithmetic text) p
fault_at (TooLarge what) p = Plain (DataTooLarge what) p
fault_at o p = NoMemory

-- an operator's fault is raised at a position, unless memory is out
abbrev pub RaisesOutcome : {H : Type 0} → Run H → StepsView → Outcome → Position →
    Result Progress OutOfMemory → Run H → StepsView → Type 0
RaisesOutcome s n o p (Ok q) s' n' = IsFault o × Raises s n (fault_at o p) (Ok q) s' n'
RaisesOutcome s n o p (Err e) s' n' = (s' ≡ s) × (n' ≡ n)
