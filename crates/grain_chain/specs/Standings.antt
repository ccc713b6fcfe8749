-- The roots of a walk of the code, and its place in the newest one.
use Rattle.std.specs.Prelude.{◌≡◌, ℕ, List, [], ◌∷◌, ◌++◌, Option, Some, None, Bool, true, false, Result, Ok, Err, is_some}
use Rattle.grain_value.specs.View.{tree}
use Rattle.grain_value.specs.Paths.{at, Leads}
use Rattle.grain_value.specs.Maps.{entry_at}
use Rattle.grain_value.specs.declared.values.Dynamic.{Dynamic}
use Rattle.grain_value.specs.declared.values.Dynamic.TheVariants as dynamic
use Rattle.grain_value.specs.declared.values.Held.{Held}
use Rattle.grain_value.specs.declared.values.paths.PathStep.{PathStep}
use Rattle.grain_value.specs.declared.values.paths.PathStep.TheVariants.{Key}
use Rattle.grain_value.specs.declared.memory.OutOfMemory.{OutOfMemory}
use Rattle.grain_ops.specs.Outcomes.{Outcome, NotBuiltIn, Gave}
use Rattle.grain_ops.specs.Answers.{FailsSo}
use Rattle.grain_ops.specs.declared.answers.AssignAnswer.{AssignAnswer}
use Rattle.grain_ops.specs.declared.answers.AssignAnswer.TheVariants as assigned
use Rattle.grain_means.specs.Places.{put_held}
use Rattle.grain_means.specs.Walks.{with_key}
use Rattle.grain_chain.specs.declared.origins.OuterRoot.{OuterRoot}
use Rattle.grain_chain.specs.declared.trails.LeftRoot.{LeftRoot}

-- all roots but the newest, the oldest first; the newest; and the path to the walk's place in it
pub record Standing : Type 0 where
  pub outer : List OuterRoot
  pub here : Held
  pub path : List PathStep

abbrev pub AllLead : List OuterRoot → Type 0
AllLead [] = Unit {0}
AllLead (o ∷ os) = Leads o.path (tree o.root.value) × AllLead os

-- each path leads to a value
pub record Leading (s : Standing) : Type 0 where
  pub leads : Leads s.path (tree s.here.value)
  pub outer : AllLead s.outer

-- a value stands at the place
abbrev pub Stands : Standing → Dynamic → Type 0
Stands s v = at s.path (tree s.here.value) ≡ Ok (tree v)

-- the first root, which stays when all others are left
abbrev pub oldest : List OuterRoot → Held → Held
oldest [] h = h
oldest (o ∷ os) h = o.root

-- the newest root was left, and the one before it is now the newest; or there is none before it
abbrev pub WentBack : Standing → Option LeftRoot → Standing → Type 0
WentBack s None t = (s.outer ≡ []) × (t ≡ s)
WentBack s (Some g) t =
    (s.outer ≡ t.outer ++ record { root = t.here; path = t.path; step = g.step; origin = g.origin } ∷ [])
    × (g.root ≡ s.here)

-- with another value at the place
abbrev pub put_there : Standing → Dynamic → Standing
put_there s v = record s { here = put_held s.path v s.here }

-- with one more key, with unit, in the map at the place; the place is then that of the key
abbrev pub key_added : Standing → List ℕ → Dynamic → Standing
key_added s key v = record s {
  here = put_held s.path (with_key key v) s.here;
  path = s.path ++ Key key ∷ [];
}

-- A byte, a character or a bit was put back into the value at the place. If it does not have the type
-- that fits there, or if memory ran out, nothing was done.
abbrev pub PartPut : Standing → Option Dynamic → Result Bool OutOfMemory → Standing → Type 0
PartPut s (Some v) (Ok b) t = (b ≡ true) × (t ≡ put_there s v)
PartPut s None (Ok b) t = (b ≡ false) × (t ≡ s)
PartPut s d (Err e) t = t ≡ s

-- a built-in op-assignment was done at the place, or nothing changed
abbrev pub AssignedThere : Standing → AssignAnswer → Outcome → Standing → Type 0
AssignedThere s assigned.NotBuiltIn o t = (o ≡ NotBuiltIn) × (t ≡ s)
AssignedThere s assigned.Done o t = (r : Dynamic) × (o ≡ Gave r) × (t ≡ put_there s r)
AssignedThere s (assigned.Failed x) o t = FailsSo x o × (t ≡ s)

-- whether a map has a key; None if the value is no map
abbrev pub has_key : Dynamic → List ℕ → Option Bool
has_key (dynamic.Map es) k = Some (is_some (entry_at k es))
has_key v k = None
