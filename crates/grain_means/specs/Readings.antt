-- A chain that reads along elements of arrays and keys of maps alone, asks the host for nothing, and calls
-- no function.
use Rattle.std.specs.Prelude.{◌≡◌, ℕ, List, [], ◌∷◌, Option, Some, None, true, false, Result, Ok}
use Rattle.grain_value.specs.Cells.{flat}
use Rattle.grain_value.specs.Locating.{locate}
use Rattle.grain_value.specs.Looking.{is_unit}
use Rattle.grain_value.specs.Maps.{entry_at}
use Rattle.grain_value.specs.Paths.{child}
use Rattle.grain_value.specs.Tree.{Tree}
use Rattle.grain_value.specs.View.{tree, value_of}
use Rattle.grain_value.specs.declared.stores.Cell.{Cell}
use Rattle.grain_value.specs.declared.values.Dynamic.{Dynamic}
use Rattle.grain_value.specs.declared.values.Dynamic.TheVariants as dynamic
use Rattle.grain_value.specs.declared.values.locating.Spot.{Spot}
use Rattle.grain_value.specs.declared.values.locating.Spot.TheVariants as spot
use Rattle.grain_value.specs.declared.values.paths.PathStep.{PathStep}
use Rattle.grain_value.specs.declared.values.paths.PathStep.TheVariants as path_step
use Rattle.grain_value.specs.declared.values.value_faults.ValueFault.{ValueFault}
use Rattle.grain_program.specs.View.{name_of}
use Rattle.grain_program.specs.declared.code.chains.Step.{Step}
use Rattle.grain_program.specs.declared.code.chains.Step.TheVariants as step
use Rattle.grain_means.specs.Walks.{Course, key_of, operand, skips}

-- where an index leads, if it leads to an element or a key
abbrev pub index_along : Dynamic → Result Spot ValueFault → Option PathStep
index_along v (Ok (spot.Item k)) = Some (path_step.Index k)
index_along v (Ok spot.Key) = Some (path_step.Key (key_of v))
index_along v r = None

-- where an index, as it is read, leads in a value
abbrev pub read_along : Dynamic → Option Dynamic → Option PathStep
read_along d None = None
read_along d (Some v) = index_along v (locate d v)

abbrev pub key_along : List ℕ → Option Tree → Option PathStep
key_along name None = None
key_along name (Some t) = Some (path_step.Key name)

abbrev pub property_along : List ℕ → Dynamic → Option PathStep
property_along name (dynamic.Map es) = key_along name (entry_at name es)
property_along name d = None

-- where a step leads in a value, beside these cells, if it leads to an element or a key
abbrev pub step_along : List Cell → Course → Step → Dynamic → Option PathStep
step_along cells c (step.Index i flags q bracket) d = read_along d (flat cells (operand c i))
step_along cells c (step.Property name getter setter flags q) d =
    property_along (name_of c.setting.program name) d
step_along cells c (step.Method name argc i flags q) d = None

-- The steps lead from the value d along this path to the value u: each step leads to an element of an
-- array or to a key of a map. No step that ends the chain at unit (`skips`) begins at unit.
abbrev pub ReadsAlong : List Cell → Course → List Step → Dynamic → List PathStep → Dynamic → Type 0
ReadsAlong cells c [] d path u = (path ≡ []) × (u ≡ d)
ReadsAlong cells c (s ∷ steps) d path u =
    (skips s ≡ true → is_unit d ≡ false) ×
    ((e : PathStep) × (rest : List PathStep) × (t : Tree) × (path ≡ e ∷ rest) ×
    (step_along cells c s d ≡ Some e) × (child e (tree d) ≡ Ok t) ×
    ReadsAlong cells c steps (value_of t) rest u)
