-- What operands and entries hold, as they are read.
use Rattle.std.specs.Prelude.{ℕ, List, [], ◌∷◌, Option, Some, None}
use Rattle.grain_value.specs.declared.values.Dynamic.{Dynamic}
use Rattle.grain_value.specs.declared.values.Held.{Held}
use Rattle.grain_value.specs.Cells.{flat}
use Rattle.grain_value.specs.declared.stores.Cell.{Cell}
use Rattle.grain_means.specs.Worlds.{Frame, World, Act, Setup}
use Rattle.grain_means.specs.Rules.Faults.{data_race}

-- what is held, as it is read, before others
abbrev pub flat_before : Option Dynamic → Held → Option (List Held) → Option (List Held)
flat_before None h rest = None
flat_before (Some v) h None = None
flat_before (Some v) h (Some hs) = Some (record h { value = v } ∷ hs)

-- all that is held, as it is read, unless the content of a cell among it is lent
abbrev pub flat_all : List Cell → List Held → Option (List Held)
flat_all cells [] = Some []
flat_all cells (h ∷ hs) = flat_before (flat cells h.value) h (flat_all cells hs)

module _ {S : Type 0} (m : Setup S) where
  abbrev pub flat_or_race : Option Dynamic → List ℕ → Frame → World S → (Dynamic → Act S) → Act S
  flat_or_race None name f w go = data_race m name f w
  flat_or_race (Some v) name f w go = go v

  -- what an operand or an entry holds, as it is read, and then what follows from it
  abbrev pub flattened : Held → List ℕ → Frame → World S → (Dynamic → Act S) → Act S
  flattened h name f w go = flat_or_race (flat w.cells h.value) name f w go

  abbrev pub all_or_race : Option (List Held) → Frame → World S → (List Held → Act S) → Act S
  all_or_race None f w go = data_race m [] f w
  all_or_race (Some hs) f w go = go hs

  -- what operands hold, each as it is read, and then what follows from it
  abbrev pub flattened_all : List Held → Frame → World S → (List Held → Act S) → Act S
  flattened_all hs f w go = all_or_race (flat_all w.cells hs) f w go
