-- The switches to whose targets the search for a typing has come.
use Rattle.std.specs.Prelude.{ℕ, ◌≡◌, List, slice_get, slice_index_or, Option, Some, None}
use Rattle.grain_program.specs.View.{View}
use Rattle.grain_program.specs.Effects.{switch_leads}
use Rattle.grain_program.specs.Shapes.{Shape, shape_at}
use Rattle.grain_program.specs.Typing.{In, AnalysisState}

-- one shape has come to all targets of the switch of index k, of which this address is the lowest
pub record HasCome (p : View) (k lowest : ℕ) (f : AnalysisState) : Type 0 where
  pub first : slice_get (switch_leads p k) 0 ≡ Some lowest
  pub shape : Shape
  pub known : (a : ℕ) → In a (switch_leads p k) → shape_at f.shapes a ≡ Some shape

-- where an entry has an address, one shape has come to all targets of the switch of its index, and the
-- address is the lowest of them
abbrev pub AreReached : View → List (Option ℕ) → AnalysisState → Type 0
AreReached p reached f =
    (k lowest : ℕ) → slice_index_or reached k None ≡ Some lowest → HasCome p k lowest f
