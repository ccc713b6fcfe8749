-- Shapes with the number of a list in the place of the list, as the verifier has them, and what the
-- search for a typing is with them.
use Rattle.std.specs.Prelude.{ℕ, zero, suc, ◌≡◌, ◌≤◌, ◌⊎◌, List, [], ◌∷◌, length, map, slice_index_or, Option, Some, None, Result, Ok, Err}
use Rattle.grain_program.specs.declared.verifier.shapes.NumberedShape.{NumberedShape}
use Rattle.grain_program.specs.declared.verifier.shapes.Cell.{Cell}
use Rattle.grain_program.specs.declared.verifier.refusals.Refusal.{Refusal}
use Rattle.grain_program.specs.declared.verifier.refusals.Refusal.TheVariants as refusal
use Rattle.grain_program.specs.Shapes.{TryHandler, Shape}
use Rattle.grain_program.specs.HandlerLists.{list_at}
use Rattle.grain_program.specs.Typing.{AnalysisState}

-- the shape of these numbers, of which the first is 0 where none is known
abbrev pub numbered_shape : ℕ → ℕ → ℕ → Option NumberedShape
numbered_shape zero cursors list = None
numbered_shape (suc height) cursors list =
    Some (record { height = height; cursors = cursors; list = list })

-- the shape in a place of the table
abbrev pub shape_in : Cell → Option NumberedShape
shape_in c = numbered_shape c.height c.cursors c.list

-- the shape that is known at the address
abbrev pub numbered_at : List (Option NumberedShape) → ℕ → Option NumberedShape
numbered_at shapes a = slice_index_or shapes a None

-- the shape itself
abbrev pub shape_of : List (List TryHandler) → NumberedShape → Shape
shape_of lists s =
    record { height = s.height; cursors = s.cursors; handlers = list_at lists s.list }

abbrev pub known_of : List (List TryHandler) → Option NumberedShape → Option Shape
known_of lists None = None
known_of lists (Some s) = Some (shape_of lists s)

-- each shape that is known has the number of a list
abbrev pub AreNumbered : List (List TryHandler) → List (Option NumberedShape) → Type 0
AreNumbered lists [] = Unit {0}
AreNumbered lists (None ∷ shapes) = AreNumbered lists shapes
AreNumbered lists (Some s ∷ shapes) = (s.list ≤ length lists) × AreNumbered lists shapes

-- the state of the search, as the code has it
pub record Search : Type 0 where
  pub shapes : List (Option NumberedShape)
  pub waiting : List ℕ
  pub lists : List (List TryHandler)

abbrev pub state_of : Search → AnalysisState
state_of s = record { shapes = map (known_of s.lists) s.shapes; waiting = s.waiting }

-- the code returned this, with these lists, where the definition gives that
abbrev pub Leaves : List (List TryHandler) → Result NumberedShape Refusal → Result Shape Refusal
    → Type 0
Leaves lists (Ok s) found = found ≡ Ok (shape_of lists s)
Leaves lists (Err e) found = (e ≡ refusal.Memory) ⊎ (found ≡ Err e)
