-- A shape comes to addresses one after the other, as the code has it.
use Rattle.std.proofs.Common.{◌≡◌, ℕ, ◌<◌, List, length, map}
use Rattle.std.specs.List.{AllByRecursion}
use Rattle.grain_program.specs.declared.verifier.shapes.NumberedShape.{NumberedShape}
use Rattle.grain_program.specs.Shapes.{Shape, Arrival, arrival}
use Rattle.grain_program.specs.Numbered.{shape_of, Search, state_of}
use Rattle.grain_program.specs.Typing.{arrive_all}

abbrev pub at_all : Shape → List ℕ → List Arrival
at_all s targets = map (λ a. arrival a s) targets

-- the shape has come so far: what is left gives what all of it gives
pub record Arriving (f : Search) (s : NumberedShape) (targets left : List ℕ) (g : Search)
    : Type 0 where
  pub is : arrive_all (at_all (shape_of f.lists s) left) (state_of g)
      ≡ arrive_all (at_all (shape_of f.lists s) targets) (state_of f)
  pub lists : g.lists ≡ f.lists
  pub long : length g.shapes ≡ length f.shapes
  pub within : AllByRecursion (λ b. b < length f.shapes) left
