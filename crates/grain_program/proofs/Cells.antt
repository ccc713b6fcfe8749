-- Shapes in the places of a table, and how many addresses have none.
use Rattle.std.proofs.Common.{◌≡◌, ℕ, zero, suc, ◌+◌, ◌<◌, List, [], ◌∷◌, length, map, replicate, get_or, Option, Some, None, refl, ap, ◌∙◌, add-one, arith}
use Rattle.std.proofs.Math.ListN.{set}
use Rattle.std.proofs.lemmas.List.{map-set}
use Rattle.grain_program.specs.declared.verifier.shapes.NumberedShape.{NumberedShape}
use Rattle.grain_program.specs.declared.verifier.shapes.Cell.{Cell}
use Rattle.grain_program.specs.Shapes.{Shape}
use Rattle.grain_program.specs.Numbered.{numbered_shape, shape_in}

abbrev empty : Cell
empty = record { height = 0; cursors = 0; list = 0 }

cells_none : (n : ℕ) → map shape_in (replicate n empty) ≡ replicate n None
cells_none zero = refl
cells_none (suc n) = ap (λ (l : List (Option NumberedShape)). None ∷ l) (cells_none n)

pub cells_new : (n : ℕ) (xs : List Cell)
    → xs ≡ replicate n (record { height = 0; cursors = 0; list = 0 })
    → map shape_in xs ≡ replicate n None
cells_new n xs e = ap (map shape_in) e ∙ cells_none n

pub cells_put : (xs : List Cell) (ys : List (Option NumberedShape)) (i : ℕ) (s : NumberedShape)
    → map shape_in xs ≡ ys
    → map shape_in (set xs i (record {
      height = s.height + 1;
      cursors = s.cursors;
      list = s.list;
    }))
    ≡ set ys i (Some s)
cells_put xs ys i s e =
    map-set shape_in xs i (record { height = s.height + 1; cursors = s.cursors; list = s.list })
    ∙ ap (λ (n : ℕ). set (map shape_in xs) i (numbered_shape n s.cursors s.list))
    (add-one s.height)
    ∙ ap (λ (l : List (Option NumberedShape)). set l i (Some s)) e

-- how many addresses have no shape
abbrev pub free : List (Option Shape) → ℕ
free [] = 0
free (None ∷ xs) = free xs + 1
free (Some s ∷ xs) = free xs

pub free_put : (xs : List (Option Shape)) (b : ℕ) (s : Shape) → b < length xs
    → get_or xs b None ≡ None → free (set xs b (Some s)) + 1 ≡ free xs
free_put [] b s lt e = absurd (omega arith)
free_put (None ∷ xs) zero s lt e = refl
free_put (Some t ∷ xs) zero s lt e = absurd cc
free_put (None ∷ xs) (suc b) s lt e = omega (arith, free_put xs b s (omega arith) e)
free_put (Some t ∷ xs) (suc b) s lt e = free_put xs b s (omega arith) e
