-- The last two operands.
use Rattle.std.proofs.Common.{◌≡◌, ◌≤◌, ◌-◌, ℕ, ℤ, suc, Some, List, [], ◌∷◌, length, take, refl, arith}
use Rattle.grain_value.specs.Cells.{flat}
use Rattle.grain_value.specs.declared.stores.Cell.{Cell}
use Rattle.grain_value.specs.declared.values.Dynamic.{Dynamic}
use Rattle.grain_value.specs.declared.values.Dynamic.TheVariants as dynamic
use Rattle.grain_value.specs.declared.values.Held.{Held}
use Rattle.grain_ops.specs.Agreement.{AreIntegers}
use Rattle.grain_means.specs.Rules.{flat_all}
use Rattle.grain_value.specs.Operands.{top, under, arguments}

top_behind : (x y : Held) (ys zs : List Held) → zs ≡ y ∷ ys → top (x ∷ zs) ≡ top zs
top_behind x y ys zs e = rw e refl

-- integers are read as they are
flat_int : (cells : List Cell) (v : Dynamic) (x : ℤ) → v ≡ dynamic.Int x → flat cells v ≡ Some v
flat_int cells v x e = rw e refl

pub two_read : (cells : List Cell) (h k : Held) → AreIntegers h.value k.value →
    flat_all cells (h ∷ k ∷ []) ≡ Some (h ∷ k ∷ [])
two_read cells h k (x, y, first, second) =
    rw (flat_int cells h.value x first, flat_int cells k.value y second) refl

-- they are the last but one, and the last
pub arguments_two : (xs : List Held) → 2 ≤ length xs → arguments 2 xs ≡ top (under 1 xs) ∷
    top xs ∷ []
arguments_two [] le = absurd (omega (arith, le))
arguments_two (x ∷ []) le = absurd (omega (arith, le))
arguments_two (x ∷ y ∷ []) le = refl
arguments_two (x ∷ y ∷ z ∷ zs) le =
    let l : ℕ = length (y ∷ z ∷ zs) in
    let far : suc l - 2 ≡ suc (l - 2) = omega arith in
    let near : suc l - 1 ≡ suc (l - 1) = omega arith in
    let first : l - 1 ≡ suc (length zs) = omega arith in
    let rest = arguments_two (y ∷ z ∷ zs) (omega arith) in
    rw (
      far,
      near,
      top_behind x y (take (length zs) (z ∷ zs)) (take (l - 1) (y ∷ z ∷ zs))
          (rw first refl),
    ) rest
