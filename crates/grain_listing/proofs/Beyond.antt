-- A write after a list's end.
use Rattle.std.proofs.Common.{◌≡◌, ℕ, zero, suc, ◌≤◌, List, [], ◌∷◌, length, refl, ap, arith, slice_set}

pub set_beyond : (s : List ℕ) (i v : ℕ) → length s ≤ i → s ≡ slice_set s i v
set_beyond [] i v h = refl
set_beyond (x ∷ s) zero v h = absurd (omega arith)
set_beyond (x ∷ s) (suc i) v h = ap (λ l. x ∷ l) (set_beyond s i v (omega arith))
