-- Lengths of scopes.
use Rattle.std.proofs.Common.{◌≡◌, ℕ, zero, suc, List, [], ◌∷◌, length, refl, ap}
use Rattle.grain_value.specs.declared.values.Held.{Held}
use Rattle.grain_value.specs.declared.scopes.Entry.{Entry}
use Rattle.grain_value.specs.Scopes.{set_held}

-- a write of an entry keeps the scope's length
pub length_set_held : (es : List Entry) (i : ℕ) (h : Held) → length (set_held es i h) ≡ length es
length_set_held [] i h = refl
length_set_held (e ∷ es) zero h = refl
length_set_held (e ∷ es) (suc i) h = ap (λ (n : ℕ). suc n) (length_set_held es i h)
