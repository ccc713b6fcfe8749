-- Where a branch leads.
use Rattle.std.proofs.Common.{◌≡◌, ◌⊎◌, ℕ, [], ◌∷◌, Bool, true, false, cond, nat_lt, inl, inr}
use Rattle.grain_program.specs.Typing.{In}

-- the two addresses that a branch leads to
pub of_two : (t next b : ℕ) → (b ≡ t) ⊎ (b ≡ next) →
    In b (cond (nat_lt t next) (t ∷ next ∷ []) (next ∷ t ∷ []))
of_two t next b h = at (nat_lt t next) h where
  at : (q : Bool) → (b ≡ t) ⊎ (b ≡ next) → In b (cond q (t ∷ next ∷ []) (next ∷ t ∷ []))
  at true (inl e) = inl e
  at true (inr e) = inr (inl e)
  at false (inl e) = inr (inl e)
  at false (inr e) = inl e
