-- The entries of a scope, written.
use Rattle.std.proofs.Common.{◌≡◌, ◌<◌, ℕ, zero, suc, List, [], ◌∷◌, Some, length, refl, ap, subst, arith}
use Rattle.grain_value.specs.Scopes.{set_held}
use Rattle.grain_value.specs.declared.scopes.Entry.{Entry}
use Rattle.grain_value.specs.declared.values.Held.{Held}
use Rattle.grain_means.specs.Rules.{held_at}

-- an entry that is written with what it holds is as it was
pub same_entry : (es : List Entry) (i : ℕ) (h : Held) → held_at es i ≡ Some h → set_held es i h ≡ es
same_entry [] i h is = refl
same_entry (e ∷ es) zero h is =
    let same : e.held ≡ h = cc in
    subst (λ (x : Held). (record e { held = x } ∷ es) ≡ e ∷ es) same refl
same_entry (e ∷ es) (suc i) h is = ap (λ (l : List Entry). e ∷ l) (same_entry es i h is)

-- of two writes the second counts
pub entry_twice : (es : List Entry) (i : ℕ) (a b : Held) →
    set_held (set_held es i a) i b ≡ set_held es i b
entry_twice [] i a b = refl
entry_twice (e ∷ es) zero a b = refl
entry_twice (e ∷ es) (suc i) a b = ap (λ (l : List Entry). e ∷ l) (entry_twice es i a b)

-- an entry that holds something is within its scope
pub is_within : (es : List Entry) (i : ℕ) (h : Held) → held_at es i ≡ Some h → i < length es
is_within [] i h is = absurd cc
is_within (e ∷ es) zero h is = omega arith
is_within (e ∷ es) (suc i) h is =
    let rest : i < length es = is_within es i h is in omega (arith, rest)
