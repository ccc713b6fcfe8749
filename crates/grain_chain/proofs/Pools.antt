-- Entries of a pool, and past its end.
use Rattle.std.proofs.Common.{◌≡◌, ℕ, zero, suc, List, [], ◌∷◌, Some, None, slice_index_or, refl, subst}
use Rattle.std.specs.Prelude.{slice_get}
use Rattle.std.specs.List.{AllByRecursion}

pub past : {A : Type 0} (xs : List A) (i : ℕ) (d : A) → None ≡ slice_get xs i →
    d ≡ slice_index_or xs i d
past [] i d h = refl
past (x ∷ xs) zero d h = cc
past (x ∷ xs) (suc i) d h = past xs i d h

pub entry : {A : Type 0} (xs : List A) (i : ℕ) (d a : A) → Some a ≡ slice_get xs i →
    a ≡ slice_index_or xs i d
entry [] i d a h = cc
entry (x ∷ xs) zero d a h = let e : a ≡ x = cc in e
entry (x ∷ xs) (suc i) d a h = entry xs i d a h

-- what is so of each entry, and of what is given past the end, is so of what is given
pub of_each : {A : Type 0} (P : A → Type 0) (xs : List A) (i : ℕ) (d : A) →
    ((j : ℕ) (a : A) → slice_get xs j ≡ Some a → P a) → P d → P (slice_index_or xs i d)
of_each P [] i d each none = none
of_each P (x ∷ xs) zero d each none = each zero x refl
of_each P (x ∷ xs) (suc i) d each none = of_each P xs i d (λ j a h. each (suc j) a h) none

-- what is so of each is so of one
pub one_of_each : {A : Type 0} (P : A → Type 0) (xs : List A) (i : ℕ) (a : A) → AllByRecursion P xs →
    slice_get xs i ≡ Some a → P a
one_of_each P [] i a each h = cc
one_of_each P (x ∷ xs) zero a each h = let e : x ≡ a = cc in subst P e each.0
one_of_each P (x ∷ xs) (suc i) a each h = one_of_each P xs i a each.1 h
