-- What is in an ascending list after a number is put in.
use Rattle.std.proofs.Common.{◌≡◌, ℕ, ◌+◌, ◌<◌, ◌≤◌, ◌⊎◌, List, [], ◌∷◌, length, refl, inl, inr, arith}
use Rattle.std.specs.Ordering.{nat_cmp, match_ordering, MatchOrdering}
use Rattle.std.specs.declared.cmp.Ordering.{Ordering}
use Rattle.std.specs.declared.cmp.Ordering.TheVariants.{Less, Equal, Greater}
use Rattle.std.specs.BTreeSet.{insert_key}
use Rattle.std.proofs.lemmas.Cmp.{ranked}
use Rattle.grain_program.specs.Typing.{In}

-- a fact of the list with the number in it, by where the number goes
by_place : (P : List ℕ → Type 0) (k x : ℕ) (xs : List ℕ) → (k < x → P (k ∷ x ∷ xs))
    → (k ≡ x → P (x ∷ xs)) → (x < k → P (x ∷ insert_key nat_cmp xs k))
    → P (insert_key nat_cmp (x ∷ xs) k)
by_place P k x xs below same above = at (nat_cmp k x) (ranked k x (nat_cmp k x) refl) where
  at : (o : Ordering) → MatchOrdering o (k < x) (k ≡ x) (x < k)
      → P (match_ordering o (k ∷ x ∷ xs) (x ∷ xs) (x ∷ insert_key nat_cmp xs k))
  at Less h = below h
  at Equal h = same h
  at Greater h = above h

pub new_in : (xs : List ℕ) (k : ℕ) → In k (insert_key nat_cmp xs k)
new_in [] k = inl refl
new_in (x ∷ xs) k = by_place (In k) k x xs (λ h. inl refl) (λ h. inl h) (λ h. inr (new_in xs k))

pub old_in : (xs : List ℕ) (k a : ℕ) → In a xs → In a (insert_key nat_cmp xs k)
old_in [] k a h = absurd h
old_in (x ∷ xs) k a h =
    by_place (In a) k x xs (λ _. inr h) (λ _. h) (λ _. one h (λ i. old_in xs k a i)) where
      one : (a ≡ x) ⊎ In a xs → (In a xs → In a (insert_key nat_cmp xs k))
          → In a (x ∷ insert_key nat_cmp xs k)
      one (inl e) more = inl e
      one (inr i) more = inr (more i)

pub new_or_old : (xs : List ℕ) (k a : ℕ) → In a (insert_key nat_cmp xs k) → (a ≡ k) ⊎ In a xs
new_or_old [] k a h = h
new_or_old (x ∷ xs) k a g =
    by_place (λ l. In a l → (a ≡ k) ⊎ In a (x ∷ xs)) k x xs (λ _ h. h) (λ _ h. inr h)
    (λ _ h. one h (λ i. new_or_old xs k a i)) g where
      two : (a ≡ k) ⊎ In a xs → (a ≡ k) ⊎ In a (x ∷ xs)
      two (inl e) = inl e
      two (inr j) = inr (inr j)

      one : (a ≡ x) ⊎ In a (insert_key nat_cmp xs k) → (In a (insert_key nat_cmp xs k)
          → (a ≡ k) ⊎ In a xs) → (a ≡ k) ⊎ In a (x ∷ xs)
      one (inl e) more = inr (inl e)
      one (inr i) more = two (more i)

pub one_longer : (xs : List ℕ) (k : ℕ) → length (insert_key nat_cmp xs k) ≤ length xs + 1
one_longer [] k = omega arith
one_longer (x ∷ xs) k = by_place (λ l. length l ≤ length (x ∷ xs) + 1) k x xs (λ _. omega arith)
    (λ _. omega arith) (λ _. omega (arith, one_longer xs k))
