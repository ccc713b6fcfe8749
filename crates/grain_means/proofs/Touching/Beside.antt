-- Roots beside the `this` of a frame stay as they were.
use Rattle.std.proofs.Common.{◌≡◌, ◌≤◌, ◌<◌, ◌⊎◌, ◌+◌, ◌∙◌, ℕ, zero, suc, List, [], ◌∷◌, ◌++◌, Option, Some, None, length, take, refl, sym, ap, inl, inr, arith, length-append}
use Rattle.std.proofs.lemmas.List.{length-take}
use Rattle.std.proofs.lemmas.Option.{slice_get_past}
use Rattle.std.specs.Prelude.{slice_get, slice_set}
use Rattle.grain_value.specs.declared.values.Held.{Held}
use Rattle.grain_means.specs.Places.{or_unit, put_held}
use Rattle.grain_means.specs.Worlds.{Place}
use Rattle.grain_means.specs.lemmas.PlaceLaws.{length-put}
use Rattle.grain_means.proofs.Touching.Writes.{May, Stands, Wrote, same, set, added, cut}

-- of a list
pub get_other : (xs : List Held) (i j : ℕ) (h : Held) → (j ≡ i → ⊥) →
    slice_get (slice_set xs i h) j ≡ slice_get xs j
get_other [] i j h apart = refl
get_other (x ∷ xs) zero zero h apart = elim (apart refl) [ ]
get_other (x ∷ xs) zero (suc j) h apart = refl
get_other (x ∷ xs) (suc i) zero h apart = refl
get_other (x ∷ xs) (suc i) (suc j) h apart = get_other xs i j h (λ e. apart (ap suc e))

pub get_before : (xs ys : List Held) (j : ℕ) → j < length xs → slice_get (xs ++ ys) j ≡ slice_get xs j
get_before [] ys j low = absurd (omega (arith, low))
get_before (x ∷ xs) ys zero low = refl
get_before (x ∷ xs) ys (suc j) low = get_before xs ys j (omega (arith, low))

pub get_below : (xs : List Held) (j n : ℕ) → j < n → slice_get (take n xs) j ≡ slice_get xs j
get_below xs j zero low = absurd (omega (arith, low))
get_below [] j (suc n) low = refl
get_below (x ∷ xs) zero (suc n) low = refl
get_below (x ∷ xs) (suc j) (suc n) low = get_below xs j n (omega (arith, low))

pub same_list : (xs ys : List Held) → length xs ≡ length ys →
    ((j : ℕ) → j < length ys → slice_get xs j ≡ slice_get ys j) → xs ≡ ys
same_list [] [] size at = refl
same_list [] (y ∷ ys) size at = absurd (omega (arith, size))
same_list (x ∷ xs) [] size at = absurd (omega (arith, size))
same_list (x ∷ xs) (y ∷ ys) size at =
    ap (λ (h : Held). h ∷ xs) (some_inj (at zero (omega arith)))
    ∙ ap (λ (l : List Held). y ∷ l) (same_list xs ys (omega (arith, size))
    (λ j low. at (suc j) (omega (arith, low)))) where
      some_inj : {a b : Held} → Some a ≡ Some b → a ≡ b
      some_inj e = cc

-- a root that is not the one of the frame's `this`
abbrev pub Beside : Option Place → ℕ → Type 0
Beside None j = Unit {0}
Beside (Some p) j = j ≡ p.root → ⊥

not_written : (t : Option Place) (size j : ℕ) (q : Place) → j < size → Beside t j → May t size q →
    j ≡ q.root → ⊥
not_written None size j q low beside past e = absurd (omega (arith, low, past, e))
not_written (Some p) size j q low beside (inl past) e = absurd (omega (arith, low, past, e))
not_written (Some p) size j q low beside (inr is) e = beside (e ∙ is.0)

-- it is as it was, if no fewer roots were ever there
pub stays_beside : (t : Option Place) (size j : ℕ) (old : List Held) → j < size → Beside t j →
    size ≤ length old → {now : List Held} → Wrote t size old now →
    (size ≤ length now) × (slice_get now j ≡ slice_get old j)
stays_beside t size j old low beside there same = (there, refl)
stays_beside t size j old low beside there (set {now = now} q v may h) =
    let i = stays_beside t size j old low beside there h in (
      omega (arith, i.0, length-put now q v),
      get_other now q.root j (put_held q.path v (or_unit (slice_get now q.root)))
          (not_written t size j q low beside may) ∙ i.1,
    )
stays_beside t size j old low beside there (added {now = now} g h) =
    let i = stays_beside t size j old low beside there h in (
      omega (arith, i.0, length-append now (g ∷ [])),
      get_before now (g ∷ []) j (omega (arith, low, i.0)) ∙ i.1,
    )
stays_beside t size j old low beside there (cut {now = now} n past h) =
    let i = stays_beside t size j old low beside there h in (
      omega (arith, i.0, past, length-take n now),
      get_below now j n (omega (arith, low, past)) ∙ i.1,
    )

below_or_past : (j n : ℕ) → (j < n) ⊎ (n ≤ j)
below_or_past j zero = inr (omega arith)
below_or_past zero (suc n) = inl (omega arith)
below_or_past (suc j) (suc n) = by (below_or_past j n) where
  by : (j < n) ⊎ (n ≤ j) → (suc j < suc n) ⊎ (suc n ≤ suc j)
  by (inl low) = inl (omega (arith, low))
  by (inr past) = inr (omega (arith, past))

-- roots beside the `this`
pub root_beside : (t : Option Place) (old now : List Held) → Stands t old now → (j : ℕ) →
    Beside t j → slice_get now j ≡ slice_get old j
root_beside t old now h j beside = by (below_or_past j (length old)) where
  by : (j < length old) ⊎ (length old ≤ j) → slice_get now j ≡ slice_get old j
  by (inl low) = (stays_beside t (length old) j old low beside (omega arith) h.0).1
  by (inr past) = slice_get_past now j (omega (arith, h.1, past)) ∙ sym (slice_get_past old j past)

-- without a `this` all are as they were
pub roots_kept : (old now : List Held) → Stands None old now → now ≡ old
roots_kept old now h = same_list now old h.1 (λ j low. root_beside None old now h j tt)

-- of roots of which the last is the `this` of a frame, those before it are as they were
pub before_this : (rs : List Held) (h : Held) (now : List Held) →
    Stands (Some (record { root = length rs; path = [] })) (rs ++ h ∷ []) now →
    take (length rs) now ≡ rs
before_this rs h now stands =
    let size : length now ≡ length rs + 1 = omega (arith, stands.1, length-append rs (h ∷ [])) in
    same_list (take (length rs) now) rs (omega (arith, size, length-take (length rs) now))
    (λ j low. get_below now j (length rs) low
    ∙ root_beside (Some (record { root = length rs; path = [] })) (rs ++ h ∷ []) now stands j
    (λ e. absurd (omega (arith, low, e))) ∙ get_before rs (h ∷ []) j low)
