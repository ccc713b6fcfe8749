-- What a frame writes is inside its `this`: its place is there, and all else of its root is as it was.
use Rattle.std.proofs.Common.{◌≡◌, ◌≤◌, ◌<◌, ◌⊎◌, ◌∙◌, ℕ, zero, suc, List, [], ◌∷◌, ◌++◌, Option, Some, None, length, refl, sym, ap, inl, inr, arith, length-append}
use Rattle.std.proofs.lemmas.List.{length-take}
use Rattle.std.proofs.lemmas.Option.{slice_get_within}
use Rattle.std.specs.Prelude.{slice_get, slice_set}
use Rattle.grain_value.specs.Paths.{put_value}
use Rattle.grain_value.specs.declared.values.Dynamic.{Dynamic}
use Rattle.grain_value.specs.declared.values.Held.{Held}
use Rattle.grain_value.specs.declared.values.paths.PathStep.{PathStep}
use Rattle.grain_means.specs.Places.{along, find, or_unit, put, put_held}
use Rattle.grain_means.specs.Worlds.{Place}
use Rattle.grain_means.specs.lemmas.PlaceLaws.{along-put, find-put, get-set, length-put, put-again, put-along, put-deeper}
use Rattle.grain_means.specs.lemmas.PlaceLaws as place
use Rattle.grain_means.proofs.Touching.Beside.{get_before, get_below, get_other, root_beside, same_list}
use Rattle.grain_means.proofs.Touching.Writes.{Bound, May, Stands, Wrote, same, set, added, cut}

same_or_not : (i j : ℕ) → (i ≡ j) ⊎ (i ≡ j → ⊥)
same_or_not zero zero = inl refl
same_or_not zero (suc j) = inr (λ e. absurd (omega (arith, e)))
same_or_not (suc i) zero = inr (λ e. absurd (omega (arith, e)))
same_or_not (suc i) (suc j) = by (same_or_not i j) where
  by : (i ≡ j) ⊎ (i ≡ j → ⊥) → (suc i ≡ suc j) ⊎ (suc i ≡ suc j → ⊥)
  by (inl e) = inl (ap suc e)
  by (inr apart) = inr (λ e. apart (omega (arith, e)))

-- the roots are those that were, with another value at the place, and that stands there
abbrev pub Changed : List Held → List Held → Place → Held → Type 0
Changed old now p h =
    (u : Dynamic) × (now ≡ put old p u) × (find now p ≡ Some (record h { value = u }))

module _ (old : List Held) (p : Place) (h : Held) (found : find old p ≡ Some h) where
  -- the root of the place, in which the value is
  abbrev root : Held
  root = or_unit (slice_get old p.root)

  there : slice_get old p.root ≡ Some root
  there = place.there old p h found

  within : along p.path (Some root) ≡ Some h
  within = place.inside old p h found

  low : p.root < length old
  low = slice_get_within old p.root root there

  abbrev Holds : List Held → Dynamic → Type 0
  Holds now u = slice_get now p.root ≡ Some (put_held p.path u root)

  -- a write further inside
  set_inside : (now : List Held) (u : Dynamic) → Holds now u → (i : ℕ) (l path : List PathStep)
      (v : Dynamic) → i ≡ p.root → l ≡ p.path ++ path →
      slice_get (slice_set now i (put_held l v (or_unit (slice_get now i)))) p.root
      ≡ Some (put_held p.path (put_value path v u) root)
  set_inside now u holds i l path v e is =
      let r : Held = put_held p.path u root in
      ap (λ (k : ℕ). slice_get (slice_set now k (put_held l v (or_unit (slice_get now k)))) p.root) e
      ∙ ap (λ (k : List PathStep). slice_get (slice_set now p.root
      (put_held k v (or_unit (slice_get now p.root)))) p.root) is
      ∙ ap (λ (o : Option Held). slice_get (slice_set now p.root
      (put_held (p.path ++ path) v (or_unit o))) p.root) holds
      ∙ get-set now p.root r (put_held (p.path ++ path) v r) holds
      ∙ ap (λ (x : Held). Some x) (put-deeper p.path path v r (record root { value = u })
      (along-put p.path root h u within)
      ∙ put-again p.path root h u (put_value path v u) within)

  stays_inside : {now : List Held} → Wrote (Some p) (length old) old now →
      (length old ≤ length now) × ((u : Dynamic) × Holds now u)
  stays_inside same =
      (omega arith, (h.value, there ∙ ap (λ (x : Held). Some x) (sym (put-along p.path root h within))))
  stays_inside (set {now = now} q v may w) =
      let i = stays_inside w in by i.0 i.1.0 i.1.1 may where
        by : length old ≤ length now → (u : Dynamic) → Holds now u → May (Some p) (length old) q →
            (length old ≤ length (put now q v)) × ((u : Dynamic) × Holds (put now q v) u)
        by more u holds (inl past) = (
          omega (arith, more, length-put now q v),
          (
            u,
            get_other now q.root p.root (put_held q.path v (or_unit (slice_get now q.root)))
                (λ e. absurd (omega (arith, low, past, e))) ∙ holds,
          ),
        )
        by more u holds (inr is) = (
          omega (arith, more, length-put now q v),
          (put_value is.1.0 v u, set_inside now u holds q.root q.path is.1.0 v is.0 is.1.1),
        )
  stays_inside (added {now = now} g w) =
      let i = stays_inside w in (
        omega (arith, i.0, length-append now (g ∷ [])),
        (i.1.0, get_before now (g ∷ []) p.root (omega (arith, low, i.0)) ∙ i.1.1),
      )
  stays_inside (cut {now = now} n past w) =
      let i = stays_inside w in (
        omega (arith, i.0, past, length-take n now),
        (i.1.0, get_below now p.root n (omega (arith, low, past)) ∙ i.1.1),
      )

  pub changed : (now : List Held) → Stands (Some p) old now → Changed old now p h
  changed now stands =
      let i = stays_inside stands.0 in
      let u : Dynamic = i.1.0 in
      let is : now ≡ put old p u = same_list now (put old p u)
      (omega (arith, stands.1, length-put old p u)) (λ j below. at_root u i.1.1 j (same_or_not j p.root))
      in
      (u, is, ap (λ (rs : List Held). find rs p) is ∙ find-put old p h u found) where
        at_root : (u : Dynamic) → Holds now u → (j : ℕ) → (j ≡ p.root) ⊎ (j ≡ p.root → ⊥) →
            slice_get now j ≡ slice_get (put old p u) j
        at_root u holds j (inl e) =
            ap (slice_get now) e ∙ holds
            ∙ sym (get-set old p.root root (put_held p.path u root) there)
            ∙ ap (slice_get (put old p u)) (sym e)
        at_root u holds j (inr apart) =
            root_beside (Some p) old now stands j apart
            ∙ sym (get_other old p.root j (put_held p.path u root) apart)

-- the `this` of a frame is there as long as it runs
pub bound_on : (t : Option Place) (old now : List Held) → Stands t old now → Bound t old → Bound t now
bound_on None old now stands given = tt
bound_on (Some p) old now stands (h, found) =
    let c : Changed old now p h = changed old p h found now stands in
    (record h { value = c.0 }, c.2)
