-- The roots of a walk among those of the world: its first root stands at a place, and the others are
-- the last ones.
use Rattle.std.proofs.Common.{◌≡◌, ℕ, zero, suc, ◌+◌, List, [], ◌∷◌, ◌++◌, Some, Bool, length, take, refl, ap, sym, ◌∙◌, arith}
use Rattle.std.specs.Prelude.{slice_get, slice_set}
use Rattle.grain_value.specs.declared.values.Dynamic.{Dynamic}
use Rattle.grain_value.specs.declared.values.Held.{Held}
use Rattle.grain_value.specs.Paths.{put_value}
use Rattle.grain_value.specs.declared.values.paths.PathStep.{PathStep}
use Rattle.grain_means.specs.Worlds.{Place}
use Rattle.grain_means.specs.Places.{or_unit, along, find, put, put_held}
use Rattle.grain_means.specs.Rules.InWorld.{world_place, placed}
use Rattle.grain_means.specs.lemmas.PlaceLaws.{root, there, inside, flag-here, flagged, along-put, along-further, put-deeper, put-twice, get-set, get-front, set-front, get-after, set-after, take-after, length-put}

abbrev pub spread : List Held → Place → List Held → List Held
spread roots p [] = roots
spread roots p (r ∷ rs) = put roots p r.value ++ rs

-- the walk's first root is there, and has the flag of its place
abbrev pub Rooted : Bool → List Held → Type 0
Rooted b [] = ⊥
Rooted b (r ∷ rs) = r.read_only ≡ b

module _ (bs : List Held) (p : Place) (g : Held) (e : find bs p ≡ Some g) where
  -- the first root, as it stands in the world
  own-root : (r : Held) → r.read_only ≡ g.read_only →
      along p.path (Some (put_held p.path r.value (root bs p g e))) ≡ Some r
  own-root r same =
      along-put p.path (root bs p g e) g r.value (inside bs p g e)
      ∙ ap (λ b. Some (flagged b r.value)) (flag-here bs p g e ∙ sym same)

  find-own : (r : Held) (rs : List Held) (i : ℕ) (path : List PathStep) →
      r.read_only ≡ g.read_only →
      find (put bs p r.value ++ rs) (world_place p (length bs) i path)
      ≡ along path (slice_get (r ∷ rs) i)
  find-own r rs zero path same =
      let d = root bs p g e in
      let x : Held = put_held p.path r.value d in
      ap (along (p.path ++ path))
      (get-front (put bs p r.value) rs p.root x (get-set bs p.root d x (there bs p g e)))
      ∙ along-further p.path path x r (own-root r same)
  find-own r rs (suc k) path same =
      ap (along path)
      (get-after (put bs p r.value) rs (length bs + k) k (omega (arith, length-put bs p r.value)))

  pub find-spread : (us : List Held) (q : Place) → Rooted g.read_only us →
      find (spread bs p us) (placed p (length bs) q) ≡ find us q
  find-spread [] q h = absurd h
  find-spread (r ∷ rs) q h = find-own r rs q.root q.path h

  put-own : (r : Held) (rs : List Held) (i : ℕ) (path : List PathStep) (v : Dynamic) →
      r.read_only ≡ g.read_only →
      put (put bs p r.value ++ rs) (world_place p (length bs) i path) v
      ≡ spread bs p (put (r ∷ rs) (record { root = i; path = path }) v)
  put-own r rs zero path v same =
      let d = root bs p g e in
      let x : Held = put_held p.path r.value d in
      let got = get-set bs p.root d x (there bs p g e) in
      let y : Dynamic = put_value path v r.value in
      ap (λ o. slice_set (put bs p r.value ++ rs) p.root (put_held (p.path ++ path) v (or_unit o)))
      (get-front (put bs p r.value) rs p.root x got)
      ∙ set-front (put bs p r.value) rs p.root x (put_held (p.path ++ path) v x) got
      ∙ ap (λ z. slice_set (put bs p r.value) p.root z ++ rs)
      (put-deeper p.path path v x r (own-root r same))
      ∙ ap (λ o. slice_set (put bs p r.value) p.root (put_held p.path y (or_unit o)) ++ rs) (sym got)
      ∙ ap (λ l. l ++ rs) (put-twice bs p g r.value y e)
  put-own r rs (suc k) path v same =
      let far : length bs + k ≡ length (put bs p r.value) + k =
      omega (arith, length-put bs p r.value) in
      ap (λ o. slice_set (put bs p r.value ++ rs) (length bs + k) (put_held path v (or_unit o)))
      (get-after (put bs p r.value) rs (length bs + k) k far)
      ∙ set-after (put bs p r.value) rs (length bs + k) k
      (put_held path v (or_unit (slice_get rs k))) far

  pub put-spread : (us : List Held) (q : Place) (v : Dynamic) → Rooted g.read_only us →
      put (spread bs p us) (placed p (length bs) q) v ≡ spread bs p (put us q v)
  put-spread [] q v h = absurd h
  put-spread (r ∷ rs) q v h = put-own r rs q.root q.path v h

pub drop-spread : (b : Bool) (bs : List Held) (p : Place) (us : List Held) (k : ℕ) → Rooted b us →
    take (length bs + k) (spread bs p us) ≡ spread bs p (take (suc k) us)
drop-spread b bs p [] k h = absurd h
drop-spread b bs p (r ∷ rs) k h =
    take-after (put bs p r.value) rs (length bs + k) k (omega (arith, length-put bs p r.value))

append-append : {A : Type 0} (xs ys zs : List A) → (xs ++ ys) ++ zs ≡ xs ++ (ys ++ zs)
append-append [] ys zs = refl
append-append (x ∷ xs) ys zs = ap (λ l. x ∷ l) (append-append xs ys zs)

pub add-spread : (b : Bool) (bs : List Held) (p : Place) (us : List Held) (r : Held) → Rooted b us →
    spread bs p us ++ r ∷ [] ≡ spread bs p (us ++ r ∷ [])
add-spread b bs p [] v h = absurd h
add-spread b bs p (r ∷ rs) v h = append-append (put bs p r.value) rs (v ∷ [])

-- the first root keeps its flag
set-rooted : (b : Bool) (i : ℕ) (r : Held) (rs : List Held) (path : List PathStep) (v : Dynamic) →
    r.read_only ≡ b →
    Rooted b (slice_set (r ∷ rs) i (put_held path v (or_unit (slice_get (r ∷ rs) i))))
set-rooted b zero r rs path v h = h
set-rooted b (suc i) r rs path v h = h

pub rooted-put : (b : Bool) (us : List Held) (q : Place) (v : Dynamic) → Rooted b us →
    Rooted b (put us q v)
rooted-put b [] q v h = absurd h
rooted-put b (r ∷ rs) q v h = set-rooted b q.root r rs q.path v h

pub rooted-add : (b : Bool) (us : List Held) (r : Held) → Rooted b us → Rooted b (us ++ r ∷ [])
rooted-add b [] v h = absurd h
rooted-add b (r ∷ rs) v h = h

pub rooted-take : (b : Bool) (us : List Held) (k : ℕ) → Rooted b us → Rooted b (take (suc k) us)
rooted-take b [] k h = absurd h
rooted-take b (r ∷ rs) k h = h
