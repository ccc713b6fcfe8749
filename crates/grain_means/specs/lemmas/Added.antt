-- A walk whose first root is added to those of the world: its roots are the last ones of the world, and
-- its places are theirs.
use Rattle.std.proofs.Common.{◌≡◌, ℕ, zero, suc, ◌+◌, List, [], ◌∷◌, ◌++◌, Option, length, take, refl, ap, sym, ◌∙◌, arith}
use Rattle.std.specs.Prelude.{slice_get, slice_set}
use Rattle.grain_value.specs.declared.values.Dynamic.{Dynamic}
use Rattle.grain_value.specs.declared.values.Held.{Held}
use Rattle.grain_value.specs.declared.values.paths.PathStep.{PathStep}
use Rattle.grain_value.specs.laws.Same.{value_of-tree}
use Rattle.grain_means.specs.Worlds.{Place}
use Rattle.grain_means.specs.Places.{along, find, look, or_unit, put, put_held}
use Rattle.grain_means.specs.Rules.Chains.{new_root}
use Rattle.grain_means.specs.Rules.InWorld.{placed, world_place}
use Rattle.grain_means.specs.lemmas.PlaceLaws.{flagged, get-after, set-after, take-after}
use Rattle.grain_means.specs.lemmas.Spreading.{spread}

append-append : {A : Type 0} (xs ys zs : List A) → (xs ++ ys) ++ zs ≡ xs ++ (ys ++ zs)
append-append [] ys zs = refl
append-append (x ∷ xs) ys zs = ap (λ l. x ∷ l) (append-append xs ys zs)

module _ (rs us : List Held) where
  find-by : (i : ℕ) (path : List PathStep) →
      find (rs ++ us) (world_place (new_root rs) (length rs + 1) i path)
      ≡ along path (slice_get us i)
  find-by zero path = ap (along path) (get-after rs us (length rs) 0 (omega arith))
  find-by (suc i) path =
      ap (along path) (get-after rs us (length rs + 1 + i) (suc i) (omega arith))

  pub find-added : (q : Place) →
      find (rs ++ us) (placed (new_root rs) (length rs + 1) q) ≡ find us q
  find-added q = find-by q.root q.path

  pub look-added : (q : Place) →
      look (rs ++ us) (placed (new_root rs) (length rs + 1) q) ≡ look us q
  look-added q = ap or_unit (find-added q)

  put-at : (k i : ℕ) (path : List PathStep) (v : Dynamic) → k ≡ length rs + i →
      slice_set (rs ++ us) k (put_held path v (or_unit (slice_get (rs ++ us) k)))
      ≡ rs ++ slice_set us i (put_held path v (or_unit (slice_get us i)))
  put-at k i path v e =
      ap (λ (o : Option Held). slice_set (rs ++ us) k (put_held path v (or_unit o)))
      (get-after rs us k i e)
      ∙ set-after rs us k i (put_held path v (or_unit (slice_get us i))) e

  put-by : (i : ℕ) (path : List PathStep) (v : Dynamic) →
      put (rs ++ us) (world_place (new_root rs) (length rs + 1) i path) v
      ≡ rs ++ put us (record { root = i; path = path }) v
  put-by zero path v = put-at (length rs) 0 path v (omega arith)
  put-by (suc i) path v = put-at (length rs + 1 + i) (suc i) path v (omega arith)

  pub put-added : (q : Place) (v : Dynamic) →
      put (rs ++ us) (placed (new_root rs) (length rs + 1) q) v ≡ rs ++ put us q v
  put-added q v = put-by q.root q.path v

  pub take-added : (i : ℕ) → take (length rs + 1 + i) (rs ++ us) ≡ rs ++ take (suc i) us
  take-added i = take-after rs us (length rs + 1 + i) (suc i) (omega arith)

  pub add-added : (r : Held) → (rs ++ us) ++ r ∷ [] ≡ rs ++ (us ++ r ∷ [])
  add-added r = append-append rs us (r ∷ [])

-- the world's roots with such a walk's
pub spread-added : (rs : List Held) (h r : Held) (us : List Held) → r.read_only ≡ h.read_only →
    spread (rs ++ h ∷ []) (new_root rs) (r ∷ us) ≡ rs ++ r ∷ us
spread-added rs h r us same =
    ap (λ (l : List Held). l ++ us)
    (put-at rs (h ∷ []) (length rs) 0 [] r.value (omega arith)
    ∙ ap (λ (v : Dynamic). rs ++ flagged h.read_only v ∷ []) (value_of-tree r.value)
    ∙ ap (λ b. rs ++ flagged b r.value ∷ []) (sym same))
    ∙ append-append rs (r ∷ []) us
