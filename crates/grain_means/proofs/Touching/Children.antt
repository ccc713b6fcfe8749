-- Where an index or a name leads further down, something stands.
use Rattle.std.proofs.Common.{◌≡◌, ◌<◌, ◌-◌, ◌+◌, ◌∙◌, ℕ, zero, suc, ℤ, pos, negsuc, List, [], ◌∷◌, ◌++◌, Bool, true, false, Option, Some, None, Result, Ok, Err, length, is_some, refl, sym, ap, arith, append_assoc}
use Rattle.std.specs.Prelude.{nat_lt, slice_get, if◌then◌else◌}
use Rattle.std.specs.Str.{chars}
use Rattle.std.proofs.lemmas.Bool.{ltb-true}
use Rattle.grain_value.specs.Locating.{entry_index, locate, located_among, located_key, or_bounds, spot_at}
use Rattle.grain_value.specs.Maps.{Entries, entry_at}
use Rattle.grain_value.specs.Paths.{child, element, keyed}
use Rattle.grain_value.specs.Tree.{Tree}
use Rattle.grain_value.specs.View.{tree, value_of}
use Rattle.grain_value.specs.laws.PathSteps.{at-step, child-array, child-dict}
use Rattle.grain_value.specs.laws.Same.{tree-value_of}
use Rattle.grain_value.specs.declared.values.Dynamic.{Dynamic}
use Rattle.grain_value.specs.declared.values.Dynamic.TheVariants as dynamic
use Rattle.grain_value.specs.declared.values.Held.{Held}
use Rattle.grain_value.specs.declared.values.locating.Spot.{Spot}
use Rattle.grain_value.specs.declared.values.locating.Spot.TheVariants as spot
use Rattle.grain_value.specs.declared.values.paths.PathStep.{PathStep}
use Rattle.grain_value.specs.declared.values.paths.PathStep.TheVariants.{Index, Key}
use Rattle.grain_value.specs.declared.values.value_faults.ValueFault.{ValueFault}
use Rattle.grain_value.specs.declared.values.value_faults.ValueFault.TheVariants as fault
use Rattle.grain_means.specs.Places.{along, deeper, look, or_unit}
use Rattle.grain_means.specs.Rules.{placed, world_place}
use Rattle.grain_means.specs.Walks.{key_of}
use Rattle.grain_means.specs.Worlds.{Place}
use Rattle.grain_means.specs.lemmas.PlaceLaws.{along-further, ok-along}
use Rattle.grain_means.proofs.Touching.Writes.{Found}

-- something stands one step down
abbrev pub HasChild : PathStep → Dynamic → Type 0
HasChild e d = (t : Tree) × (child e (tree d) ≡ Ok t)

test_index : (b : Bool) (n j k : ℕ) → (b ≡ true → j < n) →
    (if b then Some j else None) ≡ Some k → k < n
test_index true n j k h e = let same : j ≡ k = cc in omega (arith, h refl, same)
test_index false n j k h e = absurd cc

index_within : (n : ℕ) (z : ℤ) (k : ℕ) → entry_index n z ≡ Some k → k < n
index_within n (pos i) k e = test_index (nat_lt i n) n i k (λ h. ltb-true i n h) e
index_within n (negsuc i) k e =
    test_index (nat_lt i n) n (n - (i + 1)) k (λ h. omega (arith, ltb-true i n h)) e

bounds_ok : (n : ℕ) (z : ℤ) (o : Option ℕ) (k : ℕ) → or_bounds n z o ≡ Ok k → o ≡ Some k
bounds_ok n z (Some j) k e = cc
bounds_ok n z None k e = absurd cc

among_within : (n : ℕ) (v : Dynamic) (k : ℕ) → located_among n v ≡ Ok k → k < n
among_within n (dynamic.Int z) k e = index_within n z k (bounds_ok n z (entry_index n z) k e)
among_within n v k e = absurd cc

get_some : (ts : List Tree) (k : ℕ) → k < length ts → (t : Tree) × (slice_get ts k ≡ Some t)
get_some [] k h = absurd (omega (arith, h))
get_some (t ∷ ts) zero h = (t, refl)
get_some (t ∷ ts) (suc k) h = get_some ts k (omega (arith, h))

item_of : (r : Result ℕ ValueFault) (k : ℕ) → spot_at spot.Item r ≡ Ok (spot.Item k) → r ≡ Ok k
item_of (Ok j) k e = let same : j ≡ k = cc in ap (λ (i : ℕ). Ok i) same
item_of (Err x) k e = absurd cc

-- an element is no byte, no character and no bit
module _ (f : ℕ → Spot) (item : (j k : ℕ) → f j ≡ spot.Item k → ⊥) (key : (j : ℕ) → f j ≡ spot.Key → ⊥)
  where
    no_item : (r : Result ℕ ValueFault) (k : ℕ) → spot_at f r ≡ Ok (spot.Item k) → ⊥
    no_item (Ok j) k e = let same : f j ≡ spot.Item k = cc in item j k same
    no_item (Err x) k e = cc

    no_key : (r : Result ℕ ValueFault) → spot_at f r ≡ Ok spot.Key → ⊥
    no_key (Ok j) e = let same : f j ≡ spot.Key = cc in key j same
    no_key (Err x) e = cc

key_or : (b : Bool) (k : ℕ) → (if b then Ok spot.Key else Err fault.NoKey) ≡ Ok (spot.Item k) → ⊥
key_or true k e = cc
key_or false k e = cc

key_no_item : (es : Entries) (v : Dynamic) (k : ℕ) → located_key es v ≡ Ok (spot.Item k) → ⊥
key_no_item es (dynamic.Text s) k e = key_or (is_some (entry_at s es)) k e
key_no_item es v k e = cc

pub item_child : (d v : Dynamic) (k : ℕ) → locate d v ≡ Ok (spot.Item k) → HasChild (Index k) d
item_child (dynamic.Array ts) v k e =
    let got = get_some ts k
    (among_within (length ts) v k (item_of (located_among (length ts) v) k e)) in
    (got.0, child-array ts k ∙ ap (λ (o : Option Tree). element o (length ts) k) got.1)
item_child (dynamic.Blob s) v k e =
    absurd (no_item spot.Byte (λ j i x. cc) (λ j x. cc) (located_among (length s) v) k e)
item_child (dynamic.Text s) v k e =
    absurd (no_item spot.Character (λ j i x. cc) (λ j x. cc) (located_among (length (chars s)) v) k e)
item_child (dynamic.Int n) v k e =
    absurd (no_item spot.Bit (λ j i x. cc) (λ j x. cc) (located_among 64 v) k e)
item_child (dynamic.Map es) v k e = absurd (key_no_item es v k e)
item_child d v k e = absurd cc

pub entry_child : (es : Entries) (k : List ℕ) (t : Tree) → entry_at k es ≡ Some t →
    HasChild (Key k) (dynamic.Map es)
entry_child es k t e = (t, child-dict es k ∙ ap keyed e)

is_there : (b : Bool) → (if b then Ok spot.Key else Err fault.NoKey) ≡ Ok spot.Key → b ≡ true
is_there true e = refl
is_there false e = absurd cc

some_there : (o : Option Tree) → is_some o ≡ true → (t : Tree) × (o ≡ Some t)
some_there (Some t) e = (t, refl)
some_there None e = absurd cc

key_found : (es : Entries) (v : Dynamic) → located_key es v ≡ Ok spot.Key →
    HasChild (Key (key_of v)) (dynamic.Map es)
key_found es (dynamic.Text s) e =
    let got = some_there (entry_at s es) (is_there (is_some (entry_at s es)) e) in
    entry_child es s got.0 got.1
key_found es v e = absurd cc

pub key_child : (d v : Dynamic) → locate d v ≡ Ok spot.Key → HasChild (Key (key_of v)) d
key_child (dynamic.Array ts) v e =
    absurd (no_key_item (located_among (length ts) v) e) where
      no_key_item : (r : Result ℕ ValueFault) → spot_at spot.Item r ≡ Ok spot.Key → ⊥
      no_key_item (Ok j) e = cc
      no_key_item (Err x) e = cc
key_child (dynamic.Blob s) v e =
    absurd (no_key spot.Byte (λ j i x. cc) (λ j x. cc) (located_among (length s) v) e)
key_child (dynamic.Text s) v e =
    absurd (no_key spot.Character (λ j i x. cc) (λ j x. cc) (located_among (length (chars s)) v) e)
key_child (dynamic.Int n) v e =
    absurd (no_key spot.Bit (λ j i x. cc) (λ j x. cc) (located_among 64 v) e)
key_child (dynamic.Map es) v e = key_found es v e
key_child d v e = absurd cc

-- so that the place further down is there
child_along : (path : List PathStep) (e : PathStep) (o : Option Held) (g : Held) (t : Tree) →
    along path o ≡ Some g → child e (tree g.value) ≡ Ok t →
    along (path ++ e ∷ []) o ≡ Some (record g { value = value_of t })
child_along path e None g t is down = absurd cc
child_along path e (Some h) g t is down =
    along-further path (e ∷ []) h g is
    ∙ ok-along (e ∷ []) g (value_of t)
    (at-step e [] (tree g.value) t down ∙ ap (λ (c : Tree). Ok c) (sym (tree-value_of t)))

pub found_deeper : (p : Place) (n : ℕ) (rs : List Held) (q : Place) (e : PathStep) →
    Found rs (placed p n q) → HasChild e (look rs (placed p n q)).value →
    Found rs (placed p n (deeper q e))
found_deeper p n rs q e found below = at q.root found below where
  at : (i : ℕ) → Found rs (world_place p n i q.path) →
      HasChild e (look rs (world_place p n i q.path)).value →
      Found rs (world_place p n i (q.path ++ e ∷ []))
  at zero (h, is) below =
      let down : child e (tree h.value) ≡ Ok below.0 =
      ap (λ (o : Option Held). child e (tree (or_unit o).value)) (sym is) ∙ below.1 in (
        record h { value = value_of below.0 },
        ap (λ (l : List PathStep). along l (slice_get rs p.root))
            (sym (append_assoc p.path q.path (e ∷ [])))
            ∙ child_along (p.path ++ q.path) e (slice_get rs p.root) h below.0 is down,
      )
  at (suc i) (h, is) below =
      let down : child e (tree h.value) ≡ Ok below.0 =
      ap (λ (o : Option Held). child e (tree (or_unit o).value)) (sym is) ∙ below.1 in (
        record h { value = value_of below.0 },
        child_along q.path e (slice_get rs (n + i)) h below.0 is down,
      )
