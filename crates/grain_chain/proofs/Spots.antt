-- What an index names, and the way to it.
use Rattle.std.proofs.Common.{◌≡◌, ◌<◌, ◌-◌, ◌+◌, ℕ, zero, suc, ℤ, pos, negsuc, List, [], ◌∷◌, ◌++◌, Bool, true, false, Option, Some, None, Result, Ok, Err, length, is_ok, is_some, refl, sym, ap, ◌∙◌, subst, arith}
use Rattle.std.specs.Prelude.{nat_lt, slice_get, if◌then◌else◌}
use Rattle.std.specs.Str.{chars}
use Rattle.std.proofs.lemmas.Bool.{ltb-true}
use Rattle.grain_value.specs.Tree.{Tree}
use Rattle.grain_value.specs.View.{tree}
use Rattle.grain_value.specs.Maps.{Entries, entry_at}
use Rattle.grain_value.specs.Paths.{at, element, Leads}
use Rattle.grain_value.specs.Locating.{locate, located_among, located_key, entry_index, or_bounds, spot_at}
use Rattle.grain_value.specs.laws.PathSteps.{child-array, at-step}
use Rattle.grain_value.specs.declared.values.Dynamic.{Dynamic}
use Rattle.grain_value.specs.declared.values.Dynamic.TheVariants as dynamic
use Rattle.grain_value.specs.declared.values.locating.Spot.{Spot}
use Rattle.grain_value.specs.declared.values.locating.Spot.TheVariants as spot
use Rattle.grain_value.specs.declared.values.paths.PathStep.{PathStep}
use Rattle.grain_value.specs.declared.values.paths.PathStep.TheVariants.{Index, Key}
use Rattle.grain_value.specs.declared.values.value_faults.ValueFault.{ValueFault}
use Rattle.grain_value.specs.declared.values.value_faults.ValueFault.TheVariants as fault
use Rattle.grain_means.specs.Walks.{is_indexed}
use Rattle.grain_means.specs.lemmas.PlaceLaws.{at-further}
use Rattle.grain_chain.proofs.Keys.{leads_key}

test_index : (b : Bool) (n i j k : ℕ) → (b ≡ true → j < n) → (if b then Some j else None) ≡ Some k → k < n
test_index true n i j k h e = let same : j ≡ k = cc in omega (arith, h refl, same)
test_index false n i j k h e = cc

index_within : (n : ℕ) (z : ℤ) (k : ℕ) → entry_index n z ≡ Some k → k < n
index_within n (pos i) k e = test_index (nat_lt i n) n i i k (λ h. ltb-true i n h) e
index_within n (negsuc i) k e =
    test_index (nat_lt i n) n i (n - (i + 1)) k (λ h. omega (arith, ltb-true i n h)) e

bounds_ok : (n : ℕ) (z : ℤ) (o : Option ℕ) (k : ℕ) → or_bounds n z o ≡ Ok k → o ≡ Some k
bounds_ok n z (Some j) k e = cc
bounds_ok n z None k e = cc

among_within : (n : ℕ) (v : Dynamic) (k : ℕ) → located_among n v ≡ Ok k → k < n
among_within n (dynamic.Int z) k e = index_within n z k (bounds_ok n z (entry_index n z) k e)
among_within n dynamic.Unit k e = cc
among_within n (dynamic.Bool b) k e = cc
among_within n (dynamic.Char c) k e = cc
among_within n (dynamic.Text s) k e = cc
among_within n (dynamic.Array ts) k e = cc
among_within n (dynamic.Blob s) k e = cc
among_within n (dynamic.Map es) k e = cc
among_within n (dynamic.Pointer p) k e = cc
among_within n (dynamic.Range a z i) k e = cc
among_within n (dynamic.Foreign a z) k e = cc
among_within n (dynamic.Cell a) k e = cc

get_some : (ts : List Tree) (k : ℕ) → k < length ts → (t : Tree) × (slice_get ts k ≡ Some t)
get_some [] k h = absurd (omega (arith, h))
get_some (t ∷ ts) zero h = (t, refl)
get_some (t ∷ ts) (suc k) h = get_some ts k (omega (arith, h))

leads_index : (path : List PathStep) (k : ℕ) (d : Dynamic) (ts : List Tree) →
    at path (tree d) ≡ Ok (tree (dynamic.Array ts)) → k < length ts →
    Leads (path ++ Index k ∷ []) (tree d)
leads_index path k d ts h less =
    let got = get_some ts k less in
    ap is_ok (at-further path (Index k ∷ []) (tree d) (tree (dynamic.Array ts)) h
    ∙ at-step (Index k) [] (tree (dynamic.Array ts)) got.0
    (child-array ts k ∙ ap (λ (o : Option Tree). element o (length ts) k) got.1))

-- what stands there, where an index names an element
item_in : (f : ℕ → Spot) (r : Result ℕ ValueFault) (k : ℕ) → spot_at f r ≡ Ok (spot.Item k) →
    (j : ℕ) × ((r ≡ Ok j) × (f j ≡ spot.Item k))
item_in f (Ok j) k e = let same : f j ≡ spot.Item k = cc in (j, (refl, same))
item_in f (Err x) k e = cc

key_in : (f : ℕ → Spot) (r : Result ℕ ValueFault) → spot_at f r ≡ Ok spot.Key →
    (j : ℕ) × (f j ≡ spot.Key)
key_in f (Ok j) e = let same : f j ≡ spot.Key = cc in (j, same)
key_in f (Err x) e = cc

there_or : (b : Bool) (k : ℕ) → (if b then Ok spot.Key else Err fault.NoKey) ≡ Ok (spot.Item k) → ⊥
there_or true k e = cc
there_or false k e = cc

no_item : (es : Entries) (v : Dynamic) (k : ℕ) → located_key es v ≡ Ok (spot.Item k) → ⊥
no_item es (dynamic.Text s) k e = there_or (is_some (entry_at s es)) k e
no_item es dynamic.Unit k e = cc
no_item es (dynamic.Bool b) k e = cc
no_item es (dynamic.Char c) k e = cc
no_item es (dynamic.Int z) k e = cc
no_item es (dynamic.Array ts) k e = cc
no_item es (dynamic.Blob s) k e = cc
no_item es (dynamic.Map fs) k e = cc
no_item es (dynamic.Pointer p) k e = cc
no_item es (dynamic.Range a z i) k e = cc
no_item es (dynamic.Foreign a z) k e = cc
no_item es (dynamic.Cell a) k e = cc

-- an element leads on
pub item_leads : (path : List PathStep) (d v i : Dynamic) (k : ℕ) → at path (tree d) ≡ Ok (tree v) →
    locate v i ≡ Ok (spot.Item k) → Leads (path ++ Index k ∷ []) (tree d)
item_leads path d (dynamic.Array ts) i k h e =
    let got = item_in spot.Item (located_among (length ts) i) k e in
    let same : got.0 ≡ k = let g = got.1.1 in cc in
    leads_index path k d ts h (subst (λ (j : ℕ). j < length ts) same
    (among_within (length ts) i got.0 got.1.0))
item_leads path d (dynamic.Blob s) i k h e =
    let g = (item_in spot.Byte (located_among (length s) i) k e).1.1 in cc
item_leads path d (dynamic.Text s) i k h e =
    let g = (item_in spot.Character (located_among (length (chars s)) i) k e).1.1 in cc
item_leads path d (dynamic.Int n) i k h e =
    let g = (item_in spot.Bit (located_among 64 i) k e).1.1 in cc
item_leads path d (dynamic.Map es) i k h e = absurd (no_item es i k e)
item_leads path d dynamic.Unit i k h e = cc
item_leads path d (dynamic.Bool b) i k h e = cc
item_leads path d (dynamic.Char c) i k h e = cc
item_leads path d (dynamic.Pointer p) i k h e = cc
item_leads path d (dynamic.Range a z n) i k h e = cc
item_leads path d (dynamic.Foreign a z) i k h e = cc
item_leads path d (dynamic.Cell a) i k h e = cc

there : (b : Bool) → (if b then Ok spot.Key else Err fault.NoKey) ≡ Ok spot.Key → b ≡ true
there true e = refl
there false e = cc

entry_there : (o : Option Tree) → is_some o ≡ true → (t : Tree) × (o ≡ Some t)
entry_there (Some t) e = (t, refl)
entry_there None e = cc

-- a key that is there leads on, and is a text
key_there : (path : List PathStep) (d : Dynamic) (es : Entries) (i : Dynamic) →
    at path (tree d) ≡ Ok (tree (dynamic.Map es)) → located_key es i ≡ Ok spot.Key →
    (s : List ℕ) × ((i ≡ dynamic.Text s) × Leads (path ++ Key s ∷ []) (tree d))
key_there path d es (dynamic.Text s) h e =
    let got = entry_there (entry_at s es) (there (is_some (entry_at s es)) e) in
    (s, (refl, leads_key path s d es got.0 h got.1))
key_there path d es dynamic.Unit h e = cc
key_there path d es (dynamic.Bool b) h e = cc
key_there path d es (dynamic.Char c) h e = cc
key_there path d es (dynamic.Int z) h e = cc
key_there path d es (dynamic.Array ts) h e = cc
key_there path d es (dynamic.Blob s) h e = cc
key_there path d es (dynamic.Map fs) h e = cc
key_there path d es (dynamic.Pointer p) h e = cc
key_there path d es (dynamic.Range a z n) h e = cc
key_there path d es (dynamic.Foreign a z) h e = cc
key_there path d es (dynamic.Cell a) h e = cc

pub key_leads : (path : List PathStep) (d v i : Dynamic) → at path (tree d) ≡ Ok (tree v) →
    locate v i ≡ Ok spot.Key →
    (s : List ℕ) × ((i ≡ dynamic.Text s) × Leads (path ++ Key s ∷ []) (tree d))
key_leads path d (dynamic.Map es) i h e = key_there path d es i h e
key_leads path d (dynamic.Array ts) i h e =
    let g = (key_in spot.Item (located_among (length ts) i) e).1 in cc
key_leads path d (dynamic.Blob s) i h e =
    let g = (key_in spot.Byte (located_among (length s) i) e).1 in cc
key_leads path d (dynamic.Text s) i h e =
    let g = (key_in spot.Character (located_among (length (chars s)) i) e).1 in cc
key_leads path d (dynamic.Int n) i h e =
    let g = (key_in spot.Bit (located_among 64 i) e).1 in cc
key_leads path d dynamic.Unit i h e = cc
key_leads path d (dynamic.Bool b) i h e = cc
key_leads path d (dynamic.Char c) i h e = cc
key_leads path d (dynamic.Pointer p) i h e = cc
key_leads path d (dynamic.Range a z n) i h e = cc
key_leads path d (dynamic.Foreign a z) i h e = cc
key_leads path d (dynamic.Cell a) i h e = cc

-- the faults of an index: that it is none here, and that the key is not there
bounds_not : (n : ℕ) (z : ℤ) (o : Option ℕ) (x : ValueFault) → or_bounds n z o ≡ Err x →
    x ≡ fault.Bounds n z
bounds_not n z (Some k) x e = cc
bounds_not n z None x e = cc

-- what is not named
pub data Missed : ValueFault → Type 0 where
  beyond : {n : ℕ} {z : ℤ} → Missed (fault.Bounds n z)
  absent : Missed fault.NoKey
  unfit : Missed fault.WrongType

missed_by : {x y : ValueFault} → x ≡ y → Missed y → Missed x
missed_by {x} {y} e m = subst (λ (z : ValueFault). Missed z) (sym e) m

among_missed : (n : ℕ) (v : Dynamic) (x : ValueFault) → located_among n v ≡ Err x → Missed x
among_missed n (dynamic.Int z) x e = missed_by (bounds_not n z (entry_index n z) x e) beyond
among_missed n dynamic.Unit x e = let g : x ≡ fault.WrongType = cc in missed_by g unfit
among_missed n (dynamic.Bool b) x e = let g : x ≡ fault.WrongType = cc in missed_by g unfit
among_missed n (dynamic.Char c) x e = let g : x ≡ fault.WrongType = cc in missed_by g unfit
among_missed n (dynamic.Text s) x e = let g : x ≡ fault.WrongType = cc in missed_by g unfit
among_missed n (dynamic.Array ts) x e = let g : x ≡ fault.WrongType = cc in missed_by g unfit
among_missed n (dynamic.Blob s) x e = let g : x ≡ fault.WrongType = cc in missed_by g unfit
among_missed n (dynamic.Map es) x e = let g : x ≡ fault.WrongType = cc in missed_by g unfit
among_missed n (dynamic.Pointer p) x e = let g : x ≡ fault.WrongType = cc in missed_by g unfit
among_missed n (dynamic.Range a z i) x e = let g : x ≡ fault.WrongType = cc in missed_by g unfit
among_missed n (dynamic.Foreign a z) x e = let g : x ≡ fault.WrongType = cc in missed_by g unfit
among_missed n (dynamic.Cell a) x e = let g : x ≡ fault.WrongType = cc in missed_by g unfit

spot_missed : (f : ℕ → Spot) (r : Result ℕ ValueFault) (x : ValueFault) → spot_at f r ≡ Err x → r ≡ Err x
spot_missed f (Ok k) x e = cc
spot_missed f (Err y) x e = cc

no_key : (b : Bool) (x : ValueFault) → (if b then Ok spot.Key else Err fault.NoKey) ≡ Err x →
    x ≡ fault.NoKey
no_key true x e = cc
no_key false x e = cc

key_missed : (es : Entries) (v : Dynamic) (x : ValueFault) → located_key es v ≡ Err x → Missed x
key_missed es (dynamic.Text s) x e = missed_by (no_key (is_some (entry_at s es)) x e) absent
key_missed es dynamic.Unit x e = let g : x ≡ fault.WrongType = cc in missed_by g unfit
key_missed es (dynamic.Bool b) x e = let g : x ≡ fault.WrongType = cc in missed_by g unfit
key_missed es (dynamic.Char c) x e = let g : x ≡ fault.WrongType = cc in missed_by g unfit
key_missed es (dynamic.Int z) x e = let g : x ≡ fault.WrongType = cc in missed_by g unfit
key_missed es (dynamic.Array ts) x e = let g : x ≡ fault.WrongType = cc in missed_by g unfit
key_missed es (dynamic.Blob s) x e = let g : x ≡ fault.WrongType = cc in missed_by g unfit
key_missed es (dynamic.Map fs) x e = let g : x ≡ fault.WrongType = cc in missed_by g unfit
key_missed es (dynamic.Pointer p) x e = let g : x ≡ fault.WrongType = cc in missed_by g unfit
key_missed es (dynamic.Range a z i) x e = let g : x ≡ fault.WrongType = cc in missed_by g unfit
key_missed es (dynamic.Foreign a z) x e = let g : x ≡ fault.WrongType = cc in missed_by g unfit
key_missed es (dynamic.Cell a) x e = let g : x ≡ fault.WrongType = cc in missed_by g unfit

-- an index of a value that has indices of its own
pub index_missed : (v i : Dynamic) (x : ValueFault) → is_indexed v ≡ true → locate v i ≡ Err x → Missed x
index_missed (dynamic.Array ts) i x own e =
    among_missed (length ts) i x (spot_missed spot.Item (located_among (length ts) i) x e)
index_missed (dynamic.Blob s) i x own e =
    among_missed (length s) i x (spot_missed spot.Byte (located_among (length s) i) x e)
index_missed (dynamic.Text s) i x own e =
    among_missed (length (chars s)) i x
    (spot_missed spot.Character (located_among (length (chars s)) i) x e)
index_missed (dynamic.Int n) i x own e =
    among_missed 64 i x (spot_missed spot.Bit (located_among 64 i) x e)
index_missed (dynamic.Map es) i x own e = key_missed es i x e
index_missed dynamic.Unit i x own e = cc
index_missed (dynamic.Bool b) i x own e = cc
index_missed (dynamic.Char c) i x own e = cc
index_missed (dynamic.Pointer p) i x own e = cc
index_missed (dynamic.Range a z n) i x own e = cc
index_missed (dynamic.Foreign a z) i x own e = cc
index_missed (dynamic.Cell a) i x own e = cc

among_no_key : (n : ℕ) (v : Dynamic) → located_among n v ≡ Err fault.NoKey → ⊥
among_no_key n (dynamic.Int z) e =
    let g = bounds_not n z (entry_index n z) fault.NoKey e in cc
among_no_key n dynamic.Unit e = cc
among_no_key n (dynamic.Bool b) e = cc
among_no_key n (dynamic.Char c) e = cc
among_no_key n (dynamic.Text s) e = cc
among_no_key n (dynamic.Array ts) e = cc
among_no_key n (dynamic.Blob s) e = cc
among_no_key n (dynamic.Map es) e = cc
among_no_key n (dynamic.Pointer p) e = cc
among_no_key n (dynamic.Range a z i) e = cc
among_no_key n (dynamic.Foreign a z) e = cc
among_no_key n (dynamic.Cell a) e = cc

text_key : (es : Entries) (v : Dynamic) → located_key es v ≡ Err fault.NoKey →
    (s : List ℕ) × (v ≡ dynamic.Text s)
text_key es (dynamic.Text s) e = (s, refl)
text_key es dynamic.Unit e = cc
text_key es (dynamic.Bool b) e = cc
text_key es (dynamic.Char c) e = cc
text_key es (dynamic.Int z) e = cc
text_key es (dynamic.Array ts) e = cc
text_key es (dynamic.Blob s) e = cc
text_key es (dynamic.Map fs) e = cc
text_key es (dynamic.Pointer p) e = cc
text_key es (dynamic.Range a z i) e = cc
text_key es (dynamic.Foreign a z) e = cc
text_key es (dynamic.Cell a) e = cc

-- a missing key is one of a map, and a text
pub no_key_of : (v i : Dynamic) → locate v i ≡ Err fault.NoKey →
    ((es : Entries) × (v ≡ dynamic.Map es)) × ((s : List ℕ) × (i ≡ dynamic.Text s))
no_key_of (dynamic.Map es) i e = ((es, refl), text_key es i e)
no_key_of (dynamic.Array ts) i e =
    absurd (among_no_key (length ts) i (spot_missed spot.Item (located_among (length ts) i) fault.NoKey e))
no_key_of (dynamic.Blob s) i e =
    absurd (among_no_key (length s) i (spot_missed spot.Byte (located_among (length s) i) fault.NoKey e))
no_key_of (dynamic.Text s) i e =
    absurd (among_no_key (length (chars s)) i
    (spot_missed spot.Character (located_among (length (chars s)) i) fault.NoKey e))
no_key_of (dynamic.Int n) i e =
    absurd (among_no_key 64 i (spot_missed spot.Bit (located_among 64 i) fault.NoKey e))
no_key_of dynamic.Unit i e = cc
no_key_of (dynamic.Bool b) i e = cc
no_key_of (dynamic.Char c) i e = cc
no_key_of (dynamic.Pointer p) i e = cc
no_key_of (dynamic.Range a z n) i e = cc
no_key_of (dynamic.Foreign a z) i e = cc
no_key_of (dynamic.Cell a) i e = cc
