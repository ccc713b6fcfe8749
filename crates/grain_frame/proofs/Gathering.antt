-- Elements of an array and pairs of a map, which are taken one by one.
use Rattle.std.proofs.Common.{◌≡◌, ◌∙◌, ◌<◌, ◌≤◌, ◌+◌, ◌++◌, ◌∷◌, ℕ, zero, suc, List, [], Option, Some, None, true, length, drop, get_or, reverse, refl, sym, ap, arith, append_assoc}
use Rattle.std.proofs.lemmas.List.{reverse-append}
use Rattle.std.specs.Prelude.{is_some, slice_get}
use Rattle.grain_value.specs.Cells.{flat}
use Rattle.grain_value.specs.Looking.{text_of}
use Rattle.grain_value.specs.Maps.{Entries, put_entry}
use Rattle.grain_value.specs.Tree.{Tree}
use Rattle.grain_value.specs.View.{tree}
use Rattle.grain_value.specs.declared.stores.Cell.{Cell}
use Rattle.grain_value.specs.declared.values.Dynamic.{Dynamic}
use Rattle.grain_value.specs.declared.values.Dynamic.TheVariants as dynamic
use Rattle.grain_value.specs.declared.values.Held.{Held}
use Rattle.grain_means.specs.Rules.{KeyIs, Pairs, PairsAre, PairsLent, flat_all, key_read, pair_read, pairs_of, trees_in}
use Rattle.grain_frame.proofs.Flattening.{first_read, next_one}

-- the newest of what was taken off is the first of what is left
pub newest_first : (items now : List Held) (h : Held) → items ≡ now ++ h ∷ [] →
    reverse items ≡ h ∷ reverse now
newest_first items now h is = ap reverse is ∙ reverse-append now (h ∷ [])

one_value : (o : Option Dynamic) (a b : Dynamic) → o ≡ Some a → o ≡ Some b → a ≡ b
one_value o a b is also = cc

pub one_list : (o : Option (List Held)) (a b : List Held) → o ≡ Some a → o ≡ Some b → a ≡ b
one_list o a b is also = cc

pub is_there : (o : Option Dynamic) (v : Dynamic) → o ≡ Some v → is_some o ≡ true
is_there o v is = rw is refl

-- what stands at a place, however it was looked for
pub value_at : (hs : List Held) (i : ℕ) (d : Held) → i < length hs →
    get_or hs i d ≡ get_or hs i (get_or hs i d)
value_at [] i d within = absurd (omega (arith, within))
value_at (g ∷ hs) zero d within = refl
value_at (g ∷ hs) (suc i) d within = value_at hs i d (omega (arith, within))

pub there_at : (hs : List Held) (i : ℕ) (h : Held) → i < length hs → h ≡ get_or hs i h →
    slice_get hs i ≡ Some h
there_at [] i h within is = absurd (omega (arith, within))
there_at (g ∷ hs) zero h within is = ap (λ (x : Held). Some x) (sym is)
there_at (g ∷ hs) (suc i) h within is = there_at hs i h (omega (arith, within)) is

drop_past : (i : ℕ) (hs : List Held) → length hs ≤ i → drop i hs ≡ []
drop_past zero [] le = refl
drop_past zero (h ∷ hs) le = absurd (omega (arith, le))
drop_past (suc i) [] le = refl
drop_past (suc i) (h ∷ hs) le = drop_past i hs (omega (arith, le))

module _ (cells : List Cell) where
  -- none are left
  pub pairs_over : (hs : List Held) (i : ℕ) (es fs : Entries) → length hs ≤ i →
      pairs_of cells hs es ≡ pairs_of cells (drop i hs) fs → pairs_of cells hs es ≡ PairsAre fs
  pairs_over hs i es fs le is = is ∙ rw (drop_past i hs le) refl

  -- the next element
  module _ (items now : List Held) (h : Held) (last : items ≡ now ++ h ∷ []) (left : List Held)
      (read : flat_all cells (reverse items) ≡ Some left) where
    abbrev next_read : (v : Dynamic) × (rest : List Held)
        × (left ≡ record h { value = v } ∷ rest) × (flat cells h.value ≡ Some v)
        × (flat_all cells (reverse now) ≡ Some rest)
    next_read =
        first_read (flat cells h.value) h (flat_all cells (reverse now)) left
        (ap (λ (hs : List Held). flat_all cells hs) (sym (newest_first items now h last)) ∙ read)

    pub element_there : is_some (flat cells h.value) ≡ true
    element_there = is_there (flat cells h.value) next_read.0 next_read.3

    pub element_more : (v : Dynamic) (array more : List Tree) → flat cells h.value ≡ Some v →
        more ≡ array ++ tree v ∷ [] → (rest : List Held)
        × (flat_all cells (reverse now) ≡ Some rest)
        × (more ++ trees_in rest ≡ array ++ trees_in left)
    element_more v array more is grown =
        let same : next_read.0 ≡ v = one_value (flat cells h.value) next_read.0 v next_read.3 is in (
          next_read.1,
          next_read.4,
          ap (λ (ts : List Tree). ts ++ trees_in next_read.1) grown
              ∙ append_assoc array (tree v ∷ []) (trees_in next_read.1)
              ∙ ap (λ (u : Dynamic). array ++ tree u ∷ trees_in next_read.1) (sym same)
              ∙ ap (λ (hs : List Held). array ++ trees_in hs) (sym next_read.2),
        )

  -- what was read of a pair that is one
  pair_there : (a b : Option Dynamic) (go : List ℕ → Dynamic → Pairs) (ds : Entries) →
      pair_read a b go ≡ PairsAre ds → (s : List ℕ) × (v : Dynamic)
      × (a ≡ Some (dynamic.Text s)) × (b ≡ Some v)
  pair_there None b go ds is = absurd cc
  pair_there (Some k) b go ds is = key_there k b go ds is where
    value_there : (t : List ℕ) (b : Option Dynamic) (go : List ℕ → Dynamic → Pairs) (ds : Entries) →
        key_read (Some t) (dynamic.Text t) b go ≡ PairsAre ds → (s : List ℕ) × (v : Dynamic)
        × (Some (dynamic.Text t) ≡ Some (dynamic.Text s)) × (b ≡ Some v)
    value_there t None go ds is = absurd cc
    value_there t (Some v) go ds is = (t, v, refl, refl)

    key_there : (k : Dynamic) (b : Option Dynamic) (go : List ℕ → Dynamic → Pairs) (ds : Entries) →
        key_read (text_of k) k b go ≡ PairsAre ds → (s : List ℕ) × (v : Dynamic)
        × (Some k ≡ Some (dynamic.Text s)) × (b ≡ Some v)
    key_there dynamic.Unit b go ds is = absurd cc
    key_there (dynamic.Bool x) b go ds is = absurd cc
    key_there (dynamic.Int x) b go ds is = absurd cc
    key_there (dynamic.Char x) b go ds is = absurd cc
    key_there (dynamic.Text t) b go ds is = value_there t b go ds is
    key_there (dynamic.Array x) b go ds is = absurd cc
    key_there (dynamic.Blob x) b go ds is = absurd cc
    key_there (dynamic.Map x) b go ds is = absurd cc
    key_there (dynamic.Pointer x) b go ds is = absurd cc
    key_there (dynamic.Range from to inclusive) b go ds is = absurd cc
    key_there (dynamic.Foreign kind number) b go ds is = absurd cc
    key_there (dynamic.Cell x) b go ds is = absurd cc

  -- the next pair
  module _ (items more now : List Held) (k h : Held) (first : items ≡ more ++ k ∷ [])
      (second : more ≡ now ++ h ∷ []) where
    pub two_first : reverse items ≡ k ∷ h ∷ reverse now
    two_first = newest_first items more k first
        ∙ ap (λ (hs : List Held). k ∷ hs) (newest_first more now h second)

    module _ (es ds : Entries) (are : pairs_of cells (reverse items) es ≡ PairsAre ds) where
      pub pair_is : (s : List ℕ) × (v : Dynamic) × (flat cells k.value ≡ Some (dynamic.Text s))
          × (flat cells h.value ≡ Some v)
      pair_is = pair_there (flat cells k.value) (flat cells h.value)
          (λ s v. pairs_of cells (reverse now) (put_entry s (tree v) es)) ds
          (ap (λ (hs : List Held). pairs_of cells hs es) (sym two_first) ∙ are)

      pub pair_more : (s : List ℕ) (v : Dynamic) (fs : Entries) →
          flat cells k.value ≡ Some (dynamic.Text s) → flat cells h.value ≡ Some v →
          fs ≡ put_entry s (tree v) es → pairs_of cells (reverse now) fs ≡ PairsAre ds
      pair_more s v fs key value grown =
          let same : pairs_of cells (reverse items) es
          ≡ pairs_of cells (reverse now) (put_entry s (tree v) es) =
          rw (two_first, key, value) refl in
          ap (λ (xs : Entries). pairs_of cells (reverse now) xs) grown ∙ sym same ∙ are

  -- a pair, by its place
  module _ (hs : List Held) (i : ℕ) (k h : Held) (within : i + 1 < length hs)
      (key : k ≡ get_or hs i k) (value : h ≡ get_or hs (i + 1) h) where
    pub pair_at : drop i hs ≡ k ∷ h ∷ drop (i + 2) hs
    pair_at =
        let one : i + 1 ≡ suc i = omega arith in
        let two : suc (i + 1) ≡ i + 2 = omega arith in
        next_one hs i k (omega (arith, within)) key
        ∙ ap (λ (n : ℕ). k ∷ drop n hs) (sym one)
        ∙ ap (λ (xs : List Held). k ∷ xs) (next_one hs (i + 1) h within value)
        ∙ ap (λ (n : ℕ). k ∷ h ∷ drop n hs) two

    module _ (es fs : Entries) (is : pairs_of cells hs es ≡ pairs_of cells (drop i hs) fs) where
      pub key_lent : flat cells k.value ≡ None → pairs_of cells hs es ≡ PairsLent
      key_lent none = is ∙ rw (pair_at, none) refl

      pub value_lent : (s : List ℕ) → flat cells k.value ≡ Some (dynamic.Text s) →
          flat cells h.value ≡ None → pairs_of cells hs es ≡ PairsLent
      value_lent s read none = is ∙ rw (pair_at, read, none) refl

      pub key_refused : (x : Dynamic) → flat cells k.value ≡ Some x → text_of x ≡ None →
          pairs_of cells hs es ≡ KeyIs x
      key_refused x read none = is ∙ rw (pair_at, read, none) refl

      pub pair_fits : (s : List ℕ) (v : Dynamic) → flat cells k.value ≡ Some (dynamic.Text s) →
          flat cells h.value ≡ Some v →
          pairs_of cells hs es ≡ pairs_of cells (drop (i + 2) hs) (put_entry s (tree v) fs)
      pair_fits s v read also = is ∙ rw (pair_at, read, also) refl

one_map : (o : Option Dynamic) (a b : Entries) → o ≡ Some (dynamic.Map a) →
    o ≡ Some (dynamic.Map b) → a ≡ b
one_map o a b is also = cc

one_entries : (o : Pairs) (a b : Entries) → o ≡ PairsAre a → o ≡ PairsAre b → a ≡ b
one_entries o a b is also = cc

-- a map has one list of entries once pairs were added
pub same_entries : (o : Option Dynamic) (of : Entries → Pairs) (es gs fs ds : Entries) →
    o ≡ Some (dynamic.Map es) → o ≡ Some (dynamic.Map gs) → of es ≡ PairsAre fs →
    of gs ≡ PairsAre ds → fs ≡ ds
same_entries o of es gs fs ds one other first second =
    one_entries (of gs) fs ds
    (ap of (sym (one_map o es gs one other)) ∙ first) second
