-- The first item of those that are left, and the others.
use Rattle.std.proofs.Common.{◌≡◌, ◌∙◌, ◌<◌, ◌≤◌, ◌+◌, ◌++◌, ℕ, zero, suc, List, [], ◌∷◌, Bool, true, false, not, Some, None, map, drop, length, slice_get, refl, sym, ap, arith}
use Rattle.std.specs.Prelude.{ℤ, pos, negsuc, ◌+ℤ◌, ◌-ℤ◌, ◌≤ℤ◌, ◌<ℤ◌, nat_le, is_none, slice_set}
use Rattle.std.specs.Char.{encode_utf8, len_utf8}
use Rattle.std.specs.Str.{chars, is_utf8, IsUtf8, IsCharBoundary}
use Rattle.std.proofs.lemmas.Bool.{leb-true, leb-false}
use Rattle.std.proofs.lemmas.Int.{ints, by_lt_z}
use Rattle.std.proofs.lemmas.List.{drop_all}
use Rattle.std.proofs.lemmas.Str.{chars-nil, chars_past_char, drop_past_char, is_utf8-from_IsUtf8, IsUtf8-from_is_utf8, IsUtf8-nil, IsUtf8-past_char, IsCharBoundary-from_drop}
use Rattle.grain_value.specs.Looking.{cell_of}
use Rattle.grain_value.specs.Tree.{Tree, integer, character}
use Rattle.grain_value.specs.View.{tree, value_of}
use Rattle.grain_value.specs.laws.Same.{value_of-tree}
use Rattle.grain_value.specs.declared.values.Dynamic.{Dynamic}
use Rattle.grain_stack.specs.declared.cursors.Left.{Left}
use Rattle.grain_stack.specs.declared.cursors.Left.TheVariants as left
use Rattle.grain_value.specs.Items.{integers_from, at_least_zero, range_length, integers_in}
use Rattle.grain_stack.specs.Cursors.{characters_in, first_cell, items_left}
use Rattle.grain_stack.specs.Entries.{first_of}

pub not_so : {P : Type 0} → (P → false ≡ true) → ¬ P
not_so {P} never p = let e : false ≡ true = never p in cc

-- ---- entries of a list

module _ {A : Type 0} where
  pub first_at : (xs : List A) (n m : ℕ) (x : A) → slice_get xs n ≡ Some x → m ≡ n + 1 →
      drop n xs ≡ x ∷ drop m xs
  first_at [] n m x is em = absurd cc
  first_at (y ∷ xs) zero zero x is em = absurd (omega (arith, em))
  first_at (y ∷ xs) zero (suc zero) x is em = cc
  first_at (y ∷ xs) zero (suc (suc m)) x is em = absurd (omega (arith, em))
  first_at (y ∷ xs) (suc n) zero x is em = absurd (omega (arith, em))
  first_at (y ∷ xs) (suc n) (suc m) x is em = first_at xs n m x is (omega (arith, em))

-- a value was taken, and those after it stay
pub behind_taken : (ts : List Tree) (n m : ℕ) (t : Tree) → m ≡ n + 1 →
    drop m (slice_set ts n t) ≡ drop m ts
behind_taken [] n m t em = refl
behind_taken (x ∷ ts) n zero t em = absurd (omega (arith, em))
behind_taken (x ∷ ts) zero (suc m) t em = refl
behind_taken (x ∷ ts) (suc n) (suc m) t em = behind_taken ts n m t (omega (arith, em))

-- ---- the characters of a text

pub no_characters : (bytes : List ℕ) → length bytes ≤ 0 → characters_in bytes ≡ []
no_characters [] none =
    rw (is_utf8-from_IsUtf8 [] IsUtf8-nil, chars-nil) refl
no_characters (b ∷ bytes) none = absurd (omega (arith, none))

-- where no character begins, what follows is no text
pub none_begins : (text : List ℕ) (n : ℕ) → ¬ (IsCharBoundary text n) →
    characters_in (drop n text) ≡ []
none_begins text n apart = by_place (nat_le n (length text)) refl where
  by_test : (b : Bool) → is_utf8 (drop n text) ≡ b → n ≤ length text →
      characters_in (drop n text) ≡ []
  by_test true is le =
      absurd (apart (IsCharBoundary-from_drop text n le (IsUtf8-from_is_utf8 (drop n text) is)))
  by_test false is le = rw is refl

  by_place : (b : Bool) → nat_le n (length text) ≡ b → characters_in (drop n text) ≡ []
  by_place true le = by_test (is_utf8 (drop n text)) refl (leb-true n (length text) le)
  by_place false more =
      let past : drop n text ≡ [] =
      drop_all n text (omega (arith, leb-false n (length text) more)) in
      rw past (no_characters [] (omega arith))

-- the character that begins at a byte, and those after it
pub character_at : (text rest : List ℕ) (n m c : ℕ) → IsUtf8 (drop n text) →
    drop n text ≡ encode_utf8 c ++ rest → m ≡ n + len_utf8 c →
    characters_in (drop n text) ≡ character c ∷ characters_in (drop m text)
character_at text rest n m c utf8 is em =
    let later : IsUtf8 rest = IsUtf8-past_char (drop n text) rest c utf8 is in
    let left : drop m text ≡ rest = rw em (drop_past_char text rest n c is) in
    rw (
      is_utf8-from_IsUtf8 (drop n text) utf8,
      left,
      is_utf8-from_IsUtf8 rest later,
      chars_past_char (drop n text) rest c utf8 is,
    ) refl

-- all characters of a text
pub all_characters : (text : List ℕ) → IsUtf8 text →
    characters_in (drop 0 text) ≡ map (λ c. character c) (chars text)
all_characters text utf8 = rw (is_utf8-from_IsUtf8 text utf8) refl

-- ---- the integers of a range

one_above : (z y : ℤ) → z ≡ y +ℤ pos 1 → pos 0 ≤ℤ y →
    at_least_zero z ≡ suc (at_least_zero y)
one_above z (pos n) is le =
    let more : at_least_zero z ≡ n + 1 = ap at_least_zero is in omega (arith, more)
one_above z (negsuc n) is le = absurd (omega (arith, ints))

none_above : (z : ℤ) → z ≤ℤ pos 0 → at_least_zero z ≡ 0
none_above (pos n) le = omega (arith, ints)
none_above (negsuc n) le = refl

one_more : (from to : ℤ) → from <ℤ to →
    at_least_zero (to -ℤ from) ≡ suc (at_least_zero (to -ℤ (from +ℤ pos 1)))
one_more from to lt =
    one_above (to -ℤ from) (to -ℤ (from +ℤ pos 1)) (omega (arith, ints)) (omega (arith, ints))

range_more : (from to : ℤ) (inclusive : Bool) → from <ℤ to →
    range_length from to inclusive ≡ suc (range_length (from +ℤ pos 1) to inclusive)
range_more from to false lt = one_more from to lt
range_more from to true lt = one_more from (to +ℤ pos 1) (omega (arith, ints))

-- an integer below the end, and those after it
pub integer_below : (from to : ℤ) (inclusive : Bool) → from <ℤ to →
    integers_in from to inclusive ≡ integer from ∷ integers_in (from +ℤ pos 1) to inclusive
integer_below from to inclusive lt =
    ap (integers_from from) (range_more from to inclusive lt)

-- the end of an inclusive range, after which there is nothing
pub integer_last : (z : ℤ) → integers_in z z true ≡ integer z ∷ integers_in z z false
integer_last z =
    let is : (z +ℤ pos 1) -ℤ z ≡ pos 1 = omega (arith, ints) in
    let one : at_least_zero ((z +ℤ pos 1) -ℤ z) ≡ suc 0 = ap at_least_zero is in
    let none : at_least_zero (z -ℤ z) ≡ 0 = none_above (z -ℤ z) (omega (arith, ints)) in
    let nothing : integers_in z z false ≡ [] = ap (integers_from z) none in
    ap (integers_from z) one ∙ ap (λ (ts : List Tree). integer z ∷ ts) (sym nothing)

-- a range that is at its end
pub integers_over : (from to : ℤ) (inclusive : Bool) → to ≤ℤ from →
    (inclusive ≡ true → ¬ (from ≡ to)) → integers_in from to inclusive ≡ []
integers_over from to false le other =
    ap (integers_from from) (none_above (to -ℤ from) (omega (arith, ints)))
integers_over from to true le other =
    let less : to <ℤ from = above from to le (other refl) in
    ap (integers_from from) (none_above ((to +ℤ pos 1) -ℤ from) (omega (arith, ints))) where
      above : (a b : ℤ) → b ≤ℤ a → ¬ (a ≡ b) → b <ℤ a
      above a b le apart = by_lt_z b a (λ lt. lt) (λ ge. absurd (apart (omega (arith, ints))))

-- ---- the same of what a cursor goes over

pub next_below : (l : Left) (from to : ℤ) (inclusive : Bool) (first last next : ℤ) →
    l ≡ left.Range from to inclusive → from <ℤ to → first ≡ from → last ≡ to →
    next ≡ from +ℤ pos 1 → items_left l ≡ integer first ∷ integers_in next last inclusive
next_below l from to inclusive first last next is less ef el en =
    ap items_left is ∙ integer_below from to inclusive less
    ∙ (λ i. integer (sym ef i) ∷ integers_in (sym en i) (sym el i) inclusive)

pub next_last : (l : Left) (from to : ℤ) (inclusive : Bool) (first last : ℤ) →
    l ≡ left.Range from to inclusive → from ≡ to → inclusive ≡ true → first ≡ from → last ≡ to →
    items_left l ≡ integer first ∷ integers_in first last false
next_last l from to inclusive first last is at closed ef el =
    ap items_left is ∙ (λ i. integers_in from (sym at i) (closed i)) ∙ integer_last from
    ∙ (λ i. integer (sym ef i) ∷ integers_in (sym ef i) ((at ∙ sym el) i) false)

pub none_next : (l : Left) (from to : ℤ) (inclusive : Bool) → l ≡ left.Range from to inclusive →
    to ≤ℤ from → (inclusive ≡ true → ¬ (from ≡ to)) → items_left l ≡ []
none_next l from to inclusive is le apart =
    ap items_left is ∙ integers_over from to inclusive le apart

-- ---- whether there is a first

module _ {A : Type 0} where
  some_left : (xs : List A) (n : ℕ) → n < length xs → false ≡ is_none (first_of (drop n xs))
  some_left [] n within = absurd (omega (arith, within))
  some_left (x ∷ xs) zero within = refl
  some_left (x ∷ xs) (suc n) within = some_left xs n (omega (arith, within))

  -- the rest of a list has a first item where it is not over
  pub rest_over : (xs : List A) (n : ℕ) → nat_le (length xs) n ≡ is_none (first_of (drop n xs))
  rest_over xs n = at (nat_le (length xs) n) refl where
    at : (b : Bool) → nat_le (length xs) n ≡ b → nat_le (length xs) n ≡ is_none (first_of (drop n xs))
    at true le = rw (le, drop_all n xs (leb-true (length xs) n le)) refl
    at false more = more ∙ some_left xs n (omega (arith, leb-false (length xs) n more))

  pub map_over : {B : Type 0} (f : A → B) (xs : List A) →
      is_none (first_of xs) ≡ is_none (first_of (map f xs))
  map_over f [] = refl
  map_over f (x ∷ xs) = refl

-- the integers of a range that has some, of one that is at its end, and of one that is past it
pub below_some : (from to : ℤ) (inclusive : Bool) → from <ℤ to →
    false ≡ is_none (first_of (integers_in from to inclusive))
below_some from to inclusive lt = rw (integer_below from to inclusive lt) refl

pub last_some : (from to : ℤ) (inclusive : Bool) → from ≡ to →
    not inclusive ≡ is_none (first_of (integers_in from to inclusive))
last_some from to true at = rw (← at, integer_last from) refl
last_some from to false at =
    rw (integers_over from to false (omega (arith, ints)) (λ closed. absurd cc)) refl

pub past_none : (from to : ℤ) (inclusive : Bool) → to <ℤ from →
    true ≡ is_none (first_of (integers_in from to inclusive))
past_none from to inclusive lt =
    rw (integers_over from to inclusive (omega (arith, ints))
    (λ closed at. absurd (omega (arith, ints)))) refl

-- a value has the cell that its tree is
pub tree_cell : (d : Dynamic) → cell_of (value_of (tree d)) ≡ cell_of d
tree_cell d = ap cell_of (value_of-tree d)

-- a value of a list is its first item from there on
pub cell_first : (values : List Tree) (n : ℕ) (d : Dynamic) → slice_get values n ≡ Some (tree d) →
    cell_of d ≡ first_cell (drop n values)
cell_first values n d is = rw (first_at values n (n + 1) (tree d) is refl) (sym (tree_cell d))

-- an item that is no value of a list is no cell
pub plain_first : (l : Left) → ((values : List Tree) (n : ℕ) → ¬ (l ≡ left.Values values n)) →
    None ≡ first_cell (items_left l)
plain_first (left.Values values n) other = absurd (other values n refl)
plain_first (left.Bytes bytes n) other = bytes_first (drop n bytes) where
  bytes_first : (bs : List ℕ) → None ≡ first_cell (map (λ b. integer (pos b)) bs)
  bytes_first [] = refl
  bytes_first (b ∷ bs) = refl
plain_first (left.Characters text n) other = text_first (is_utf8 (drop n text)) refl where
  characters_first : (cs : List ℕ) → None ≡ first_cell (map character cs)
  characters_first [] = refl
  characters_first (c ∷ cs) = refl

  text_first : (b : Bool) → is_utf8 (drop n text) ≡ b →
      None ≡ first_cell (characters_in (drop n text))
  text_first true is = rw is (characters_first (chars (drop n text)))
  text_first false is = rw is refl
plain_first (left.Range from to inclusive) other =
    integers_first from (range_length from to inclusive) where
      integers_first : (z : ℤ) (n : ℕ) → None ≡ first_cell (integers_from z n)
      integers_first z zero = refl
      integers_first z (suc n) = refl
