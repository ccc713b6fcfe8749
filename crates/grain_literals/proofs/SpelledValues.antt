-- The characters of a value's text, in front of what follows it.
use Rattle.std.proofs.Common.{◌≡◌, ℕ, ◌≤◌, ◌+◌, List, [], ◌∷◌, ◌++◌, length, codes, refl, ap, ◌∙◌, arith, append_assoc}
use Rattle.std.proofs.lemmas.List.{length-append}
use Rattle.std.specs.Fmt.{decimal, signed_decimal}
use Rattle.std.specs.List.{flat_map}
use Rattle.std.specs.Str.{chars}
use Rattle.grain_value.specs.Tree.{Tree, Trees, Fields, unit, boolean, integer, character, text, array, blob, dict, pointer, range, foreign, cell, no_trees, more_trees, no_fields, more_fields}
use Rattle.grain_value.specs.Writing.{truth, hex_byte, range_word}
use Rattle.grain_words.specs.Spelled.{between_quotes, between_apostrophes}

abbrev pub spell_text : List ℕ → List ℕ → List ℕ
spell_text s rest = 34 ∷ (flat_map between_quotes (chars s) ++ 34 ∷ rest)

-- two numbers, and the bracket after them
abbrev pub spell_pair : List ℕ → List ℕ → List ℕ → List ℕ
spell_pair a b rest = a ++ 44 ∷ 32 ∷ (b ++ 41 ∷ rest)

abbrev mutual
  pub spell : Tree → List ℕ → List ℕ
  spell unit rest = 40 ∷ 41 ∷ rest
  spell (boolean b) rest = truth b ++ rest
  spell (integer z) rest = signed_decimal z ++ rest
  spell (character c) rest = 39 ∷ (between_apostrophes c ++ 39 ∷ rest)
  spell (text s) rest = spell_text s rest
  spell (array ts) rest = 91 ∷ spell_items ts (93 ∷ rest)
  spell (blob s) rest = codes "blob(" ++ (flat_map hex_byte s ++ 41 ∷ rest)
  spell (dict es) rest = 35 ∷ 123 ∷ spell_fields es (125 ∷ rest)
  spell (pointer name ts) rest = codes "fn(" ++ spell_text name (spell_others ts (41 ∷ rest))
  spell (range a b i) rest = range_word i ++ spell_pair (signed_decimal a) (signed_decimal b) rest
  spell (foreign k n) rest = codes "foreign(" ++ spell_pair (decimal k) (decimal n) rest
  spell (cell n) rest = rest

  pub spell_items : Trees → List ℕ → List ℕ
  spell_items no_trees rest = rest
  spell_items (more_trees t ts) rest = spell t (spell_others ts rest)

  pub spell_others : Trees → List ℕ → List ℕ
  spell_others no_trees rest = rest
  spell_others (more_trees t ts) rest = 44 ∷ 32 ∷ spell t (spell_others ts rest)

  pub spell_fields : Fields → List ℕ → List ℕ
  spell_fields no_fields rest = rest
  spell_fields (more_fields k t es) rest =
      spell_text k (58 ∷ 32 ∷ spell t (spell_other_fields es rest))

  pub spell_other_fields : Fields → List ℕ → List ℕ
  spell_other_fields no_fields rest = rest
  spell_other_fields (more_fields k t es) rest =
      44 ∷ 32 ∷ spell_text k (58 ∷ 32 ∷ spell t (spell_other_fields es rest))

text_append : (s a b : List ℕ) → spell_text s a ++ b ≡ spell_text s (a ++ b)
text_append s a b = ap (λ l. 34 ∷ l) (append_assoc (flat_map between_quotes (chars s)) (34 ∷ a) b)

pair_append : (x y a b : List ℕ) → spell_pair x y a ++ b ≡ spell_pair x y (a ++ b)
pair_append x y a b =
    append_assoc x (44 ∷ 32 ∷ (y ++ 41 ∷ a)) b ∙
    ap (λ l. x ++ 44 ∷ 32 ∷ l) (append_assoc y (41 ∷ a) b)

mutual
  pub spell_append : (t : Tree) (a b : List ℕ) → spell t a ++ b ≡ spell t (a ++ b)
  spell_append unit a b = refl
  spell_append (boolean v) a b = append_assoc (truth v) a b
  spell_append (integer z) a b = append_assoc (signed_decimal z) a b
  spell_append (character c) a b =
      ap (λ l. 39 ∷ l) (append_assoc (between_apostrophes c) (39 ∷ a) b)
  spell_append (text s) a b = text_append s a b
  spell_append (array ts) a b = ap (λ l. 91 ∷ l) (items_append ts (93 ∷ a) b)
  spell_append (blob s) a b =
      ap (λ l. codes "blob(" ++ l) (append_assoc (flat_map hex_byte s) (41 ∷ a) b)
  spell_append (dict es) a b = ap (λ l. 35 ∷ 123 ∷ l) (fields_append es (125 ∷ a) b)
  spell_append (pointer name ts) a b =
      ap (λ l. codes "fn(" ++ l) (text_append name (spell_others ts (41 ∷ a)) b ∙
      ap (spell_text name) (others_append ts (41 ∷ a) b))
  spell_append (range x y i) a b =
      append_assoc (range_word i) (spell_pair (signed_decimal x) (signed_decimal y) a) b ∙
      ap (λ l. range_word i ++ l) (pair_append (signed_decimal x) (signed_decimal y) a b)
  spell_append (foreign k n) a b =
      ap (λ l. codes "foreign(" ++ l) (pair_append (decimal k) (decimal n) a b)
  spell_append (cell n) a b = refl

  items_append : (ts : Trees) (a b : List ℕ) → spell_items ts a ++ b ≡ spell_items ts (a ++ b)
  items_append no_trees a b = refl
  items_append (more_trees t ts) a b =
      spell_append t (spell_others ts a) b ∙ ap (spell t) (others_append ts a b)

  others_append : (ts : Trees) (a b : List ℕ) → spell_others ts a ++ b ≡ spell_others ts (a ++ b)
  others_append no_trees a b = refl
  others_append (more_trees t ts) a b =
      ap (λ l. 44 ∷ 32 ∷ l)
      (spell_append t (spell_others ts a) b ∙ ap (spell t) (others_append ts a b))

  fields_append : (es : Fields) (a b : List ℕ) →
      spell_fields es a ++ b ≡ spell_fields es (a ++ b)
  fields_append no_fields a b = refl
  fields_append (more_fields k t es) a b =
      text_append k (58 ∷ 32 ∷ spell t (spell_other_fields es a)) b ∙
      ap (λ l. spell_text k (58 ∷ 32 ∷ l))
      (spell_append t (spell_other_fields es a) b ∙ ap (spell t) (other_fields_append es a b))

  other_fields_append : (es : Fields) (a b : List ℕ) →
      spell_other_fields es a ++ b ≡ spell_other_fields es (a ++ b)
  other_fields_append no_fields a b = refl
  other_fields_append (more_fields k t es) a b =
      ap (λ l. 44 ∷ 32 ∷ l) (
      text_append k (58 ∷ 32 ∷ spell t (spell_other_fields es a)) b ∙
      ap (λ l. spell_text k (58 ∷ 32 ∷ l))
      (spell_append t (spell_other_fields es a) b ∙ ap (spell t) (other_fields_append es a b)))

pub longer : (t : Tree) (rest : List ℕ) → length rest ≤ length (spell t rest)
longer t rest =
    let e : length (spell t [] ++ rest) ≡ length (spell t rest) =
    ap length (spell_append t [] rest) in
    let l : length (spell t [] ++ rest) ≡ length (spell t []) + length rest =
    length-append (spell t []) rest in
    omega (arith, e, l)

text_longer : (s rest : List ℕ) → length rest ≤ length (spell_text s rest)
text_longer s rest =
    let e : length (spell_text s [] ++ rest) ≡ length (spell_text s rest) =
    ap length (text_append s [] rest) in
    let l : length (spell_text s [] ++ rest) ≡ length (spell_text s []) + length rest =
    length-append (spell_text s []) rest in
    omega (arith, e, l)

pub entry_longer : (k : List ℕ) (t : Tree) (rest : List ℕ) →
    length rest ≤ length (spell_text k (58 ∷ 32 ∷ spell t rest))
entry_longer k t rest =
    let a : length rest ≤ length (spell t rest) = longer t rest in
    let b : length (58 ∷ 32 ∷ spell t rest) ≤ length (spell_text k (58 ∷ 32 ∷ spell t rest)) =
    text_longer k (58 ∷ 32 ∷ spell t rest) in
    omega (arith, a, b)
