-- The characters of a value are those of its text.
use Rattle.std.proofs.Common.{◌≡◌, ◌≤◌, ◌<◌, ◌^◌, ◌&&◌, ℕ, zero, suc, ℤ, Bool, true, false, List, [], ◌∷◌, ◌++◌, Some, codes, nat_lt, refl, sym, ap, ◌∙◌, arith, subst, append_assoc}
use Rattle.std.proofs.lemmas.Bool.Decides.{Decides-ltb}
use Rattle.std.specs.Char.{IsScalar}
use Rattle.std.specs.Fmt.{decimal, signed_decimal}
use Rattle.std.specs.List.{flat_map, list_all, AllByRecursion}
use Rattle.std.specs.Str.{chars, IsUtf8, encode_utf8_all}
use Rattle.grain_value.specs.Quoting.{quoted_text, quoted_character}
use Rattle.grain_value.specs.Tree.{Tree, Trees, Fields, unit, boolean, integer, character, text, array, blob, dict, pointer, range, foreign, cell, no_trees, more_trees, no_fields, more_fields}
use Rattle.grain_value.specs.Writing.{quoted_tree, items_text, fields_text, hex_byte, range_word}
use Rattle.grain_words.specs.lemmas.Spelling.{spells_append, one_ascii}
use Rattle.grain_words.specs.Characters as characters
use Rattle.grain_words.specs.Bytes.{hex_bytes}
use Rattle.grain_words.specs.Spelled.{IsLong, Spells, begins_integer, between_quotes, between_apostrophes, quoted_characters}
use Rattle.grain_words.specs.Words.{up_to, ends_integer, integer_here, number_here, quoted}
use Rattle.grain_literals.specs.Listed.{IsListed, AreListed, FieldsAreListed}
use Rattle.grain_literals.proofs.SpelledValues.{spell, spell_text, spell_pair, spell_items, spell_others, spell_fields, spell_other_fields}

-- what the crate of words says of texts that are written
pub record Laws : Type 0 where
  pub integer_read : (z : ℤ) (rest : List ℕ) → IsLong z → up_to ends_integer rest ≡ [] →
      integer_here (signed_decimal z ++ rest) ≡ Some (z, rest)
  pub number_read : (most n : ℕ) (rest : List ℕ) → n ≤ most → n < 2 ^ 64 →
      up_to ends_integer rest ≡ [] → number_here most (decimal n ++ rest) ≡ Some (n, rest)
  pub number_begun : (n : ℕ) → n < 2 ^ 64 → begins_integer (decimal n) ≡ true
  pub integer_begun : (z : ℤ) → IsLong z → begins_integer (signed_decimal z) ≡ true
  pub integer_spelled : (z : ℤ) → IsLong z → Spells (signed_decimal z) (signed_decimal z)
  pub number_spelled : (n : ℕ) → n < 2 ^ 64 → Spells (decimal n) (decimal n)
  pub character_read : (c : ℕ) (rest : List ℕ) →
      characters.character (between_apostrophes c ++ 39 ∷ rest) ≡ Some (c, rest)
  pub character_spelled : (c : ℕ) → IsScalar c →
      Spells (39 ∷ (between_apostrophes c ++ 39 ∷ [])) (quoted_character c)
  pub bytes_read : (bytes rest : List ℕ) → AllByRecursion (λ b. b < 2 ^ 8) bytes →
      hex_bytes (flat_map hex_byte bytes ++ 41 ∷ rest) ≡ Some (bytes, rest)
  pub bytes_spelled : (bytes : List ℕ) → AllByRecursion (λ b. b < 2 ^ 8) bytes →
      Spells (flat_map hex_byte bytes) (flat_map hex_byte bytes)
  pub text_read : (cs rest : List ℕ) → quoted (flat_map between_quotes cs ++ 34 ∷ rest) ≡
      Some (encode_utf8_all cs, rest)
  pub text_spelled : (s : List ℕ) → IsUtf8 s →
      Spells (quoted_characters (chars s)) (quoted_text s)

-- ASCII characters in front
front : (w cs bytes : List ℕ) → list_all (λ c. nat_lt c 128) w ≡ true → Spells cs bytes →
    Spells (w ++ cs) (w ++ bytes)
front [] cs bytes h s = s
front (c ∷ w) cs bytes h s = at (nat_lt c 128) refl (λ k. front w cs bytes k s) h where
  at : (b : Bool) → nat_lt c 128 ≡ b →
      (list_all (λ d. nat_lt d 128) w ≡ true → Spells (w ++ cs) (w ++ bytes)) →
      b && list_all (λ d. nat_lt d 128) w ≡ true → Spells (c ∷ (w ++ cs)) (c ∷ (w ++ bytes))
  at true e more rest =
      one_ascii c (w ++ cs) (w ++ bytes) ((Decides-ltb c 128).0 e) (more rest)
  at false e more rest = absurd cc

same_bytes : (cs xs ys : List ℕ) → xs ≡ ys → Spells cs xs → Spells cs ys
same_bytes cs xs ys e s = subst (λ l. Spells cs l) e s

same_characters : (cs ds bytes : List ℕ) → cs ≡ ds → Spells cs bytes → Spells ds bytes
same_characters cs ds bytes e s = subst (λ l. Spells l bytes) e s

text_front : Laws → (s : List ℕ) → IsUtf8 s → (rest bytes : List ℕ) → Spells rest bytes →
    Spells (spell_text s rest) (quoted_text s ++ bytes)
text_front laws s valid rest bytes h =
    same_characters (quoted_characters (chars s) ++ rest) (spell_text s rest)
    (quoted_text s ++ bytes)
    (ap (λ l. 34 ∷ l) (append_assoc (flat_map between_quotes (chars s)) (34 ∷ []) rest))
    (spells_append (quoted_characters (chars s)) rest (quoted_text s) bytes
    (laws.text_spelled s valid) h)

character_front : Laws → (c : ℕ) → IsScalar c → (rest bytes : List ℕ) → Spells rest bytes →
    Spells (39 ∷ (between_apostrophes c ++ 39 ∷ rest)) (quoted_character c ++ bytes)
character_front laws c valid rest bytes h =
    same_characters (39 ∷ (between_apostrophes c ++ 39 ∷ []) ++ rest)
    (39 ∷ (between_apostrophes c ++ 39 ∷ rest)) (quoted_character c ++ bytes)
    (ap (λ l. 39 ∷ l) (append_assoc (between_apostrophes c) (39 ∷ []) rest))
    (spells_append (39 ∷ (between_apostrophes c ++ 39 ∷ [])) rest (quoted_character c) bytes
    (laws.character_spelled c valid) h)

pair_front : (a b rest bytes : List ℕ) → Spells a a → Spells b b → Spells rest bytes →
    Spells (spell_pair a b rest) (a ++ 44 ∷ 32 ∷ (b ++ 41 ∷ bytes))
pair_front a b rest bytes ha hb h =
    spells_append a (44 ∷ 32 ∷ (b ++ 41 ∷ rest)) a (44 ∷ 32 ∷ (b ++ 41 ∷ bytes)) ha
    (front (44 ∷ 32 ∷ []) (b ++ 41 ∷ rest) (b ++ 41 ∷ bytes) refl
    (spells_append b (41 ∷ rest) b (41 ∷ bytes) hb (front (41 ∷ []) rest bytes refl h)))

pair_text : (w a b bytes : List ℕ) →
    w ++ (a ++ 44 ∷ 32 ∷ (b ++ 41 ∷ bytes)) ≡ w ++ a ++ 44 ∷ 32 ∷ [] ++ b ++ 41 ∷ [] ++ bytes
pair_text w a b bytes = simp append_assoc

range_front : (i : Bool) (cs bytes : List ℕ) → Spells cs bytes →
    Spells (range_word i ++ cs) (range_word i ++ bytes)
range_front true cs bytes h = front (codes "range=(") cs bytes refl h
range_front false cs bytes h = front (codes "range(") cs bytes refl h

field_front : Laws → (k : List ℕ) → IsUtf8 k → (cs bytes : List ℕ) → Spells cs bytes →
    Spells (spell_text k (58 ∷ 32 ∷ cs)) (quoted_text k ++ 58 ∷ 32 ∷ bytes)
field_front laws k valid cs bytes h =
    text_front laws k valid (58 ∷ 32 ∷ cs) (58 ∷ 32 ∷ bytes)
    (front (58 ∷ 32 ∷ []) cs bytes refl h)

closed_text : (items bytes : List ℕ) (c : ℕ) → items ++ c ∷ bytes ≡ (items ++ c ∷ []) ++ bytes
closed_text items bytes c = sym (append_assoc items (c ∷ []) bytes)

any_text : (a b after bytes : List ℕ) →
    a ++ 58 ∷ 32 ∷ (b ++ (after ++ bytes)) ≡ a ++ 58 ∷ 32 ∷ [] ++ b ++ after ++ bytes
any_text a b after bytes = simp append_assoc

field_text : (k : List ℕ) (t : Tree) (after bytes : List ℕ) →
    quoted_text k ++ 58 ∷ 32 ∷ (quoted_tree t ++ (after ++ bytes)) ≡
    quoted_text k ++ 58 ∷ 32 ∷ [] ++ quoted_tree t ++ after ++ bytes
field_text k t after bytes = any_text (quoted_text k) (quoted_tree t) after bytes

mutual
  pub spells : Laws → (levels : ℕ) (t : Tree) → IsListed levels t → (rest bytes : List ℕ) →
      Spells rest bytes → Spells (spell t rest) (quoted_tree t ++ bytes)
  spells laws levels unit l rest bytes h = front (codes "()") rest bytes refl h
  spells laws levels (boolean true) l rest bytes h = front (codes "true") rest bytes refl h
  spells laws levels (boolean false) l rest bytes h = front (codes "false") rest bytes refl h
  spells laws levels (integer z) l rest bytes h =
      spells_append (signed_decimal z) rest (signed_decimal z) bytes (laws.integer_spelled z l) h
  spells laws levels (character c) l rest bytes h = character_front laws c l rest bytes h
  spells laws levels (text s) l rest bytes h = text_front laws s l rest bytes h
  spells laws zero (array ts) l rest bytes h = absurd l
  spells laws (suc levels) (array ts) l rest bytes h =
      same_bytes (91 ∷ spell_items ts (93 ∷ rest)) (91 ∷ (items_text [] ts ++ 93 ∷ bytes))
      (quoted_tree (array ts) ++ bytes)
      (ap (λ x. 91 ∷ x) (closed_text (items_text [] ts) bytes 93))
      (front (91 ∷ []) (spell_items ts (93 ∷ rest)) (items_text [] ts ++ 93 ∷ bytes) refl
      (items_spelled laws levels ts l (93 ∷ rest) (93 ∷ bytes) (front (93 ∷ []) rest bytes refl h)))
  spells laws levels (blob s) l rest bytes h =
      same_bytes (codes "blob(" ++ (flat_map hex_byte s ++ 41 ∷ rest))
      (codes "blob(" ++ (flat_map hex_byte s ++ 41 ∷ bytes)) (quoted_tree (blob s) ++ bytes)
      (ap (λ x. codes "blob(" ++ x) (closed_text (flat_map hex_byte s) bytes 41))
      (front (codes "blob(") (flat_map hex_byte s ++ 41 ∷ rest) (flat_map hex_byte s ++ 41 ∷ bytes)
      refl (spells_append (flat_map hex_byte s) (41 ∷ rest) (flat_map hex_byte s) (41 ∷ bytes)
      (laws.bytes_spelled s l) (front (41 ∷ []) rest bytes refl h)))
  spells laws zero (dict es) l rest bytes h = absurd l
  spells laws (suc levels) (dict es) l rest bytes h =
      same_bytes (35 ∷ 123 ∷ spell_fields es (125 ∷ rest))
      (35 ∷ 123 ∷ (fields_text [] es ++ 125 ∷ bytes)) (quoted_tree (dict es) ++ bytes)
      (ap (λ x. 35 ∷ 123 ∷ x) (closed_text (fields_text [] es) bytes 125))
      (front (35 ∷ 123 ∷ []) (spell_fields es (125 ∷ rest)) (fields_text [] es ++ 125 ∷ bytes) refl
      (fields_spelled laws levels es l.0 (125 ∷ rest) (125 ∷ bytes)
      (front (125 ∷ []) rest bytes refl h)))
  spells laws zero (pointer name ts) l rest bytes h = absurd l
  spells laws (suc levels) (pointer name ts) l rest bytes h =
      let after = items_text (codes ", ") ts in
      same_bytes (spell (pointer name ts) rest)
      (codes "fn(" ++ (quoted_text name ++ (after ++ 41 ∷ bytes)))
      (quoted_tree (pointer name ts) ++ bytes)
      (ap (λ x. codes "fn(" ++ x) (sym (append_assoc (quoted_text name) after (41 ∷ bytes)) ∙
      closed_text (quoted_text name ++ after) bytes 41))
      (front (codes "fn(") (spell_text name (spell_others ts (41 ∷ rest)))
      (quoted_text name ++ (after ++ 41 ∷ bytes)) refl
      (text_front laws name l.0 (spell_others ts (41 ∷ rest)) (after ++ 41 ∷ bytes)
      (others_spelled laws levels ts l.1 (41 ∷ rest) (41 ∷ bytes)
      (front (41 ∷ []) rest bytes refl h))))
  spells laws levels (range a b i) l rest bytes h =
      same_bytes (spell (range a b i) rest)
      (range_word i ++ (signed_decimal a ++ 44 ∷ 32 ∷ (signed_decimal b ++ 41 ∷ bytes)))
      (quoted_tree (range a b i) ++ bytes)
      (pair_text (range_word i) (signed_decimal a) (signed_decimal b) bytes)
      (range_front i (spell_pair (signed_decimal a) (signed_decimal b) rest)
      (signed_decimal a ++ 44 ∷ 32 ∷ (signed_decimal b ++ 41 ∷ bytes))
      (pair_front (signed_decimal a) (signed_decimal b) rest bytes (laws.integer_spelled a l.0)
      (laws.integer_spelled b l.1) h))
  spells laws levels (foreign k n) l rest bytes h =
      let kind : k < 2 ^ 64 = omega (arith, l.1.0) in
      same_bytes (spell (foreign k n) rest)
      (codes "foreign(" ++ (decimal k ++ 44 ∷ 32 ∷ (decimal n ++ 41 ∷ bytes)))
      (quoted_tree (foreign k n) ++ bytes)
      (pair_text (codes "foreign(") (decimal k) (decimal n) bytes)
      (front (codes "foreign(") (spell_pair (decimal k) (decimal n) rest)
      (decimal k ++ 44 ∷ 32 ∷ (decimal n ++ 41 ∷ bytes)) refl
      (pair_front (decimal k) (decimal n) rest bytes (laws.number_spelled k kind)
      (laws.number_spelled n l.1.1) h))
  spells laws levels (cell n) l rest bytes h = absurd l

  items_spelled : Laws → (levels : ℕ) (ts : Trees) → AreListed levels ts → (rest bytes : List ℕ) →
      Spells rest bytes → Spells (spell_items ts rest) (items_text [] ts ++ bytes)
  items_spelled laws levels no_trees l rest bytes h = h
  items_spelled laws levels (more_trees t ts) l rest bytes h =
      let after = items_text (codes ", ") ts in
      same_bytes (spell t (spell_others ts rest)) (quoted_tree t ++ (after ++ bytes))
      (items_text [] (more_trees t ts) ++ bytes) (sym (append_assoc (quoted_tree t) after bytes))
      (spells laws levels t l.0 (spell_others ts rest) (after ++ bytes)
      (others_spelled laws levels ts l.1 rest bytes h))

  others_spelled : Laws → (levels : ℕ) (ts : Trees) → AreListed levels ts →
      (rest bytes : List ℕ) → Spells rest bytes →
      Spells (spell_others ts rest) (items_text (codes ", ") ts ++ bytes)
  others_spelled laws levels no_trees l rest bytes h = h
  others_spelled laws levels (more_trees t ts) l rest bytes h =
      let after = items_text (codes ", ") ts in
      same_bytes (44 ∷ 32 ∷ spell t (spell_others ts rest))
      (44 ∷ 32 ∷ (quoted_tree t ++ (after ++ bytes)))
      (items_text (codes ", ") (more_trees t ts) ++ bytes)
      (ap (λ x. 44 ∷ 32 ∷ x) (sym (append_assoc (quoted_tree t) after bytes)))
      (front (44 ∷ 32 ∷ []) (spell t (spell_others ts rest)) (quoted_tree t ++ (after ++ bytes))
      refl (spells laws levels t l.0 (spell_others ts rest) (after ++ bytes)
      (others_spelled laws levels ts l.1 rest bytes h)))

  fields_spelled : Laws → (levels : ℕ) (es : Fields) → FieldsAreListed levels es →
      (rest bytes : List ℕ) → Spells rest bytes →
      Spells (spell_fields es rest) (fields_text [] es ++ bytes)
  fields_spelled laws levels no_fields l rest bytes h = h
  fields_spelled laws levels (more_fields k t es) l rest bytes h =
      same_bytes (spell_fields (more_fields k t es) rest)
      (quoted_text k ++ 58 ∷ 32 ∷ (quoted_tree t ++ (fields_text (codes ", ") es ++ bytes)))
      (fields_text [] (more_fields k t es) ++ bytes)
      (field_text k t (fields_text (codes ", ") es) bytes)
      (field_front laws k l.0 (spell t (spell_other_fields es rest))
      (quoted_tree t ++ (fields_text (codes ", ") es ++ bytes))
      (spells laws levels t l.1.0 (spell_other_fields es rest)
      (fields_text (codes ", ") es ++ bytes)
      (other_fields_spelled laws levels es l.1.1 rest bytes h)))

  other_fields_spelled : Laws → (levels : ℕ) (es : Fields) → FieldsAreListed levels es →
      (rest bytes : List ℕ) → Spells rest bytes →
      Spells (spell_other_fields es rest) (fields_text (codes ", ") es ++ bytes)
  other_fields_spelled laws levels no_fields l rest bytes h = h
  other_fields_spelled laws levels (more_fields k t es) l rest bytes h =
      let after = quoted_text k ++ 58 ∷ 32 ∷
      (quoted_tree t ++ (fields_text (codes ", ") es ++ bytes)) in
      same_bytes (spell_other_fields (more_fields k t es) rest) (44 ∷ 32 ∷ after)
      (fields_text (codes ", ") (more_fields k t es) ++ bytes)
      (ap (λ x. 44 ∷ 32 ∷ x) (field_text k t (fields_text (codes ", ") es) bytes))
      (front (44 ∷ 32 ∷ []) (spell_text k (58 ∷ 32 ∷ spell t (spell_other_fields es rest))) after
      refl (field_front laws k l.0 (spell t (spell_other_fields es rest))
      (quoted_tree t ++ (fields_text (codes ", ") es ++ bytes))
      (spells laws levels t l.1.0 (spell_other_fields es rest)
      (fields_text (codes ", ") es ++ bytes)
      (other_fields_spelled laws levels es l.1.1 rest bytes h))))
