-- Values are read as they are written.
use Rattle.std.proofs.Common.{◌≡◌, ◌≤◌, ◌<◌, ◌^◌, ◌-◌, ◌==◌, ◌&&◌, not, ℕ, zero, suc, ℤ, Bool, true, false, List, [], ◌∷◌, ◌++◌, length, Some, None, codes, refl, sym, ap, ◌∙◌, arith, le-ltb, eqb-true, append-nil}
use Rattle.std.specs.Fmt.{decimal, signed_decimal}
use Rattle.std.specs.List.{flat_map}
use Rattle.std.specs.Str.{chars, IsUtf8}
use Rattle.std.proofs.lemmas.Str.{encodes-chars}
use Rattle.grain_value.specs.laws.Same.{pack-unpack, pack-unpack_fields}
use Rattle.grain_value.specs.Tree.{Tree, Trees, Fields, unit, boolean, integer, character, text, array, blob, dict, pointer, range, foreign, cell, no_trees, more_trees, no_fields, more_fields, pack, unpack, pack_fields, unpack_fields}
use Rattle.grain_value.specs.Writing.{quoted_tree}
use Rattle.grain_words.specs.lemmas.Spelling.{spells_none}
use Rattle.grain_words.specs.Spelled.{IsLong, begins_integer, between_quotes}
use Rattle.grain_words.specs.Words.{up_to, ends_integer, is_gap, skip_gaps, trim_start, after_text, integer_here, quoted}
use Rattle.grain_literals.specs.Listed.{IsListed, AreListed, FieldsAreListed}
use Rattle.grain_literals.specs.Values.{Found, made, onto, closed, bounds, kind_and_number, flat, others, listed, entry_here, put_all, value}
use Rattle.grain_literals.proofs.SpelledValues.{spell, spell_text, spell_pair, spell_others, spell_other_fields, spell_append, longer, entry_longer}
use Rattle.grain_literals.proofs.ValuesSpelled.{Laws, spells}
use Rattle.grain_literals.proofs.MapsRead.{put_ascending}

-- neither a blank, a semicolon nor a closing bracket
abbrev is_opening : ℕ → Bool
is_opening c = not (is_gap c) && (not (c == 59) && not (c == 93))

abbrev pub opens : List ℕ → Bool
opens [] = false
opens (c ∷ cs) = is_opening c

both_true : (b c : Bool) → b ≡ true → c ≡ true → b && c ≡ true
both_true b c hb hc = rw (hb, hc) refl

first_true : (b c : Bool) → b && c ≡ true → b ≡ true
first_true true c h = refl
first_true false c h = h

second_true : (b c : Bool) → b && c ≡ true → c ≡ true
second_true true c h = h
second_true false c h = absurd cc

not_true : (b : Bool) → not b ≡ true → b ≡ false
not_true true h = absurd cc
not_true false h = refl

-- a sign that ends integers begins none
other : (c k : ℕ) → ends_integer c ≡ false → ends_integer k ≡ true → (c == k) ≡ false
other c k hc hk = at (c == k) refl where
  at : (b : Bool) → (c == k) ≡ b → b ≡ false
  at false e = refl
  at true e =
      let same : ends_integer k ≡ false = sym (ap ends_integer (eqb-true c k e)) ∙ hc in
      sym hk ∙ same

integer_opens : (w rest : List ℕ) → begins_integer w ≡ true → opens (w ++ rest) ≡ true
integer_opens [] rest h = absurd cc
integer_opens (c ∷ cs) rest h =
    let begun : ends_integer c ≡ false = not_true (ends_integer c) h in
    rw (other c 32 begun refl, other c 9 begun refl, other c 59 begun refl, other c 93 begun refl)
    refl

-- what follows a value's text begins with no digit and no minus
abbrev pub Ends : List ℕ → Type 0
Ends rest = up_to ends_integer rest ≡ []

pub value_opens : Laws → (levels : ℕ) (t : Tree) → IsListed levels t → (rest : List ℕ) →
    opens (spell t rest) ≡ true
value_opens laws levels unit l rest = refl
value_opens laws levels (boolean true) l rest = refl
value_opens laws levels (boolean false) l rest = refl
value_opens laws levels (integer z) l rest =
    integer_opens (signed_decimal z) rest (laws.integer_begun z l)
value_opens laws levels (character c) l rest = refl
value_opens laws levels (text s) l rest = refl
value_opens laws levels (array ts) l rest = refl
value_opens laws levels (blob s) l rest = refl
value_opens laws levels (dict es) l rest = refl
value_opens laws levels (pointer name ts) l rest = refl
value_opens laws levels (range a b true) l rest = refl
value_opens laws levels (range a b false) l rest = refl
value_opens laws levels (foreign k n) l rest = refl
value_opens laws levels (cell n) l rest = absurd l

no_gaps : (cs : List ℕ) → opens cs ≡ true → skip_gaps cs ≡ cs
no_gaps [] h = absurd cc
no_gaps (c ∷ cs) h =
    rw (not_true (is_gap c) (first_true (not (is_gap c)) (not (c == 59) && not (c == 93)) h)) refl

pub not_trimmed : (cs : List ℕ) → opens cs ≡ true → trim_start cs ≡ cs
not_trimmed [] h = absurd cc
not_trimmed (c ∷ cs) h =
    let gap =
    not_true (is_gap c) (first_true (not (is_gap c)) (not (c == 59) && not (c == 93)) h) in
    let more = second_true (not (is_gap c)) (not (c == 59) && not (c == 93)) h in
    rw (gap, not_true (c == 59) (first_true (not (c == 59)) (not (c == 93)) more)) refl

no_bracket : (cs : List ℕ) → opens cs ≡ true → after_text (codes "]") cs ≡ None
no_bracket [] h = absurd cc
no_bracket (c ∷ cs) h =
    let more = second_true (not (is_gap c)) (not (c == 59) && not (c == 93)) h in
    rw (not_true (c == 93) (second_true (not (c == 59)) (not (c == 93)) more)) refl

-- a value that has none inside is read alike at each level
flat_value : (levels : ℕ) (cs : List ℕ) → after_text (codes "[") cs ≡ None →
    after_text (codes "#{") cs ≡ None → after_text (codes "fn(") cs ≡ None →
    value levels cs ≡ flat cs
unfolding value
flat_value zero cs a b c = refl
flat_value (suc n) cs a b c = rw (a, b, c) refl

integer_flat : (levels : ℕ) (z : ℤ) (w rest : List ℕ) → begins_integer w ≡ true →
    integer_here (w ++ rest) ≡ Some (z, rest) →
    value levels (w ++ rest) ≡ Some (integer z, rest)
integer_flat levels z [] rest h e = absurd cc
integer_flat levels z (c ∷ cs) rest h e =
    let begun : ends_integer c ≡ false = not_true (ends_integer c) h in
    let flat_is : flat (c ∷ (cs ++ rest)) ≡ made integer (integer_here (c ∷ (cs ++ rest))) =
    rw (
      other c 34 begun refl,
      other c 98 begun refl,
      other c 40 begun refl,
      other c 116 begun refl,
      other c 102 begun refl,
      other c 39 begun refl,
      other c 114 begun refl,
    )
    refl in
    flat_value levels (c ∷ (cs ++ rest)) (rw (other c 91 begun refl) refl)
    (rw (other c 35 begun refl) refl) (rw (other c 102 begun refl) refl) ∙ flat_is ∙
    ap (made integer) e

abbrev found : {A : Type 0} → A → List ℕ → Found A
found x rest = Some (x, rest)

text_found : Laws → (s rest : List ℕ) → IsUtf8 s →
    quoted (flat_map between_quotes (chars s) ++ 34 ∷ rest) ≡ Some (s, rest)
text_found laws s rest valid =
    laws.text_read (chars s) rest ∙ ap (λ (x : List ℕ). Some (x, rest)) (encodes-chars s valid)

bounds_read : Laws → (a b : ℤ) (rest : List ℕ) → IsLong a → IsLong b →
    closed (codes ")") (bounds (spell_pair (signed_decimal a) (signed_decimal b) rest)) ≡
    Some ((a, b), rest)
bounds_read laws a b rest ha hb =
    let second : List ℕ = signed_decimal b ++ 41 ∷ rest in
    let first_is = laws.integer_read a (44 ∷ 32 ∷ second) ha refl in
    let gaps : skip_gaps second ≡ second =
    no_gaps second (integer_opens (signed_decimal b) (41 ∷ rest) (laws.integer_begun b hb)) in
    let second_is = laws.integer_read b (41 ∷ rest) hb refl in
    rw (first_is, gaps, second_is) refl

kind_read : Laws → (k n : ℕ) (rest : List ℕ) → 16 ≤ k → k < 2 ^ 32 → n < 2 ^ 64 →
    closed (codes ")") (kind_and_number (spell_pair (decimal k) (decimal n) rest)) ≡
    Some ((k, n), rest)
kind_read laws k n rest least hk hn =
    let second : List ℕ = decimal n ++ 41 ∷ rest in
    let first_is = laws.number_read (2 ^ 32 - 1) k (44 ∷ 32 ∷ second) (omega arith) (omega arith)
    refl in
    let gaps : skip_gaps second ≡ second =
    no_gaps second (integer_opens (decimal n) (41 ∷ rest) (laws.number_begun n hn)) in
    let second_is = laws.number_read (2 ^ 64 - 1) n (41 ∷ rest) (omega arith) hn refl in
    rw (first_is, le-ltb k 16 least, gaps, second_is) refl

others_end : (ts : Trees) (c : ℕ) (rest : List ℕ) → ends_integer c ≡ true →
    Ends (spell_others ts (c ∷ rest))
others_end no_trees c rest h = rw h refl
others_end (more_trees t ts) c rest h = refl

fields_end : (es : Fields) (rest : List ℕ) → Ends (spell_other_fields es (125 ∷ rest))
fields_end no_fields rest = refl
fields_end (more_fields k t es) rest = refl

-- one thing more of a list
list_over : {A : Type 0} (c : ℕ) (read : List ℕ → Found A) (n : ℕ) (rest : List ℕ) →
    (c == c) ≡ true → length (c ∷ rest) ≤ n →
    others (c ∷ []) read n (c ∷ rest) ≡ Some ([], rest)
unfolding others
list_over c read zero rest same h = absurd (omega arith)
list_over c read (suc n) rest same h = rw same refl

list_more : {A : Type 0} (c : ℕ) (read : List ℕ → Found A) (n : ℕ) (x : A) (xs : List A)
    (cs after rest : List ℕ) → (44 == c) ≡ false → opens cs ≡ true → read cs ≡ Some (x, after) →
    length (44 ∷ 32 ∷ cs) ≤ n → length after ≤ length cs →
    ((m : ℕ) → length after ≤ m → others (c ∷ []) read m after ≡ Some (xs, rest)) →
    others (c ∷ []) read n (44 ∷ 32 ∷ cs) ≡ Some (x ∷ xs, rest)
unfolding others
list_more c read zero x xs cs after rest going open_ is h less more = absurd (omega arith)
list_more c read (suc n) x xs cs after rest going open_ is h less more =
    rw (going, no_gaps cs open_, is) (ap (onto x) (more n (omega arith)))

listed_more : {A : Type 0} (c : ℕ) (read : List ℕ → Found A) (x : A) (xs : List A)
    (cs after rest : List ℕ) → after_text (c ∷ []) cs ≡ None → read cs ≡ Some (x, after) →
    others (c ∷ []) read (length after) after ≡ Some (xs, rest) →
    listed (c ∷ []) read cs ≡ Some (x ∷ xs, rest)
listed_more c read x xs cs after rest going is more = rw (going, is) (ap (onto x) more)

entry_found : Laws → (read : List ℕ → Found Tree) (k : List ℕ) (t : Tree) (cs after : List ℕ) →
    IsUtf8 k → opens cs ≡ true → read cs ≡ Some (t, after) →
    entry_here read (spell_text k (58 ∷ 32 ∷ cs)) ≡ Some ((k, t), after)
entry_found laws read k t cs after valid open_ is =
    rw (text_found laws k (58 ∷ 32 ∷ cs) valid, no_gaps cs open_, is) refl

mutual
  unfolding value

  pub value_read : Laws → (levels : ℕ) (t : Tree) → IsListed levels t → (rest : List ℕ) →
      Ends rest → value levels (spell t rest) ≡ Some (t, rest)
  value_read laws levels unit l rest e = flat_value levels (40 ∷ 41 ∷ rest) refl refl refl
  value_read laws levels (boolean true) l rest e =
      flat_value levels (codes "true" ++ rest) refl refl refl
  value_read laws levels (boolean false) l rest e =
      flat_value levels (codes "false" ++ rest) refl refl refl
  value_read laws levels (integer z) l rest e =
      integer_flat levels z (signed_decimal z) rest (laws.integer_begun z l)
      (laws.integer_read z rest l e)
  value_read laws levels (character c) l rest e =
      flat_value levels (spell (character c) rest) refl refl refl ∙
      ap (made character) (laws.character_read c rest)
  value_read laws levels (text s) l rest e =
      flat_value levels (spell_text s rest) refl refl refl ∙
      ap (made text) (text_found laws s rest l)
  value_read laws zero (array ts) l rest e = absurd l
  value_read laws (suc levels) (array no_trees) l rest e = refl
  value_read laws (suc levels) (array (more_trees t ts)) l rest e =
      let after : List ℕ = spell_others ts (93 ∷ rest) in
      ap (made (λ us. array (pack us))) (listed_more 93 (value levels) t (unpack ts) (spell t after)
      after rest (no_bracket (spell t after) (value_opens laws levels t l.0 after))
      (value_read laws levels t l.0 after (others_end ts 93 rest refl))
      (others_read laws levels ts l.1 93 rest refl refl refl (length after) (omega arith))) ∙
      ap (λ us. found (array (more_trees t us)) rest) (pack-unpack ts)
  value_read laws levels (blob s) l rest e =
      flat_value levels (spell (blob s) rest) refl refl refl ∙
      ap (made blob) (laws.bytes_read s rest l)
  value_read laws zero (dict es) l rest e = absurd l
  value_read laws (suc levels) (dict no_fields) l rest e = refl
  value_read laws (suc levels) (dict (more_fields k t es)) l rest e =
      let after : List ℕ = spell_other_fields es (125 ∷ rest) in
      ap (made (λ us. dict (pack_fields (put_all [] us))))
      (listed_more 125 (entry_here (value levels)) (k, t) (unpack_fields es)
      (spell_text k (58 ∷ 32 ∷ spell t after)) after rest refl
      (entry_found laws (value levels) k t (spell t after) after l.0.0
      (value_opens laws levels t l.0.1.0 after)
      (value_read laws levels t l.0.1.0 after (fields_end es rest)))
      (fields_read laws levels es l.0.1.1 rest (length after) (omega arith))) ∙
      ap (λ us. found (dict (pack_fields us)) rest)
      (put_ascending ((k, t) ∷ unpack_fields es) l.1) ∙
      ap (λ us. found (dict (more_fields k t us)) rest) (pack-unpack_fields es)
  value_read laws zero (pointer name ts) l rest e = absurd l
  value_read laws (suc levels) (pointer name ts) l rest e =
      let after : List ℕ = spell_others ts (41 ∷ rest) in
      rw (text_found laws name after l.0)
      (ap (made (λ us. pointer name (pack us)))
      (others_read laws levels ts l.1 41 rest refl refl refl (length after) (omega arith)) ∙
      ap (λ us. found (pointer name us) rest) (pack-unpack ts))
  value_read laws levels (range a b true) l rest e =
      flat_value levels (spell (range a b true) rest) refl refl refl ∙
      ap (made (λ x. range x.0 x.1 true)) (bounds_read laws a b rest l.0 l.1)
  value_read laws levels (range a b false) l rest e =
      flat_value levels (spell (range a b false) rest) refl refl refl ∙
      ap (made (λ x. range x.0 x.1 false)) (bounds_read laws a b rest l.0 l.1)
  value_read laws levels (foreign k n) l rest e =
      flat_value levels (spell (foreign k n) rest) refl refl refl ∙
      ap (made (λ x. foreign x.0 x.1)) (kind_read laws k n rest l.0 l.1.0 l.1.1)
  value_read laws levels (cell n) l rest e = absurd l

  others_read : Laws → (levels : ℕ) (ts : Trees) → AreListed levels ts → (c : ℕ) (rest : List ℕ) →
      (c == c) ≡ true → (44 == c) ≡ false → ends_integer c ≡ true → (m : ℕ) →
      length (spell_others ts (c ∷ rest)) ≤ m →
      others (c ∷ []) (value levels) m (spell_others ts (c ∷ rest)) ≡ Some (unpack ts, rest)
  others_read laws levels no_trees l c rest same going ends m h =
      list_over c (value levels) m rest same h
  others_read laws levels (more_trees t ts) l c rest same going ends m h =
      let after : List ℕ = spell_others ts (c ∷ rest) in
      list_more c (value levels) m t (unpack ts) (spell t after) after rest going
      (value_opens laws levels t l.0 after)
      (value_read laws levels t l.0 after (others_end ts c rest ends)) h (longer t after)
      (λ k b. others_read laws levels ts l.1 c rest same going ends k b)

  fields_read : Laws → (levels : ℕ) (es : Fields) → FieldsAreListed levels es →
      (rest : List ℕ) (m : ℕ) → length (spell_other_fields es (125 ∷ rest)) ≤ m →
      others (codes "}") (entry_here (value levels)) m (spell_other_fields es (125 ∷ rest)) ≡
      Some (unpack_fields es, rest)
  fields_read laws levels no_fields l rest m h =
      list_over 125 (entry_here (value levels)) m rest refl h
  fields_read laws levels (more_fields k t es) l rest m h =
      let after : List ℕ = spell_other_fields es (125 ∷ rest) in
      list_more 125 (entry_here (value levels)) m (k, t) (unpack_fields es)
      (spell_text k (58 ∷ 32 ∷ spell t after)) after rest refl refl
      (entry_found laws (value levels) k t (spell t after) after l.0
      (value_opens laws levels t l.1.0 after)
      (value_read laws levels t l.1.0 after (fields_end es rest))) h (entry_longer k t after)
      (λ n b. fields_read laws levels es l.1.1 rest n b)

pub characters_of : Laws → (levels : ℕ) (t : Tree) → IsListed levels t →
    chars (quoted_tree t) ≡ spell t []
characters_of laws levels t l =
    let s = spells laws levels t l [] [] spells_none in
    ap chars (sym (append-nil (quoted_tree t))) ∙ s.1

pub text_of_value_read : Laws → (levels : ℕ) (t : Tree) → IsListed levels t → (rest : List ℕ) →
    Ends rest → value levels (chars (quoted_tree t) ++ rest) ≡ Some (t, rest)
text_of_value_read laws levels t l rest e =
    ap (λ cs. value levels (cs ++ rest)) (characters_of laws levels t l) ∙
    ap (value levels) (spell_append t [] rest) ∙ value_read laws levels t l rest e
