-- A quoted text is read as that text.
use Rattle.std.proofs.Common.{◌≡◌, ◌∷◌, ◌++◌, ◌==◌, ◌&&◌, ℕ, Bool, true, false, cond, List, [], Some, refl, sym, ap, ◌∙◌, eqb-true, append_assoc}
use Rattle.std.specs.List.{flat_map}
use Rattle.std.specs.Char.{encode_utf8}
use Rattle.std.specs.Str.{encode_utf8_all, chars, IsUtf8}
use Rattle.std.proofs.Math.Utf8.{scalar, scalars}
use Rattle.std.proofs.lemmas.Str.{chars-encodes, encodes-chars, scalars-chars}
use Rattle.grain_value.specs.Quoting.{quoted_text}
use Rattle.grain_value.specs.Quoting.{escaped as escaped_bytes}
use Rattle.grain_words.specs.Words.{quoted, in_front, whole, next_text, is_word_end}
use Rattle.grain_words.specs.Spelled.{between_quotes, quoted_characters, Spells}

-- what a spelled character gives, by the answers of the tests for the characters that are spelled
-- with a backslash
tested : (c : ℕ) (q b n r t : Bool) (rest : List ℕ) → (c == 34) ≡ q → (c == 92) ≡ b →
    (c == 10) ≡ n → (c == 13) ≡ r → (c == 9) ≡ t →
    quoted (cond q (92 ∷ 34 ∷ []) (cond b (92 ∷ 92 ∷ [])
    (cond n (92 ∷ 110 ∷ []) (cond r (92 ∷ 114 ∷ []) (cond t (92 ∷ 116 ∷ []) (c ∷ []))))) ++ rest) ≡
    in_front (encode_utf8 c) (quoted rest)
unfolding encode_utf8
tested c true b n r t rest hq hb hn hr ht = rw (eqb-true c 34 hq) refl
tested c false true n r t rest hq hb hn hr ht = rw (eqb-true c 92 hb) refl
tested c false false true r t rest hq hb hn hr ht = rw (eqb-true c 10 hn) refl
tested c false false false true t rest hq hb hn hr ht = rw (eqb-true c 13 hr) refl
tested c false false false false true rest hq hb hn hr ht = rw (eqb-true c 9 ht) refl
tested c false false false false false rest hq hb hn hr ht = rw (hq, hb) refl

one : (c : ℕ) (rest : List ℕ) →
    quoted (between_quotes c ++ rest) ≡ in_front (encode_utf8 c) (quoted rest)
one c rest = tested c (c == 34) (c == 92) (c == 10) (c == 13) (c == 9) rest refl refl refl refl refl

pub inside : (cs rest : List ℕ) → quoted (flat_map between_quotes cs ++ 34 ∷ rest) ≡
    Some (encode_utf8_all cs, rest)
inside [] rest = refl
inside (c ∷ cs) rest =
    ap quoted (append_assoc (between_quotes c) (flat_map between_quotes cs) (34 ∷ rest)) ∙
    one c (flat_map between_quotes cs ++ 34 ∷ rest) ∙ ap (in_front (encode_utf8 c)) (inside cs rest)

ended : (t rest : List ℕ) → is_word_end rest ≡ true → whole (Some (t, rest)) ≡ Some (t, rest)
ended t rest h = rw h refl

pub quoted_read : (cs rest : List ℕ) → is_word_end rest ≡ true →
    next_text (quoted_characters cs ++ rest) ≡ Some (encode_utf8_all cs, rest)
quoted_read cs rest h =
    ap (λ l. whole (quoted l)) (append_assoc (flat_map between_quotes cs) (34 ∷ []) rest) ∙
    ap whole (inside cs rest) ∙ ended (encode_utf8_all cs) rest h

-- the same of a text as it is written
ends : (b c : Bool) → b ≡ true → c ≡ true → b && c ≡ true
ends b c hb hc = rw (hb, hc) refl

spelled : (c : ℕ) (q b n r t : Bool) (rest : List ℕ) → (c == 34) ≡ q → (c == 92) ≡ b →
    (c == 10) ≡ n → (c == 13) ≡ r → (c == 9) ≡ t →
    encode_utf8_all (cond q (92 ∷ 34 ∷ []) (cond b (92 ∷ 92 ∷ []) (cond n (92 ∷ 110 ∷ [])
    (cond r (92 ∷ 114 ∷ []) (cond t (92 ∷ 116 ∷ []) (c ∷ []))))) ++ rest) ≡
    cond q (92 ∷ 34 ∷ []) (cond b (92 ∷ 92 ∷ []) (cond n (92 ∷ 110 ∷ []) (cond r (92 ∷ 114 ∷ [])
    (cond t (92 ∷ 116 ∷ []) (encode_utf8 c))))) ++ encode_utf8_all rest
unfolding encode_utf8
spelled c true b n r t rest hq hb hn hr ht = refl
spelled c false true n r t rest hq hb hn hr ht = refl
spelled c false false true r t rest hq hb hn hr ht = refl
spelled c false false false true t rest hq hb hn hr ht = refl
spelled c false false false false true rest hq hb hn hr ht = refl
spelled c false false false false false rest hq hb hn hr ht = refl

all_spelled : (cs : List ℕ) → encode_utf8_all (flat_map between_quotes cs ++ 34 ∷ []) ≡
    flat_map escaped_bytes cs ++ 34 ∷ []
unfolding encode_utf8
all_spelled [] = refl
all_spelled (c ∷ cs) =
    ap encode_utf8_all (append_assoc (between_quotes c) (flat_map between_quotes cs) (34 ∷ [])) ∙
    spelled c (c == 34) (c == 92) (c == 10) (c == 13) (c == 9)
    (flat_map between_quotes cs ++ 34 ∷ []) refl refl refl refl refl ∙
    ap (λ l. escaped_bytes c ++ l) (all_spelled cs) ∙
    sym (append_assoc (escaped_bytes c) (flat_map escaped_bytes cs) (34 ∷ []))

scalar_one : (c : ℕ) (q b n r t : Bool) (rest : List ℕ) → scalar c ≡ true → scalars rest ≡ true →
    scalars (cond q (92 ∷ 34 ∷ []) (cond b (92 ∷ 92 ∷ []) (cond n (92 ∷ 110 ∷ [])
    (cond r (92 ∷ 114 ∷ []) (cond t (92 ∷ 116 ∷ []) (c ∷ []))))) ++ rest) ≡ true
scalar_one c true b n r t rest h hs = hs
scalar_one c false true n r t rest h hs = hs
scalar_one c false false true r t rest h hs = hs
scalar_one c false false false true t rest h hs = hs
scalar_one c false false false false true rest h hs = hs
scalar_one c false false false false false rest h hs = ends (scalar c) (scalars rest) h hs

left_true : (b c : Bool) → b && c ≡ true → b ≡ true
left_true true c h = refl
left_true false c h = h

right_true : (b c : Bool) → b && c ≡ true → c ≡ true
right_true true c h = h
right_true false c h = absurd cc

all_scalar : (cs : List ℕ) → scalars cs ≡ true →
    scalars (flat_map between_quotes cs ++ 34 ∷ []) ≡ true
all_scalar [] h = refl
all_scalar (c ∷ cs) h =
    ap scalars (append_assoc (between_quotes c) (flat_map between_quotes cs) (34 ∷ [])) ∙
    scalar_one c (c == 34) (c == 92) (c == 10) (c == 13) (c == 9)
    (flat_map between_quotes cs ++ 34 ∷ []) (left_true (scalar c) (scalars cs) h)
    (all_scalar cs (right_true (scalar c) (scalars cs) h))

written : (cs : List ℕ) → encode_utf8_all (quoted_characters cs) ≡
    34 ∷ (flat_map escaped_bytes cs ++ 34 ∷ [])
unfolding encode_utf8
written cs = ap (λ l. 34 ∷ l) (all_spelled cs)

-- the characters are those of the text as it is written
pub written_spelled : (s : List ℕ) → IsUtf8 s → Spells (quoted_characters (chars s)) (quoted_text s)
written_spelled s valid =
    let all = all_scalar (chars s) (scalars-chars s valid) in (
      (quoted_characters (chars s), (all, written (chars s))),
      ap chars (sym (written (chars s))) ∙ chars-encodes (quoted_characters (chars s)) all,
    )

pub written_read : (s rest : List ℕ) → IsUtf8 s → is_word_end rest ≡ true →
    next_text (chars (quoted_text s) ++ rest) ≡ Some (s, rest)
written_read s rest valid h =
    ap (λ l. next_text (chars l ++ rest)) (sym (written (chars s))) ∙
    ap (λ l. next_text (l ++ rest)) (chars-encodes (quoted_characters (chars s))
    (all_scalar (chars s) (scalars-chars s valid))) ∙
    quoted_read (chars s) rest h ∙
    ap (λ (t : List ℕ). Some (t, rest)) (encodes-chars s valid)
