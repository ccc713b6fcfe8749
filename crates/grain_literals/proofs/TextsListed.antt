-- What is read between quotes and apostrophes is a text, or a character.
use Rattle.std.proofs.Common.{◌≡◌, ◌<◌, ◌+◌, ◌*◌, ◌==◌, ℕ, true, cond, List, [], ◌∷◌, ◌++◌, Some, None, codes, refl, arith}
use Rattle.std.proofs.lemmas.Bool.Decides.{nat_tests}
use Rattle.std.proofs.Math.Utf8.{scalar, scalars}
use Rattle.std.proofs.lemmas.Str.{IsUtf8-nil, IsUtf8-append, IsUtf8-encode}
use Rattle.std.specs.Char.{encode_utf8, digit_value, IsScalar}
use Rattle.std.specs.Str.{IsUtf8}
use Rattle.grain_value.specs.Tree.{character}
use Rattle.grain_words.specs.lemmas.Spelling.{spells_none, one_ascii}
use Rattle.grain_words.specs.Words.{after_text, quoted, escaped, braced, first_digit, digits, in_front, is_character, is_hexadecimal}
use Rattle.grain_words.specs.Characters as characters
use Rattle.grain_words.specs.Characters.{more_digits, all_digits, numbered, escape, character_escape, one_character, before_apostrophe}
use Rattle.grain_literals.specs.Values.{Found}
use Rattle.grain_literals.specs.laws.Scalars.{first, rest_of}
use Rattle.grain_literals.proofs.Yielded.{Yields, Gives, in_made, in_cond, in_test, in_then, in_pair, text_left}

scalar_of : (n : ℕ) → is_character n ≡ true → scalar n ≡ true
scalar_of n h = grind (arith, nat_tests)

one_byte : (c : ℕ) → c < 128 → IsUtf8 (c ∷ [])
one_byte c h = (one_ascii c [] [] h spells_none).0

in_text : (t : List ℕ) (o : Found (List ℕ)) → IsUtf8 t → Yields IsUtf8 o →
    Yields IsUtf8 (in_front t o)
in_text t o valid y = in_made IsUtf8 IsUtf8 (λ u. t ++ u) o y (λ u h. IsUtf8-append t u valid h)

mutual
  pub quoted_gives : (cs : List ℕ) → scalars cs ≡ true → Yields IsUtf8 (quoted cs)
  quoted_gives [] h = tt
  quoted_gives (c ∷ cs) h =
      let more : scalars cs ≡ true = rest_of c cs h in
      in_cond IsUtf8 (c == 34) (Some ([], cs)) _ (IsUtf8-nil, more)
      (in_cond IsUtf8 (c == 92) (escaped cs) (in_front (encode_utf8 c) (quoted cs))
      (escaped_gives cs more)
      (in_text (encode_utf8 c) (quoted cs) (IsUtf8-encode c (first c cs h)) (quoted_gives cs more)))

  escaped_gives : (cs : List ℕ) → scalars cs ≡ true → Yields IsUtf8 (escaped cs)
  escaped_gives [] h = tt
  escaped_gives (c ∷ cs) h =
      let more : scalars cs ≡ true = rest_of c cs h in
      let all : Yields IsUtf8 (quoted cs) = quoted_gives cs more in
      in_cond IsUtf8 (c == 34) (in_front (34 ∷ []) (quoted cs)) _
      (in_text (34 ∷ []) (quoted cs) (one_byte 34 (omega arith)) all)
      (in_cond IsUtf8 (c == 92) (in_front (92 ∷ []) (quoted cs)) _
      (in_text (92 ∷ []) (quoted cs) (one_byte 92 (omega arith)) all)
      (in_cond IsUtf8 (c == 110) (in_front (10 ∷ []) (quoted cs)) _
      (in_text (10 ∷ []) (quoted cs) (one_byte 10 (omega arith)) all)
      (in_cond IsUtf8 (c == 114) (in_front (13 ∷ []) (quoted cs)) _
      (in_text (13 ∷ []) (quoted cs) (one_byte 13 (omega arith)) all)
      (in_cond IsUtf8 (c == 116) (in_front (9 ∷ []) (quoted cs)) _
      (in_text (9 ∷ []) (quoted cs) (one_byte 9 (omega arith)) all)
      (in_cond IsUtf8 (c == 117) (braced cs) None (braced_gives cs more) tt)))))

  braced_gives : (cs : List ℕ) → scalars cs ≡ true → Yields IsUtf8 (braced cs)
  braced_gives [] h = tt
  braced_gives (c ∷ cs) h =
      in_cond IsUtf8 (c == 123) (first_digit cs) None (first_gives cs (rest_of c cs h)) tt

  first_gives : (cs : List ℕ) → scalars cs ≡ true → Yields IsUtf8 (first_digit cs)
  first_gives [] h = tt
  first_gives (c ∷ cs) h =
      in_cond IsUtf8 (is_hexadecimal c) (digits (digit_value c) cs) None
      (digits_give (digit_value c) cs (rest_of c cs h)) tt

  digits_give : (k : ℕ) (cs : List ℕ) → scalars cs ≡ true → Yields IsUtf8 (digits k cs)
  digits_give k [] h = tt
  digits_give k (c ∷ cs) h =
      let more : scalars cs ≡ true = rest_of c cs h in
      in_cond IsUtf8 (c == 125) (cond (is_character k) (in_front (encode_utf8 k) (quoted cs)) None)
      _ (in_test IsUtf8 (is_character k) (in_front (encode_utf8 k) (quoted cs)) None
      (λ e. in_text (encode_utf8 k) (quoted cs) (IsUtf8-encode k (scalar_of k e))
      (quoted_gives cs more)) (λ e. tt))
      (in_cond IsUtf8 (is_hexadecimal c) (digits (k * 16 + digit_value c) cs) None
      (digits_give (k * 16 + digit_value c) cs more) tt)

more_give : (k : ℕ) → Gives IsScalar (more_digits k)
more_give k [] h = tt
more_give k (c ∷ cs) h =
    let more : scalars cs ≡ true = rest_of c cs h in
    in_cond IsScalar (c == 125) (cond (is_character k) (Some (k, cs)) None) _
    (in_test IsScalar (is_character k) (Some (k, cs)) None (λ e. (scalar_of k e, more)) (λ e. tt))
    (in_cond IsScalar (is_hexadecimal c) (more_digits (k * 16 + digit_value c) cs) None
    (more_give (k * 16 + digit_value c) cs more) tt)

all_give : Gives IsScalar all_digits
all_give [] h = tt
all_give (c ∷ cs) h =
    in_cond IsScalar (is_hexadecimal c) (more_digits (digit_value c) cs) None
    (more_give (digit_value c) cs (rest_of c cs h)) tt

numbered_gives : Gives IsScalar numbered
numbered_gives [] h = tt
numbered_gives (c ∷ cs) h =
    in_cond IsScalar (c == 123) (all_digits cs) None (all_give cs (rest_of c cs h)) tt

escape_gives : Gives IsScalar escape
escape_gives [] h = tt
escape_gives (c ∷ cs) h =
    let more : scalars cs ≡ true = rest_of c cs h in
    in_cond IsScalar (c == 34) (Some (34, cs)) _ (refl, more)
    (in_cond IsScalar (c == 92) (Some (92, cs)) _ (refl, more)
    (in_cond IsScalar (c == 110) (Some (10, cs)) _ (refl, more)
    (in_cond IsScalar (c == 114) (Some (13, cs)) _ (refl, more)
    (in_cond IsScalar (c == 116) (Some (9, cs)) _ (refl, more)
    (in_cond IsScalar (c == 117) (numbered cs) None (numbered_gives cs more) tt)))))

character_escape_gives : Gives IsScalar character_escape
character_escape_gives [] h = tt
character_escape_gives (c ∷ cs) h =
    in_cond IsScalar (c == 39) (Some (39, cs)) (escape (c ∷ cs)) (refl, rest_of c cs h)
    (escape_gives (c ∷ cs) h)

one_gives : Gives IsScalar one_character
one_gives [] h = tt
one_gives (c ∷ cs) h =
    let more : scalars cs ≡ true = rest_of c cs h in
    in_cond IsScalar (c == 39) None _ tt
    (in_cond IsScalar (c == 92) (character_escape cs) (Some (c, cs))
    (character_escape_gives cs more) (first c cs h, more))

pub character_gives : Gives IsScalar characters.character
character_gives cs h =
    in_then IsScalar IsScalar before_apostrophe (one_character cs) (one_gives cs h)
    (λ x valid l. in_pair IsScalar x.0 (after_text (codes "'") x.1) valid
    (text_left (codes "'") x.1 l))
