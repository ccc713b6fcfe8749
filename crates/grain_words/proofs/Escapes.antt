-- An escape inside a text stands for its character.
use Rattle.std.proofs.Common.{◌≡◌, ℕ, ◌+◌, ◌*◌, ◌==◌, Bool, true, false, cond, List, [], ◌∷◌, Option, Some, None, refl, sym, ap, ◌∙◌}
use Rattle.std.specs.Char.{encode_utf8, digit_value}
use Rattle.grain_words.specs.Words.{quoted, escaped, braced, first_digit, digits, in_front, is_character, is_hexadecimal}
use Rattle.grain_words.specs.Characters.{more_digits, all_digits, numbered, escape}

-- the character in front of the rest of the text
abbrev joined : Option (ℕ × List ℕ) → Option (List ℕ × List ℕ)
joined None = None
joined (Some x) = in_front (encode_utf8 x.0) (quoted x.1)

digits_joined : (n : ℕ) (cs : List ℕ) → digits n cs ≡ joined (more_digits n cs)
digits_joined n [] = refl
digits_joined n (c ∷ cs) = at (c == 125) (is_character n) (is_hexadecimal c)
    (digits_joined (n * 16 + digit_value c) cs) where
      at : (b k d : Bool) →
          digits (n * 16 + digit_value c) cs ≡ joined (more_digits (n * 16 + digit_value c) cs) →
          cond b (cond k (in_front (encode_utf8 n) (quoted cs)) None)
          (cond d (digits (n * 16 + digit_value c) cs) None) ≡
          joined (cond b (cond k (Some (n, cs)) None)
          (cond d (more_digits (n * 16 + digit_value c) cs) None))
      at true true d more = refl
      at true false d more = refl
      at false k true more = more
      at false k false more = refl

first_joined : (cs : List ℕ) → first_digit cs ≡ joined (all_digits cs)
first_joined [] = refl
first_joined (c ∷ cs) = at (is_hexadecimal c) where
  at : (b : Bool) → cond b (digits (digit_value c) cs) None ≡
      joined (cond b (more_digits (digit_value c) cs) None)
  at true = digits_joined (digit_value c) cs
  at false = refl

braced_joined : (cs : List ℕ) → braced cs ≡ joined (numbered cs)
braced_joined [] = refl
braced_joined (c ∷ cs) = at (c == 123) where
  at : (b : Bool) → cond b (first_digit cs) None ≡ joined (cond b (all_digits cs) None)
  at true = first_joined cs
  at false = refl

escaped_joined : (cs : List ℕ) → escaped cs ≡ joined (escape cs)
unfolding encode_utf8
escaped_joined [] = refl
escaped_joined (c ∷ cs) =
    at (c == 34) (c == 92) (c == 110) (c == 114) (c == 116) (c == 117) where
      at : (q b n r t u : Bool) →
          cond q (in_front (34 ∷ []) (quoted cs)) (cond b (in_front (92 ∷ []) (quoted cs))
          (cond n (in_front (10 ∷ []) (quoted cs)) (cond r (in_front (13 ∷ []) (quoted cs))
          (cond t (in_front (9 ∷ []) (quoted cs)) (cond u (braced cs) None))))) ≡
          joined (cond q (Some (34, cs)) (cond b (Some (92, cs)) (cond n (Some (10, cs))
          (cond r (Some (13, cs)) (cond t (Some (9, cs)) (cond u (numbered cs) None))))))
      at true b n r t u = refl
      at false true n r t u = refl
      at false false true r t u = refl
      at false false false true t u = refl
      at false false false false true u = refl
      at false false false false false true = braced_joined cs
      at false false false false false false = refl

pub no_escape : (cs : List ℕ) → None ≡ escape cs → None ≡ quoted (92 ∷ cs)
no_escape cs e = ap joined e ∙ sym (escaped_joined cs)

pub one_escape : (cs rest : List ℕ) (c : ℕ) → Some (c, rest) ≡ escape cs →
    quoted (92 ∷ cs) ≡ in_front (encode_utf8 c) (quoted rest)
one_escape cs rest c e = escaped_joined cs ∙ sym (ap joined e)
