-- A number only grows by more digits.
use Rattle.std.proofs.Common.{◌≡◌, ℕ, ◌≢◌, ◌<◌, ◌≤◌, ◌+◌, ◌-◌, ◌*◌, List, [], ◌∷◌, Some, None, Bool, true, false, cond, lt-ltb, arith, refl, sym, ap, ◌∙◌, ◌==◌}
use Rattle.std.proofs.lemmas.Bool.Decides.{nat_tests}
use Rattle.std.proofs.lemmas.Bool.{ne_eqb}
use Rattle.std.specs.Char.{digit_value}
use Rattle.grain_words.specs.Numerals.{number, number_from}
use Rattle.grain_words.specs.Words.{is_character, is_hexadecimal}
use Rattle.grain_words.specs.Characters.{more_digits}

grows : (n : ℕ) (cs : List ℕ) → n ≤ number_from n cs
grows n [] = omega arith
grows n (c ∷ cs) = let h = grows (n * 10 + (c - 48)) cs in omega arith

pub too_big : (most n c : ℕ) (rest after word : List ℕ) → rest ≡ c ∷ after →
    number_from n rest ≡ number_from 0 word → most < n * 10 + (c - 48) → number most word ≡ None
too_big most n c rest after word r e h =
    let g = grows (n * 10 + (c - 48)) after in
    let k : number_from 0 word ≡ number_from (n * 10 + (c - 48)) after = sym e ∙
    ap (number_from n) r in
    let b : most < number_from 0 word = omega arith in
    grind (arith, nat_tests)

no_character : (n : ℕ) → 0x10ffff < n → is_character n ≡ false
no_character n h = grind (arith, nat_tests)

-- past 10ffff no digits say a character
pub too_large : (n : ℕ) (cs : List ℕ) → 0x10ffff < n → more_digits n cs ≡ None
too_large n [] h = refl
too_large n (c ∷ cs) h = at (c == 125) (is_hexadecimal c)
    (too_large (n * 16 + digit_value c) cs (omega arith)) where
      at : (b d : Bool) → more_digits (n * 16 + digit_value c) cs ≡ None →
          cond b (cond (is_character n) (Some (n, cs)) None)
          (cond d (more_digits (n * 16 + digit_value c) cs) None) ≡ None
      at true d more = rw (no_character n h) refl
      at false true more = more
      at false false more = refl

pub digits_over : (n c first : ℕ) (rest after chars : List ℕ) → rest ≡ c ∷ after → c ≢ 125 →
    digit_value c < 16 → 0x10ffff < n * 16 + digit_value c →
    more_digits n rest ≡ more_digits first chars → None ≡ more_digits first chars
digits_over n c first rest after chars r other hex over e =
    let d : is_hexadecimal c ≡ true = lt-ltb _ _ hex in
    let s : more_digits n (c ∷ after) ≡ more_digits (n * 16 + digit_value c) after =
    rw (ne_eqb c 125 other, d) refl in
    sym (too_large (n * 16 + digit_value c) after over) ∙ sym s ∙ ap (more_digits n) (sym r) ∙ e
