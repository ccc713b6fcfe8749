-- Bytes as digits are read as those bytes.
use Rattle.std.proofs.Common.{◌≡◌, ◌<◌, ◌+◌, ◌*◌, ◌/◌, ◌%◌, ◌∷◌, ◌++◌, ◌==◌, ◌^◌, ℕ, true, false, List, [], Some, refl, ap, ◌∙◌, arith, lt-ltb}
use Rattle.std.proofs.lemmas.Bool.Decides.{nat_tests}
use Rattle.std.specs.Char.{digit_value}
use Rattle.std.specs.Fmt.{digit_glyph}
use Rattle.std.specs.List.{flat_map, AllByRecursion}
use Rattle.grain_value.specs.Writing.{hex_byte}
use Rattle.grain_words.specs.Words.{is_hexadecimal, in_front}
use Rattle.grain_words.specs.Bytes.{hex_bytes}
use Rattle.grain_words.specs.Spelled.{Spells}
use Rattle.grain_words.specs.lemmas.Spelling.{spells_none, one_ascii}

value_of_digit : (d : ℕ) → d < 16 → digit_value (digit_glyph false d) ≡ d
value_of_digit d h = grind (arith, nat_tests)

no_bracket : (d : ℕ) → d < 16 → (digit_glyph false d == 41) ≡ false
no_bracket d h = grind (arith, nat_tests)

low_digit : (d : ℕ) → d < 16 → digit_glyph false d < 128
low_digit d h = grind (arith, nat_tests)

is_digit_of : (c d : ℕ) → digit_value c ≡ d → d < 16 → is_hexadecimal c ≡ true
is_digit_of c d e h = rw e (lt-ltb d 16 h)

two_digits : (c d h l : ℕ) (rest : List ℕ) → (c == 41) ≡ false → digit_value c ≡ h → h < 16 →
    digit_value d ≡ l → l < 16 →
    hex_bytes (c ∷ d ∷ rest) ≡ in_front ((h * 16 + l) ∷ []) (hex_bytes rest)
two_digits c d h l rest going high hh low hl =
    rw (going, is_digit_of c h high hh, is_digit_of d l low hl, high, low) refl

pub bytes_read : (bytes rest : List ℕ) → AllByRecursion (λ b. b < 2 ^ 8) bytes →
    hex_bytes (flat_map hex_byte bytes ++ 41 ∷ rest) ≡ Some (bytes, rest)
bytes_read [] rest h = refl
bytes_read (b ∷ bytes) rest h =
    let fits : b < 256 = h.0 in
    let high : b / 16 < 16 = omega arith in
    let low : b % 16 < 16 = omega arith in
    let whole : b / 16 * 16 + b % 16 ≡ b = omega arith in
    two_digits (digit_glyph false (b / 16)) (digit_glyph false (b % 16)) (b / 16) (b % 16)
    (flat_map hex_byte bytes ++ 41 ∷ rest) (no_bracket (b / 16) high)
    (value_of_digit (b / 16) high) high (value_of_digit (b % 16) low) low ∙
    ap (λ n. in_front (n ∷ []) (hex_bytes (flat_map hex_byte bytes ++ 41 ∷ rest))) whole ∙
    ap (in_front (b ∷ [])) (bytes_read bytes rest h.1)

pub bytes_spelled : (bytes : List ℕ) → AllByRecursion (λ b. b < 2 ^ 8) bytes →
    Spells (flat_map hex_byte bytes) (flat_map hex_byte bytes)
bytes_spelled [] h = spells_none
bytes_spelled (b ∷ bytes) h =
    let fits : b < 256 = h.0 in
    let high : b / 16 < 16 = omega arith in
    let low : b % 16 < 16 = omega arith in
    one_ascii (digit_glyph false (b / 16)) _ _ (low_digit (b / 16) high)
    (one_ascii (digit_glyph false (b % 16)) _ _ (low_digit (b % 16) low) (bytes_spelled bytes h.1))
