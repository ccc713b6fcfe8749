-- Bytes, each of which is two hexadecimal digits.
use Rattle.std.specs.Prelude.{ℕ, ◌*◌, ◌+◌, List, [], ◌∷◌, Option, Some, None, ◌==◌, if◌then◌else◌}
use Rattle.std.specs.Char.{digit_value}
use Rattle.grain_words.specs.Words.{is_hexadecimal, in_front}

-- the bytes up to the bracket that ends them, and what follows it
abbrev mutual
  pub hex_bytes : List ℕ → Option (List ℕ × List ℕ)
  hex_bytes [] = None
  hex_bytes (c ∷ cs) =
      if c == 41 then Some ([], cs)
      else (if is_hexadecimal c then second_digit (digit_value c) cs else None)

  -- after a digit that says n: the byte's other digit, and the other bytes
  pub second_digit : ℕ → List ℕ → Option (List ℕ × List ℕ)
  second_digit n [] = None
  second_digit n (c ∷ cs) =
      if is_hexadecimal c then in_front ((n * 16 + digit_value c) ∷ []) (hex_bytes cs) else None
