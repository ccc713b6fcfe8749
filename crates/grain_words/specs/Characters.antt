-- A character between apostrophes, and the escapes that it shares with texts. Each is read from the
-- characters that are left to a character and the characters that are then left.
use Rattle.std.specs.Prelude.{ℕ, ◌*◌, ◌+◌, List, [], ◌∷◌, Option, Some, None, option_map, option_and_then, codes, ◌==◌, if◌then◌else◌}
use Rattle.std.specs.Char.{digit_value}
use Rattle.grain_words.specs.Words.{is_character, is_hexadecimal, after_text}

-- after hexadecimal digits that say n: more of them, up to a brace; they say a character's number
abbrev pub more_digits : ℕ → List ℕ → Option (ℕ × List ℕ)
more_digits n [] = None
more_digits n (c ∷ cs) =
    if c == 125 then (if is_character n then Some (n, cs) else None)
    else (if is_hexadecimal c then more_digits (n * 16 + digit_value c) cs else None)

-- after the brace: at least one hexadecimal digit
abbrev pub all_digits : List ℕ → Option (ℕ × List ℕ)
all_digits [] = None
all_digits (c ∷ cs) = if is_hexadecimal c then more_digits (digit_value c) cs else None

-- after \u: a number between braces
abbrev pub numbered : List ℕ → Option (ℕ × List ℕ)
numbered [] = None
numbered (c ∷ cs) = if c == 123 then all_digits cs else None

-- after a backslash: a quote, a backslash, n for LF, r for CR, t for a tab, or u and a number
abbrev pub escape : List ℕ → Option (ℕ × List ℕ)
escape [] = None
escape (c ∷ cs) =
    if c == 34 then Some (34, cs)
    else (if c == 92 then Some (92, cs)
    else (if c == 110 then Some (10, cs)
    else (if c == 114 then Some (13, cs)
    else (if c == 116 then Some (9, cs)
    else (if c == 117 then numbered cs
    else None)))))

-- between apostrophes an apostrophe has an escape too
abbrev pub character_escape : List ℕ → Option (ℕ × List ℕ)
character_escape [] = None
character_escape (c ∷ cs) = if c == 39 then Some (39, cs) else escape (c ∷ cs)

-- one character, as it is or as an escape; no apostrophe is one as it is
abbrev pub one_character : List ℕ → Option (ℕ × List ℕ)
one_character [] = None
one_character (c ∷ cs) =
    if c == 39 then None
    else (if c == 92 then character_escape cs
    else Some (c, cs))

abbrev pub before_apostrophe : ℕ × List ℕ → Option (ℕ × List ℕ)
before_apostrophe a = option_map (λ rest. (a.0, rest)) (after_text (codes "'") a.1)

-- after an apostrophe: a character and the second apostrophe
abbrev pub character : List ℕ → Option (ℕ × List ℕ)
character cs = option_and_then before_apostrophe (one_character cs)
