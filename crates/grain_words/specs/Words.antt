-- The words of a line, as characters, each with what follows it. What is left of a line is what
-- follows the last word that was read.
use Rattle.std.specs.Prelude.{ℕ, ℤ, ◌*◌, ◌+◌, Bool, true, ◌&&◌, ◌||◌, not, List, [], ◌∷◌, ◌++◌, Option, Some, None, option_map, option_and_then, ◌==◌, nat_lt, if◌then◌else◌}
use Rattle.std.specs.Char.{encode_utf8, digit_value}
use Rattle.grain_words.specs.Numerals.{is_empty, is_digit, integer, number}

-- words are separated by spaces and tabs
abbrev pub is_gap : ℕ → Bool
is_gap c = (c == 32) || (c == 9)

-- a word without quotes goes on to the next space, tab or semicolon
abbrev pub ends_word : ℕ → Bool
ends_word c = is_gap c || (c == 59)

-- what is left of a line from its next word on; a semicolon where a word could begin is the
-- beginning of a comment, which goes on to the line's end
abbrev pub trim_start : List ℕ → List ℕ
trim_start [] = []
trim_start (c ∷ cs) = if is_gap c then trim_start cs else (if c == 59 then [] else c ∷ cs)

-- no word is left
abbrev pub is_over : List ℕ → Bool
is_over cs = is_empty (trim_start cs)

-- the characters before the first that stops them, and the others
abbrev pub up_to : (ℕ → Bool) → List ℕ → List ℕ
up_to stops [] = []
up_to stops (c ∷ cs) = if stops c then [] else c ∷ up_to stops cs

abbrev pub onward_from : (ℕ → Bool) → List ℕ → List ℕ
onward_from stops [] = []
onward_from stops (c ∷ cs) = if stops c then c ∷ cs else onward_from stops cs

-- what follows the text, if the characters begin with it
abbrev pub after_text : List ℕ → List ℕ → Option (List ℕ)
after_text [] cs = Some cs
after_text (t ∷ ts) [] = None
after_text (t ∷ ts) (c ∷ cs) = if c == t then after_text ts cs else None

-- a quote or an apostrophe
abbrev pub is_quote : ℕ → Bool
is_quote c = (c == 34) || (c == 39)

-- the word that begins here, if no quote begins it, and what follows it
abbrev pub bare : List ℕ → Option (List ℕ × List ℕ)
bare [] = None
bare (c ∷ cs) = if is_quote c then None else
    Some (up_to ends_word (c ∷ cs), onward_from ends_word (c ∷ cs))

-- the next word, if it is one without quotes, and what follows it
abbrev pub next_word : List ℕ → Option (List ℕ × List ℕ)
next_word cs = bare (trim_start cs)

-- neither a digit nor a minus
abbrev pub ends_integer : ℕ → Bool
ends_integer c = not (is_digit c) && not (c == 45)

-- the integer that begins here, and what follows its digits
abbrev pub integer_here : List ℕ → Option (ℤ × List ℕ)
integer_here cs = option_map (λ z. (z, onward_from ends_integer cs))
    (integer (up_to ends_integer cs))

-- the number of at most `most` that begins here, and what follows its digits
abbrev pub number_here : ℕ → List ℕ → Option (ℕ × List ℕ)
number_here most cs = option_map (λ n. (n, onward_from ends_integer cs))
    (number most (up_to ends_integer cs))

-- what follows the spaces and tabs that stand here
abbrev pub skip_gaps : List ℕ → List ℕ
skip_gaps [] = []
skip_gaps (c ∷ cs) = if is_gap c then skip_gaps cs else c ∷ cs

-- what follows a space or a tab, and those after it
abbrev pub after_gap : List ℕ → Option (List ℕ)
after_gap [] = None
after_gap (c ∷ cs) = if is_gap c then Some (skip_gaps cs) else None

-- what follows the sign and the spaces or tabs after it, of which there is at least one
abbrev pub after_sign : List ℕ → List ℕ → Option (List ℕ)
after_sign sign cs = option_and_then after_gap (after_text sign cs)

-- the bytes in front of a text
abbrev pub in_front : List ℕ → Option (List ℕ × List ℕ) → Option (List ℕ × List ℕ)
in_front t o = option_map (λ x. (t ++ x.0, x.1)) o

-- a number that is a character's: at most 10ffff, and no surrogate
abbrev pub is_character : ℕ → Bool
is_character n = nat_lt n 0xd800 || (nat_lt 0xdfff n && nat_lt n 0x110000)

abbrev pub is_hexadecimal : ℕ → Bool
is_hexadecimal c = nat_lt (digit_value c) 16

-- After a quote: the text up to the next quote, and what follows that. Escapes stand for
-- characters.
abbrev mutual
  pub quoted : List ℕ → Option (List ℕ × List ℕ)
  quoted [] = None
  quoted (c ∷ cs) =
      if c == 34 then Some ([], cs)
      else (if c == 92 then escaped cs
      else in_front (encode_utf8 c) (quoted cs))

  -- after a backslash
  pub escaped : List ℕ → Option (List ℕ × List ℕ)
  escaped [] = None
  escaped (c ∷ cs) =
      if c == 34 then in_front (34 ∷ []) (quoted cs)
      else (if c == 92 then in_front (92 ∷ []) (quoted cs)
      else (if c == 110 then in_front (10 ∷ []) (quoted cs)
      else (if c == 114 then in_front (13 ∷ []) (quoted cs)
      else (if c == 116 then in_front (9 ∷ []) (quoted cs)
      else (if c == 117 then braced cs
      else None)))))

  -- after \u: a brace
  pub braced : List ℕ → Option (List ℕ × List ℕ)
  braced [] = None
  braced (c ∷ cs) = if c == 123 then first_digit cs else None

  -- after the brace: at least one hexadecimal digit
  pub first_digit : List ℕ → Option (List ℕ × List ℕ)
  first_digit [] = None
  first_digit (c ∷ cs) = if is_hexadecimal c then digits (digit_value c) cs else None

  -- after digits that say n: more of them, up to a brace
  pub digits : ℕ → List ℕ → Option (List ℕ × List ℕ)
  digits n [] = None
  digits n (c ∷ cs) =
      if c == 125 then (if is_character n then in_front (encode_utf8 n) (quoted cs) else None)
      else (if is_hexadecimal c then digits (n * 16 + digit_value c) cs else None)

-- the line is over here, or a space, a tab or a comment stands here
abbrev pub is_word_end : List ℕ → Bool
is_word_end [] = true
is_word_end (c ∷ cs) = ends_word c

-- a text is a word only where that ends after its second quote
abbrev pub whole : Option (List ℕ × List ℕ) → Option (List ℕ × List ℕ)
whole None = None
whole (Some x) = if is_word_end x.1 then Some x else None

-- the text between quotes that begins here, and what follows it
abbrev pub text : List ℕ → Option (List ℕ × List ℕ)
text [] = None
text (c ∷ cs) = if c == 34 then whole (quoted cs) else None

-- the next word, if it is a text between quotes, and what follows it
abbrev pub next_text : List ℕ → Option (List ℕ × List ℕ)
next_text cs = text (trim_start cs)

abbrev pub behind : Option (List ℕ × List ℕ) → List ℕ
behind None = []
behind (Some x) = x.1

-- what follows the word that begins here, whatever it is; a text that is none, and what begins
-- with an apostrophe, go on to the line's end
abbrev pub skipped : List ℕ → List ℕ
skipped [] = []
skipped (c ∷ cs) =
    if c == 34 then behind (whole (quoted cs))
    else (if c == 39 then []
    else onward_from ends_word (c ∷ cs))

-- what follows the next word
abbrev pub after_word : List ℕ → List ℕ
after_word cs = skipped (trim_start cs)
