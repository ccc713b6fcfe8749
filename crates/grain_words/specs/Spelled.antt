-- How texts are spelled in a listing.
use Rattle.std.specs.Prelude.{◌≡◌, ℕ, ◌<◌, ◌^◌, ℤ, pos, negsuc, Bool, false, ◌&&◌, not, nat_lt, List, [], ◌∷◌, ◌++◌, ◌==◌, if◌then◌else◌}
use Rattle.std.specs.List.{flat_map, list_all}
use Rattle.std.specs.Str.{chars, IsUtf8}
use Rattle.grain_words.specs.Words.{ends_integer}

-- a character as it is spelled between quotes: a quote, a backslash, LF, CR and a tab have a
-- backslash before a sign of theirs
abbrev pub between_quotes : ℕ → List ℕ
between_quotes c =
    if c == 34 then 92 ∷ 34 ∷ []
    else (if c == 92 then 92 ∷ 92 ∷ []
    else (if c == 10 then 92 ∷ 110 ∷ []
    else (if c == 13 then 92 ∷ 114 ∷ []
    else (if c == 9 then 92 ∷ 116 ∷ []
    else c ∷ []))))

-- a character as it is spelled between apostrophes: an apostrophe has a backslash before it too
abbrev pub between_apostrophes : ℕ → List ℕ
between_apostrophes c = if c == 39 then 92 ∷ 39 ∷ [] else between_quotes c

-- the bytes are UTF-8, and the characters are theirs
abbrev pub Spells : List ℕ → List ℕ → Type 0
Spells cs bytes = IsUtf8 bytes × (chars bytes ≡ cs)

-- the word begins with a digit or a minus
abbrev pub begins_integer : List ℕ → Bool
begins_integer [] = false
begins_integer (c ∷ cs) = not (ends_integer c)

-- a text between quotes, as characters
abbrev pub quoted_characters : List ℕ → List ℕ
quoted_characters cs = 34 ∷ (flat_map between_quotes cs ++ 34 ∷ [])

-- the integer has 64 bits
abbrev pub IsLong : ℤ → Type 0
IsLong (pos n) = n < 2 ^ 63
IsLong (negsuc n) = n < 2 ^ 63

-- a letter, a digit or another sign between 0 and z, and no semicolon
abbrev pub is_plain : ℕ → Bool
is_plain c = nat_lt 47 c && (nat_lt c 123 && not (c == 59))

-- a word of at least one such character
abbrev pub is_plain_word : List ℕ → Bool
is_plain_word [] = false
is_plain_word (c ∷ cs) = list_all is_plain (c ∷ cs)

-- words with a space before each
abbrev pub after_words : List (List ℕ) → List ℕ
after_words ws = flat_map (λ v. 32 ∷ v) ws

-- words with a space before each but the first
abbrev pub spaced : List ℕ → List (List ℕ) → List ℕ
spaced w ws = w ++ after_words ws

-- neither LF nor CR
abbrev pub is_inside : ℕ → Bool
is_inside c = not (c == 10) && not (c == 13)

-- lines with LF after each
abbrev pub text_of : List (List ℕ) → List ℕ
text_of ls = flat_map (λ l. l ++ 10 ∷ []) ls
