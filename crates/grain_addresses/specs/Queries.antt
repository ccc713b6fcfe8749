-- What is asked: an address, and the slot of a chain's step if one is asked for.
use Rattle.std.specs.Prelude.{ℕ, ◌+◌, ◌-◌, ◌^◌, List, [], ◌∷◌, take, drop, position, Option, Some, None, option_map, option_and_then, ◌==◌, chars}
use Rattle.grain_words.specs.Numerals.{number}
use Rattle.grain_addresses.specs.declared.queries.Query.{Query}

-- addresses and slots have 32 bits
abbrev pub number_in : List ℕ → Option ℕ
number_in w = number (2 ^ 32 - 1) w

abbrev pub bare : ℕ → Query
bare a = record { address = a; slot = None }

abbrev pub both : Option ℕ → Option ℕ → Option Query
both (Some a) (Some s) = Some (record { address = a; slot = Some s })
both a s = None

abbrev pub slotted : List ℕ → List ℕ → Option Query
slotted v w = both (number_in v) (number_in w)

-- a number, or two with a colon between them
abbrev pub query_around : List ℕ → Option ℕ → Option Query
query_around w None = option_map bare (number_in w)
query_around w (Some colon) = slotted (take colon w) (drop (colon + 1) w)

abbrev pub query_in : List ℕ → Option Query
query_in w = query_around w (position (λ c. c == 58) w)

-- what the bytes of a word ask for
abbrev pub query_of : List ℕ → Option Query
query_of word = query_in (chars word)

-- what the words ask for, if each is an address
abbrev pub queries_of : List (List ℕ) → Option (List Query)
queries_of [] = Some []
queries_of (w ∷ ws) =
    option_and_then (λ q. option_map (λ qs. q ∷ qs) (queries_of ws)) (query_of w)
