-- Positions as words: `@L:C`, with a line from 1 and a column, both of 16 bits.
use Rattle.std.specs.Prelude.{ℕ, List, [], ◌∷◌, Option, Some, None, option_map, ◌==◌, if◌then◌else◌}
use Rattle.grain_fault.specs.declared.places.Position.{Position}
use Rattle.grain_fault.specs.Places.{place_at}
use Rattle.grain_words.specs.Numerals.{number}

-- what stands before the first colon, and after it
abbrev pub at_colon : List ℕ → Option (List ℕ × List ℕ)
at_colon [] = None
at_colon (c ∷ cs) = if c == 58 then Some ([], cs) else
    option_map (λ x. (c ∷ x.0, x.1)) (at_colon cs)

-- no position has the line 0
abbrev pub position_at : Option ℕ → Option ℕ → Option Position
position_at (Some line) (Some column) = if line == 0 then None else Some (place_at line column)
position_at line column = None

abbrev pub position_around : Option (List ℕ × List ℕ) → Option Position
position_around None = None
position_around (Some x) = position_at (number 65535 x.0) (number 65535 x.1)

-- the position that the word says
abbrev pub position_word : List ℕ → Option Position
position_word [] = None
position_word (c ∷ cs) = if c == 64 then position_around (at_colon cs) else None
