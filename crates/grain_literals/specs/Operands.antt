-- What is read from what is left of a line: an operand, and what is then left. So operands are read
-- from left to right, and the first wrong one decides.
use Rattle.std.specs.Prelude.{ℕ, ℤ, ◌^◌, ◌-◌, List, Option, Some, None, Result, Ok, Err, bytes_eq, if◌then◌else◌}
use Rattle.grain_fault.specs.declared.places.Position.{Position}
use Rattle.grain_words.specs.Words.{next_word, is_over}
use Rattle.grain_words.specs.Numerals.{number, integer}
use Rattle.grain_words.specs.PositionWords.{position_word}
use Rattle.grain_literals.specs.Steps.{and_then, present}
use Rattle.grain_literals.specs.declared.reasons.Reason.{Reason}
use Rattle.grain_literals.specs.declared.reasons.Reason.TheVariants.{BadOperand}

-- a word without quotes
abbrev pub word_operand : List ℕ → Result (List ℕ × List ℕ) Reason
word_operand cs = present BadOperand (next_word cs)

abbrev pub behind_name : List ℕ → Option (List ℕ × List ℕ) → Option (List ℕ)
behind_name t None = None
behind_name t (Some a) = if bytes_eq a.0 t then Some a.1 else None

-- what is left after the next word, if that is this name
abbrev pub after_name : List ℕ → List ℕ → Option (List ℕ)
after_name t cs = behind_name t (next_word cs)

-- nothing may follow
abbrev pub alone : {A : Type 0} → List ℕ → A → Result A Reason
alone cs x = if is_over cs then Ok x else Err BadOperand

-- a number of at most `most`
abbrev pub number_operand : ℕ → List ℕ → Result (ℕ × List ℕ) Reason
number_operand most cs =
    and_then (word_operand cs) (λ a. and_then (present BadOperand (number most a.0)) (λ n.
    Ok (n, a.1)))

-- a number of 32 bits
abbrev pub index : List ℕ → Result (ℕ × List ℕ) Reason
index cs = number_operand (2 ^ 32 - 1) cs

-- an integer of 64 bits
abbrev pub integer_operand : List ℕ → Result (ℤ × List ℕ) Reason
integer_operand cs =
    and_then (word_operand cs) (λ a. and_then (present BadOperand (integer a.0)) (λ n.
    Ok (n, a.1)))

-- a position
abbrev pub position_operand : List ℕ → Result (Position × List ℕ) Reason
position_operand cs =
    and_then (word_operand cs) (λ a. and_then (present BadOperand (position_word a.0)) (λ p.
    Ok (p, a.1)))

-- after an instruction's operands: a position, or nothing
abbrev pub position_after : List ℕ → Result (Option Position) Reason
position_after cs =
    if is_over cs then Ok None
    else and_then (position_operand cs) (λ a. alone a.1 (Some a.0))

-- after `byte`: a number of one byte, and its position if it has one
abbrev pub byte_of : List ℕ → Result (ℕ × Option Position) Reason
byte_of cs = and_then (number_operand 255 cs)
    (λ a. and_then (position_after a.1) (λ p. Ok (a.0, p)))
