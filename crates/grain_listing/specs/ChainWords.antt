-- What the line of a chain says, and what the line of a step says.
use Rattle.std.specs.Prelude.{ℕ, List, [], Option, Some, None, Result, Ok, Err, codes, bytes_eq, if◌then◌else◌}
use Rattle.grain_fault.specs.declared.places.Position.{Position}
use Rattle.grain_fault.specs.Places.{nowhere}
use Rattle.grain_program.specs.declared.code.chains.StepFlags.{StepFlags}
use Rattle.grain_program.specs.declared.code.chains.Root.{Root}
use Rattle.grain_program.specs.declared.code.chains.Root.TheVariants as root
use Rattle.grain_program.specs.declared.code.chains.Step.{Step}
use Rattle.grain_program.specs.declared.code.chains.Step.TheVariants as step
use Rattle.grain_program.specs.declared.code.chains.Tail.{Tail}
use Rattle.grain_program.specs.declared.code.chains.Tail.TheVariants as tail
use Rattle.grain_program.specs.declared.code.chains.Chain.{Chain}
use Rattle.grain_words.specs.Words.{next_word, is_over}
use Rattle.grain_words.specs.PositionWords.{position_word}
use Rattle.grain_literals.specs.Steps.{and_then}
use Rattle.grain_literals.specs.Operands.{word_operand, after_name, alone, number_operand, index, position_operand, position_after}
use Rattle.grain_literals.specs.declared.reasons.Reason.{Reason}
use Rattle.grain_literals.specs.declared.reasons.Reason.TheVariants.{BadOperand, NotBuilt}

-- ---- a chain

-- after `local`: the index of a name, and a slot
abbrev pub local_root : List ℕ → Result (Root × List ℕ) Reason
local_root cs =
    and_then (index cs)
    (λ a. and_then (number_operand 65535 a.1) (λ b. Ok (root.Local a.0 b.0, b.1)))

-- a position, if the word is one
abbrev pub position_by : Option Position → List ℕ → List ℕ → Position × List ℕ
position_by None rest cs = (nowhere, cs)
position_by (Some p) rest cs = (p, rest)

abbrev pub position_in_front : Option (List ℕ × List ℕ) → List ℕ → Position × List ℕ
position_in_front None cs = (nowhere, cs)
position_in_front (Some a) cs = position_by (position_word a.0) a.1 cs

-- a position, if the next word is one, and what is then left
abbrev pub position_here : List ℕ → Position × List ℕ
position_here cs = position_in_front (next_word cs) cs

-- after `this`: a position, or nothing
abbrev pub this_at : Position × List ℕ → Root × List ℕ
this_at p = (root.This p.0, p.1)

abbrev pub this_root : List ℕ → Root × List ℕ
this_root cs = this_at (position_here cs)

-- a root by its first word; one kind is not read yet
unfoldable pub root_named : List ℕ → List ℕ → Result (Root × List ℕ) Reason
root_named w cs =
    if bytes_eq w (codes "local") then local_root cs
    else (if bytes_eq w (codes "temporary") then Ok (root.Temporary, cs)
    else (if bytes_eq w (codes "named") then Err NotBuilt
    else (if bytes_eq w (codes "this") then Ok (this_root cs)
    else Err BadOperand)))

abbrev pub root_operand : List ℕ → Result (Root × List ℕ) Reason
root_operand cs = and_then (word_operand cs) (λ a. root_named a.0 a.1)

-- after `assign`: the index of an op-assignment, or nothing
abbrev pub assigning : List ℕ → Result Tail Reason
assigning cs =
    if is_over cs then Ok (tail.Assign None)
    else and_then (index cs) (λ a. alone a.1 (tail.Assign (Some a.0)))

-- a tail by its first word, with which the line ends
unfoldable pub tail_named : List ℕ → List ℕ → Result Tail Reason
tail_named w cs =
    if bytes_eq w (codes "read") then alone cs tail.Read
    else (if bytes_eq w (codes "assign") then assigning cs
    else Err BadOperand)

abbrev pub tail_of : List ℕ → Result Tail Reason
tail_of cs = and_then (word_operand cs) (λ a. tail_named a.0 a.1)

-- after `chain`: how many operands its steps use, its root and its tail; it has no step yet
abbrev pub chain_of : List ℕ → Result Chain Reason
chain_of cs =
    and_then (index cs) (λ n. and_then (root_operand n.1) (λ r. and_then (tail_of r.1) (λ t.
    Ok (record { root = r.0; steps = []; tail = t; operands = n.0 }))))

-- ---- a step

abbrev pub step_flags : ℕ → StepFlags
step_flags bits = record { 0 = bits }

-- `?` stands before what is left, or not: at unit the chain ends
abbrev pub flags_by : Option (List ℕ) → List ℕ → StepFlags × List ℕ
flags_by None cs = (step_flags 0, cs)
flags_by (Some rest) cs = (step_flags 1, rest)

abbrev pub flags_of : List ℕ → StepFlags × List ℕ
flags_of cs = flags_by (after_name (codes "?") cs) cs

-- the first of two positions, if any is there
abbrev pub first_position : List ℕ → Result (Position × List ℕ) Reason
first_position cs = if is_over cs then Ok (nowhere, cs) else position_operand cs

abbrev pub or_nowhere : Option Position → Position
or_nowhere None = nowhere
or_nowhere (Some p) = p

-- the last position, if it is there, with which the line ends
abbrev pub last_position : List ℕ → Result Position Reason
last_position cs = and_then (position_after cs) (λ p. Ok (or_nowhere p))

-- after `index` and the number of an operand: flags, and the positions of the index and its bracket
abbrev pub index_ended : ℕ → StepFlags × List ℕ → Result Step Reason
index_ended operand f =
    and_then (first_position f.1) (λ p. and_then (last_position p.1) (λ q.
    Ok (step.Index operand f.0 p.0 q)))

abbrev pub index_step : List ℕ → Result Step Reason
index_step cs = and_then (index cs) (λ a. index_ended a.0 (flags_of a.1))

-- after `property` and three names: flags and a position
abbrev pub property_ended : ℕ → ℕ → ℕ → StepFlags × List ℕ → Result Step Reason
property_ended name getter setter f =
    and_then (last_position f.1) (λ p. Ok (step.Property name getter setter f.0 p))

abbrev pub property_step : List ℕ → Result Step Reason
property_step cs =
    and_then (index cs) (λ a. and_then (index a.1) (λ b. and_then (index b.1)
    (λ c. property_ended a.0 b.0 c.0 (flags_of c.1))))

-- after `method`, a name, a number of arguments and the number of an operand: flags and a position
abbrev pub method_ended : ℕ → ℕ → ℕ → StepFlags × List ℕ → Result Step Reason
method_ended name argc operand f =
    and_then (last_position f.1) (λ p. Ok (step.Method name argc operand f.0 p))

abbrev pub method_step : List ℕ → Result Step Reason
method_step cs =
    and_then (index cs) (λ a. and_then (number_operand 255 a.1) (λ b. and_then (index b.1)
    (λ c. method_ended a.0 b.0 c.0 (flags_of c.1))))

-- a step by its first word
unfoldable pub step_named : List ℕ → List ℕ → Result Step Reason
step_named w cs =
    if bytes_eq w (codes "index") then index_step cs
    else (if bytes_eq w (codes "property") then property_step cs
    else (if bytes_eq w (codes "method") then method_step cs
    else Err BadOperand))

-- after `step`
abbrev pub step_of : List ℕ → Result Step Reason
step_of cs = and_then (word_operand cs) (λ a. step_named a.0 a.1)
