-- Flags of the engine.
use Rattle.std.specs.Prelude.{ℕ, Bool, true, false, not, List, [], ◌∷◌, Option, Some, None, Result, Ok, Err, codes, if◌then◌else◌}
use Rattle.grain_literals.specs.Steps.{and_then, present}
use Rattle.grain_literals.specs.Operands.{word_operand, after_name, alone}
use Rattle.grain_literals.specs.declared.reasons.Reason.{Reason}
use Rattle.grain_literals.specs.declared.reasons.Reason.TheVariants.{BadOperand, NotBuilt}
use Rattle.grain_listing.specs.Later.{is_among}
use Rattle.grain_listing.specs.Settings.{entry_named}
use Rattle.grain_listing.specs.declared.flags.Flag.{Flag}

abbrev pub flag : Bool → Bool → Flag
flag default is_built = record { default = default; is_built = is_built }

-- the flags by their names: whether they are on without a line, and whether a line of theirs is
-- read so far
abbrev pub flag_table : List (List ℕ × Flag)
flag_table =
    (codes "shadowing", flag true false) ∷
    (codes "operators", flag true true) ∷
    (codes "strict", flag false true) ∷ []

-- a line turns a flag off that is on without it, and on otherwise
abbrev pub turned : Flag → List ℕ
turned f = if f.default then codes "off" else codes "on"

-- a flag is one of the table
unfoldable pub flag_named : List ℕ → Result (List ℕ × Flag) Reason
flag_named w = present BadOperand (entry_named w flag_table)

abbrev pub built : List ℕ × Flag → Result (List ℕ) Reason
built x = if x.1.is_built then Ok x.0 else Err NotBuilt

-- after `flag`: a name and what its line turns it, alone; this is the name
abbrev pub flag_of : List ℕ → Result (List ℕ) Reason
flag_of cs =
    and_then (word_operand cs) (λ a. and_then (flag_named a.0)
    (λ x. and_then (present BadOperand (after_name (turned x.1) a.1))
    (λ rest. and_then (built x) (λ name. alone rest name))))

abbrev pub state_of : Bool → Option (List ℕ × Flag) → Bool
state_of is_turned None = false
state_of is_turned (Some x) = if is_turned then not x.1.default else x.1.default

-- whether the flag of that name is on, where lines turned these
unfoldable pub is_on : List ℕ → List (List ℕ) → Bool
is_on w names = state_of (is_among names w) (entry_named w flag_table)
