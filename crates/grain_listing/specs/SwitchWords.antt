-- What the lines of a switch say, of its cases and of its ranges.
use Rattle.std.specs.Prelude.{ℕ, ◌-◌, ◌^◌, Bool, List, [], Result, Ok, Err, if◌then◌else◌}
use Rattle.std.specs.Str.{encode_utf8_all}
use Rattle.grain_value.specs.declared.values.Dynamic.{Dynamic}
use Rattle.grain_value.specs.declared.values.Dynamic.TheVariants as values
use Rattle.grain_program.specs.declared.code.switches.CaseValue.{CaseValue}
use Rattle.grain_program.specs.declared.code.switches.CaseValue.TheVariants as case
use Rattle.grain_words.specs.Numerals.{number, begins_letter}
use Rattle.grain_literals.specs.Steps.{and_then, present}
use Rattle.grain_literals.specs.Operands.{word_operand, alone, integer_operand}
use Rattle.grain_literals.specs.Literals.{value_operand}
use Rattle.grain_literals.specs.declared.reasons.Reason.{Reason}
use Rattle.grain_literals.specs.declared.reasons.Reason.TheVariants.{BadOperand, BadValue}
use Rattle.grain_listing.specs.declared.switch_words.Aim.{Aim}
use Rattle.grain_listing.specs.declared.switch_words.Aim.TheVariants as aims
use Rattle.grain_listing.specs.declared.switch_words.AimedCase.{AimedCase}
use Rattle.grain_listing.specs.declared.switch_words.AimedRange.{AimedRange}
use Rattle.grain_listing.specs.declared.switch_words.AimedSwitch.{AimedSwitch}

-- a target: one that begins with a letter is a label, which this line names
abbrev pub aim_word : ℕ → List ℕ → Result Aim Reason
aim_word line w =
    if begins_letter w then Ok (aims.Label line (encode_utf8_all w))
    else and_then (present BadOperand (number (2 ^ 32 - 1) w)) (λ a. Ok (aims.Address a))

-- a target, alone
abbrev pub aim_of : ℕ → List ℕ → Result Aim Reason
aim_of line cs =
    and_then (word_operand cs) (λ w. and_then (aim_word line w.0) (λ a. alone w.1 a))

-- a switch that leads all values to the target
abbrev pub switch_to : Aim → AimedSwitch
switch_to a = record { cases = []; ranges = []; default = a }

-- a case has unit, a truth value, an integer, a character or a text
abbrev pub case_value : Dynamic → Result CaseValue Reason
case_value values.Unit = Ok case.Unit
case_value (values.Bool b) = Ok (case.Bool b)
case_value (values.Int n) = Ok (case.Int n)
case_value (values.Char c) = Ok (case.Char c)
case_value (values.Text t) = Ok (case.Text t)
case_value v = Err BadValue

-- after `case`: a value and a target
abbrev pub case_of : ℕ → List ℕ → Result AimedCase Reason
case_of line cs =
    and_then (value_operand cs) (λ v. and_then (case_value v.0) (λ c.
    and_then (aim_of line v.1) (λ a. Ok (record { value = c; aim = a }))))

-- after `range` or `range=`: two integers and a target
abbrev pub range_of : Bool → ℕ → List ℕ → Result AimedRange Reason
range_of inclusive line cs =
    and_then (integer_operand cs) (λ m. and_then (integer_operand m.1) (λ n.
    and_then (aim_of line n.1)
    (λ a. Ok (record { from = m.0; to = n.0; inclusive = inclusive; aim = a }))))
