-- The switches that lines say, once the labels are known. What looks a label up is given.
use Rattle.std.specs.Prelude.{ℕ, List, [], ◌∷◌, map, Option, Some, None, Result, Ok}
use Rattle.grain_program.specs.declared.code.switches.Case.{Case}
use Rattle.grain_program.specs.declared.code.switches.SwitchRange.{SwitchRange}
use Rattle.grain_program.specs.declared.code.switches.Switch.{Switch}
use Rattle.grain_literals.specs.Steps.{and_then, present}
use Rattle.grain_literals.specs.declared.reasons.Reason.TheVariants.{UnknownLabel}
use Rattle.grain_listing.specs.Statements.{bad_line}
use Rattle.grain_listing.specs.declared.reasons.BadLine.{BadLine}
use Rattle.grain_listing.specs.declared.switch_words.Aim.{Aim}
use Rattle.grain_listing.specs.declared.switch_words.Aim.TheVariants as aims
use Rattle.grain_listing.specs.declared.switch_words.AimedCase.{AimedCase}
use Rattle.grain_listing.specs.declared.switch_words.AimedRange.{AimedRange}
use Rattle.grain_listing.specs.declared.switch_words.AimedSwitch.{AimedSwitch}

-- each label of the aims is known, or the first line that names an unknown one
abbrev pub all_known : (List ℕ → Option ℕ) → List Aim → Result (Unit {0}) BadLine
all_known look [] = Ok tt
all_known look (aims.Address a ∷ more) = all_known look more
all_known look (aims.Label line t ∷ more) =
    and_then (present (bad_line line UnknownLabel) (look t)) (λ a. all_known look more)

abbrev pub or_zero : Option ℕ → ℕ
or_zero None = 0
or_zero (Some a) = a

-- the address to which the aim leads, whose label is known
abbrev pub target_of : (List ℕ → Option ℕ) → Aim → ℕ
target_of look (aims.Address a) = a
target_of look (aims.Label line t) = or_zero (look t)

abbrev pub linked_case : (List ℕ → Option ℕ) → AimedCase → Case
linked_case look c = record { value = c.value; target = target_of look c.aim }

abbrev pub linked_range : (List ℕ → Option ℕ) → AimedRange → SwitchRange
linked_range look r = record {
  from = r.from;
  to = r.to;
  inclusive = r.inclusive;
  target = target_of look r.aim;
}

abbrev pub linked_switch : (List ℕ → Option ℕ) → AimedSwitch → Switch
linked_switch look s = record {
  cases = map (linked_case look) s.cases;
  ranges = map (linked_range look) s.ranges;
  default = target_of look s.default;
}
