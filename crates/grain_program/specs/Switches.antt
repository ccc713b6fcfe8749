-- Switches: which target of a record a value takes, and what its targets are.
use Rattle.std.specs.Prelude.{ℕ, ℤ, int_lt, int_le, ◌&&◌, ◌||◌, not, Bool, true, false, List, [], ◌∷◌, ◌++◌, map, Option, Some, None, bytes_eq, ◌==◌, if◌then◌else◌}
use Rattle.std.specs.Ordering.{nat_cmp, int_eq}
use Rattle.std.specs.BTreeSet.{insert_key}
use Rattle.grain_value.specs.declared.values.Dynamic.{Dynamic}
use Rattle.grain_value.specs.declared.values.Dynamic.TheVariants as values
use Rattle.grain_program.specs.declared.code.switches.CaseValue.{CaseValue}
use Rattle.grain_program.specs.declared.code.switches.CaseValue.TheVariants as case
use Rattle.grain_program.specs.declared.code.switches.Case.{Case}
use Rattle.grain_program.specs.declared.code.switches.SwitchRange.{SwitchRange}
use Rattle.grain_program.specs.declared.code.switches.Switch.{Switch}

-- ---- the target of a value

-- two truth values are the same
abbrev pub same_truth : Bool → Bool → Bool
same_truth true b = b
same_truth false b = not b

-- the case's value is this value, of the same kind
abbrev pub is_value : CaseValue → Dynamic → Bool
is_value case.Unit values.Unit = true
is_value (case.Bool a) (values.Bool b) = same_truth a b
is_value (case.Int a) (values.Int b) = int_eq a b
is_value (case.Char a) (values.Char b) = a == b
is_value (case.Text a) (values.Text b) = bytes_eq a b
is_value c v = false

-- the integer is one of the range
abbrev pub in_range : SwitchRange → ℤ → Bool
in_range r n = int_le r.from n && (int_lt n r.to || (r.inclusive && int_eq n r.to))

-- the target of the first case of the value, if there is one
abbrev pub case_target : Dynamic → List Case → Option ℕ
case_target v [] = None
case_target v (c ∷ cs) = if is_value c.value v then Some c.target else case_target v cs

-- the target of the first range that has the integer, if one has it
abbrev pub range_target : ℤ → List SwitchRange → Option ℕ
range_target n [] = None
range_target n (r ∷ rs) = if in_range r n then Some r.target else range_target n rs

abbrev pub or_default : ℕ → Option ℕ → ℕ
or_default default None = default
or_default default (Some target) = target

-- where a value leads that no case is for
abbrev pub other_target : Switch → Dynamic → ℕ
other_target s (values.Int n) = or_default s.default (range_target n s.ranges)
other_target s v = s.default

abbrev pub case_or_other : Switch → Dynamic → Option ℕ → ℕ
case_or_other s v None = other_target s v
case_or_other s v (Some target) = target

-- where the value leads: the first case of the value, or else for an integer the first range that has
-- it, or else the default
abbrev pub switch_target : Switch → Dynamic → ℕ
switch_target s v = case_or_other s v (case_target v s.cases)

-- ---- the targets of a record

abbrev pub case_targets : List Case → List ℕ
case_targets cs = map (λ c. c.target) cs

abbrev pub range_targets : List SwitchRange → List ℕ
range_targets rs = map (λ r. r.target) rs

-- the targets of its cases, of its ranges, and of all other values
abbrev pub targets_in : Switch → List ℕ
targets_in s = case_targets s.cases ++ (range_targets s.ranges ++ s.default ∷ [])

-- the targets of a record that is there
abbrev pub targets_if : Option Switch → List ℕ
targets_if None = []
targets_if (Some s) = targets_in s

-- the numbers in ascending order, each once, with those that are in order already
abbrev pub put_in_order : List ℕ → List ℕ → List ℕ
put_in_order ordered [] = ordered
put_in_order ordered (n ∷ ns) = put_in_order (insert_key nat_cmp ordered n) ns

-- the numbers in ascending order, each once
abbrev pub in_order : List ℕ → List ℕ
in_order ns = put_in_order [] ns
