-- Calculations on two integers: when there is a result that fits 64 bits, which one, and the text
-- of the fault where there is none.
use Rattle.std.specs.Prelude.{ℤ, pos, negsuc, ◌^◌, ◌+ℤ◌, ◌-ℤ◌, ◌*ℤ◌, neg_ℤ, int_lt, int_div, int_rem, unsigned_abs, ℕ, Bool, not, List, ◌++◌, codes, ◌&&◌, if◌then◌else◌}
use Rattle.std.specs.Int.{int_pow, is_negative}
use Rattle.std.specs.Ordering.{int_eq}
use Rattle.std.specs.Fmt.{signed_decimal}
use Rattle.grain_value.specs.declared.values.Dynamic.TheVariants as dynamic
use Rattle.grain_ops.specs.declared.calculations.Calculation.{Calculation}
use Rattle.grain_ops.specs.declared.calculations.Calculation.TheVariants as calculation
use Rattle.grain_ops.specs.Outcomes.{Outcome, Gave, ArithmeticFault}

-- whether an integer fits 64 bits with a sign
abbrev pub fits64 : ℤ → Bool
fits64 n = int_lt n (pos (2 ^ 63)) && int_lt (negsuc (2 ^ 63)) n

-- the exact result: a quotient is rounded towards zero, a remainder has the sign of x, and a number
-- to the power 0 is 1
abbrev pub exact : Calculation → ℤ → ℤ → ℤ
exact calculation.Addition x y = x +ℤ y
exact calculation.Subtraction x y = x -ℤ y
exact calculation.Multiplication x y = x *ℤ y
exact calculation.Division x y = int_div x y
exact calculation.Remainder x y = int_rem x y
exact calculation.Power x y = int_pow x (unsigned_abs y)

-- whether there is a result that fits: a divisor is not zero, and an exponent not negative; a
-- remainder is there where the quotient is
abbrev pub has_result : Calculation → ℤ → ℤ → Bool
has_result calculation.Addition x y = fits64 (x +ℤ y)
has_result calculation.Subtraction x y = fits64 (x -ℤ y)
has_result calculation.Multiplication x y = fits64 (x *ℤ y)
has_result calculation.Division x y = not (int_eq y (pos 0)) && fits64 (int_div x y)
has_result calculation.Remainder x y = not (int_eq y (pos 0)) && fits64 (int_div x y)
has_result calculation.Power x y = not (is_negative y) && fits64 (int_pow x (unsigned_abs y))

-- the text of the fault of a divisor
abbrev pub division_lead : ℤ → List ℕ
division_lead y =
    if int_eq y (pos 0) then codes "Division by zero: " else codes "Division overflow: "

-- the text of the fault of an exponent
abbrev pub power_lead : ℤ → List ℕ
power_lead y =
    if is_negative y then codes "Integer raised to a negative power: "
    else codes "Exponential overflow: "

-- the text of the fault that there is no result that fits, up to the first number
abbrev pub lead : Calculation → ℤ → List ℕ
lead calculation.Addition y = codes "Addition overflow: "
lead calculation.Subtraction y = codes "Subtraction overflow: "
lead calculation.Multiplication y = codes "Multiplication overflow: "
lead calculation.Division y = division_lead y
lead calculation.Remainder y = division_lead y
lead calculation.Power y = power_lead y

-- what stands between its numbers
abbrev pub sign_between : Calculation → List ℕ
sign_between calculation.Addition = codes " + "
sign_between calculation.Subtraction = codes " - "
sign_between calculation.Multiplication = codes " * "
sign_between calculation.Division = codes " / "
sign_between calculation.Remainder = codes " % "
sign_between calculation.Power = codes " ** "

abbrev pub fault_text : Calculation → ℤ → ℤ → List ℕ
fault_text c x y = lead c y ++ signed_decimal x ++ sign_between c ++ signed_decimal y

abbrev pub calculated : Calculation → ℤ → ℤ → Outcome
calculated c x y =
    if has_result c x y then Gave (dynamic.Int (exact c x y))
    else ArithmeticFault (fault_text c x y)

-- the negation
abbrev pub negated : ℤ → Outcome
negated x =
    if fits64 (neg_ℤ x) then Gave (dynamic.Int (neg_ℤ x))
    else ArithmeticFault (codes "integer overflow")
