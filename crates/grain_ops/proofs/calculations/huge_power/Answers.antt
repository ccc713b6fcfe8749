-- 0, 1 and -1 have a power that fits, and no other number.
use Rattle.std.proofs.Common.{◌≡◌, ◌%◌, ◌==◌, true, false, arith}
use Rattle.grain_ops.proofs.Powers.{of_zero, of_one, of_minus_one, of_minus_one_odd, does_not_fit, is_number, is_minus_one, is_large}
use Rattle.grain_ops.proofs.calculations.huge_power.Goals as goal

pub returns-then-x-eq0 : goal.returns-then-x-eq0
returns-then-x-eq0 c =
    of_zero c.args.x c.args.exponent
    (is_number c.args.x 0 c.ranges.x (omega arith) c.if-x-eq0.true) c.requires

pub returns-then-x-eq1 : goal.returns-then-x-eq1
returns-then-x-eq1 c =
    of_one c.args.x c.args.exponent
    (is_number c.args.x 1 c.ranges.x (omega arith) c.if-x-eq1.true)

pub returns-then-exponent-eq0 : goal.returns-then-exponent-eq0
returns-then-exponent-eq0 c =
    let even : (c.args.exponent % 2 == 0) ≡ true = grind arith in
    of_minus_one c.args.x c.args.exponent
    (is_minus_one c.args.x c.ranges.x c.if-x-eqminus1.true) even

pub returns-else-exponent-eq0 : goal.returns-else-exponent-eq0
returns-else-exponent-eq0 c =
    let odd : (c.args.exponent % 2 == 0) ≡ false = grind arith in
    of_minus_one_odd c.args.x c.args.exponent
    (is_minus_one c.args.x c.ranges.x c.if-x-eqminus1.true) odd

pub returns-else-x-eqminus1 : goal.returns-else-x-eqminus1
returns-else-x-eqminus1 c =
    let large = is_large c.args.x c.ranges.x c.if-x-eq0.false c.if-x-eq1.false
    c.if-x-eqminus1.false in
    does_not_fit c.args.x c.args.exponent large c.requires
