-- Shifts of integers of 64 bits.
use Rattle.std.specs.Prelude.{ℤ, pos, negsuc, ℕ, nat_lt, unsigned_abs, if◌then◌else◌}
use Rattle.std.specs.Int.{w64, int_shl, int_shr, is_negative}

-- to the left by n bits, of which those past the highest are lost: 64 or more leave nothing
abbrev pub left_by : ℤ → ℕ → ℤ
left_by x n = if nat_lt n 64 then int_shl w64 x n else pos 0

-- to the right by n bits, where the sign stays: 64 or more leave the sign alone
abbrev pub right_by : ℤ → ℕ → ℤ
right_by x n =
    if nat_lt n 64 then int_shr x n else (if is_negative x then negsuc 0 else pos 0)

-- by a count, which shifts the other way if it is negative
abbrev pub shifted_left : ℤ → ℤ → ℤ
shifted_left x count =
    if is_negative count then right_by x (unsigned_abs count) else left_by x (unsigned_abs count)

abbrev pub shifted_right : ℤ → ℤ → ℤ
shifted_right x count =
    if is_negative count then left_by x (unsigned_abs count) else right_by x (unsigned_abs count)
