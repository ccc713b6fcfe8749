-- Numbers in decimal digits, without a sign or leading zeros, and integers, which may have a minus.
use Rattle.std.specs.Prelude.{ℕ, suc, zero, ◌*◌, ◌+◌, ◌-◌, ◌^◌, ℤ, pos, negsuc, Bool, true, false, ◌&&◌, ◌||◌, not, List, [], ◌∷◌, Option, Some, None, option_map, ◌==◌, nat_lt, if◌then◌else◌}

abbrev pub is_digit : ℕ → Bool
is_digit c = nat_lt 47 c && nat_lt c 58

abbrev pub are_digits : List ℕ → Bool
are_digits [] = true
are_digits (c ∷ cs) = is_digit c && are_digits cs

-- the number that the digits say, after those that say n
abbrev pub number_from : ℕ → List ℕ → ℕ
number_from n [] = n
number_from n (c ∷ cs) = number_from (n * 10 + (c - 48)) cs

abbrev pub is_empty : List ℕ → Bool
is_empty [] = true
is_empty (c ∷ cs) = false

-- at least one digit, and no zero before others
abbrev pub is_numeral : List ℕ → Bool
is_numeral [] = false
is_numeral (c ∷ cs) = are_digits (c ∷ cs) && (not (c == 48) || is_empty cs)

-- the number of the word, where it is at most `most`
abbrev pub number : ℕ → List ℕ → Option ℕ
number most w = if is_numeral w && not (nat_lt most (number_from 0 w)) then
    Some (number_from 0 w) else None

-- the integer below zero by n
abbrev pub minus : ℕ → ℤ
minus zero = pos 0
minus (suc n) = negsuc n

-- the integer of the word, of 64 bits
abbrev pub integer : List ℕ → Option ℤ
integer [] = None
integer (c ∷ cs) = if c == 45 then option_map minus (number (2 ^ 63) cs) else
    option_map pos (number (2 ^ 63 - 1) (c ∷ cs))

abbrev pub is_letter : ℕ → Bool
is_letter c = (nat_lt 64 c && nat_lt c 91) || (nat_lt 96 c && nat_lt c 123)

abbrev pub begins_letter : List ℕ → Bool
begins_letter [] = false
begins_letter (c ∷ cs) = is_letter c
