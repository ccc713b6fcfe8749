-- Limits and capabilities.
use Rattle.std.specs.Prelude.{ℕ, ◌+◌, ◌^◌, ◌-◌, Bool, true, false, List, [], ◌∷◌, Option, Some, None, Result, Ok, Err, codes, bytes_eq, nat_lt, if◌then◌else◌}
use Rattle.grain_literals.specs.Steps.{and_then}
use Rattle.grain_literals.specs.Operands.{after_name, alone, number_operand}
use Rattle.grain_literals.specs.declared.reasons.Reason.{Reason}
use Rattle.grain_literals.specs.declared.reasons.Reason.TheVariants.{BadOperand, NotBuilt}
use Rattle.grain_listing.specs.declared.limits.Limit.{Limit}

abbrev pub limit : ℕ → ℕ → Bool → Limit
limit default least is_built =
    record { default = default; least = least; is_built = is_built }

-- the limits by their names: what is allowed without a line, the least that a line may allow, and
-- whether such a line is read so far
abbrev pub limit_table : List (List ℕ × Limit)
limit_table =
    (codes "operations", limit 1000000 1 true) ∷
    (codes "levels", limit 64 0 true) ∷
    (codes "variables", limit 10000 0 true) ∷
    (codes "modules", limit 1000 0 false) ∷
    (codes "text", limit 0 0 true) ∷
    (codes "array", limit 0 0 true) ∷
    (codes "map", limit 0 0 true) ∷ []

-- the entry of that name, and what it has
abbrev pub entry_named : {A : Type 0} → List ℕ → List (List ℕ × A) → Option (List ℕ × A)
entry_named w [] = None
entry_named w (x ∷ xs) = if bytes_eq w x.0 then Some x else entry_named w xs

abbrev pub default_in : Option (List ℕ × Limit) → ℕ
default_in None = 0
default_in (Some x) = x.1.default

abbrev pub number_or : ℕ → Option (List ℕ × ℕ) → ℕ
number_or n None = n
number_or n (Some x) = x.1

-- what is allowed of the limit of that name: what the lines set, or else what the table has
unfoldable pub number_of : List ℕ → List (List ℕ × ℕ) → ℕ
number_of w set = number_or (default_in (entry_named w limit_table)) (entry_named w set)

-- a limit is one of the table
abbrev pub built : Option (List ℕ × Limit) → Result (List ℕ × Limit) Reason
built None = Err BadOperand
built (Some x) = if x.1.is_built then Ok x else Err NotBuilt

unfoldable pub limit_named : List ℕ → Result (List ℕ × Limit) Reason
limit_named w = built (entry_named w limit_table)

-- at least the least number is allowed
abbrev pub allowed : Limit → ℕ → Result ℕ Reason
allowed l n = if nat_lt n l.least then Err BadOperand else Ok n

-- a limit's number, alone
abbrev pub limit_number : Limit → List ℕ → Result ℕ Reason
limit_number l cs =
    and_then (number_operand (2 ^ 64 - 1) cs) (λ a. and_then (allowed l a.0) (λ n. alone a.1 n))

-- the capabilities by their names, with the bit of each
abbrev pub capability_bits : List (List ℕ × ℕ)
capability_bits =
    (codes "function", 1) ∷ (codes "module", 2) ∷ (codes "closure", 4) ∷ (codes "custom", 8) ∷
    (codes "fragment", 16) ∷ []

-- the bit of a name that stands next, and what is left after that
abbrev pub bit_of : Option (List ℕ) → ℕ → ℕ
bit_of None bit = 0
bit_of (Some rest) bit = bit

abbrev pub past : Option (List ℕ) → List ℕ → List ℕ
past None cs = cs
past (Some rest) cs = rest

-- after `caps`: none or more of these names, in this order
abbrev pub capabilities : List (List ℕ × ℕ) → List ℕ → Result ℕ Reason
capabilities [] cs = alone cs 0
capabilities (x ∷ xs) cs =
    and_then (capabilities xs (past (after_name x.0 cs) cs))
    (λ bits. Ok (bit_of (after_name x.0 cs) x.1 + bits))
