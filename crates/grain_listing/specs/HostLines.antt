-- Lines of the host's tables.
use Rattle.std.specs.Prelude.{ℕ, ◌^◌, ◌-◌, List, Result, Ok}
use Rattle.grain_value.specs.declared.values.Dynamic.{Dynamic}
use Rattle.grain_literals.specs.Steps.{and_then}
use Rattle.grain_literals.specs.Operands.{alone, number_operand}
use Rattle.grain_literals.specs.Literals.{constant_of}
use Rattle.grain_literals.specs.declared.reasons.Reason.{Reason}

-- a number of 64 bits
abbrev pub count_operand : List ℕ → Result (ℕ × List ℕ) Reason
count_operand cs = number_operand (2 ^ 64 - 1) cs

-- after `fail`: the number of a call, alone
abbrev pub fail_of : List ℕ → Result ℕ Reason
fail_of cs = and_then (count_operand cs) (λ a. alone a.1 a.0)

-- after `stop`: a number of operations and a value, alone
abbrev pub stop_of : List ℕ → Result (ℕ × Dynamic) Reason
stop_of cs = and_then (count_operand cs) (λ a. and_then (constant_of a.1) (λ v. Ok (a.0, v)))
