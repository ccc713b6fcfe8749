-- What an instruction needs a program to have, by its row.
use Rattle.std.specs.Prelude.{ℕ, ◌≡◌, ◌==◌, Bool}
use Rattle.std.specs.Int.RustNames.{bit_and}
use Rattle.grain_program.specs.declared.code.instruction_set.Op.{Op}
use Rattle.grain_program.specs.InstructionSet.{row}

-- the bit of the capability that the instruction needs, or no bit
abbrev pub needs : Op → ℕ
needs o = (row o).capability

-- what the instruction needs is among the bits
abbrev pub Permits : ℕ → Op → Type 0
Permits caps o = bit_and caps (needs o) ≡ needs o

-- the test of what the instruction needs
abbrev pub permits : ℕ → Op → Bool
permits caps o = bit_and caps (needs o) == needs o
