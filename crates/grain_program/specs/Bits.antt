-- Sets of flags as the numbers of their bits: capabilities, and what holds of a step of a chain.
use Rattle.std.specs.Prelude.{ℕ}
use Rattle.grain_program.specs.declared.code.caps.Caps.{Caps}
use Rattle.grain_program.specs.declared.code.chains.StepFlags.{StepFlags}

abbrev pub bits_of : Caps → ℕ
bits_of caps = caps.0

abbrev pub step_bits : StepFlags → ℕ
step_bits flags = flags.0
