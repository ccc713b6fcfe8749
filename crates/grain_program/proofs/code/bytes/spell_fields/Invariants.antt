-- The code has the bytes of the operands so far, and those of the others are to come.
use Rattle.std.proofs.Common.{◌≡◌, ◌++◌, drop}
use Rattle.grain_program.specs.Fields.{present}
use Rattle.grain_program.specs.Spelling.{fields_spelled}
use Rattle.grain_program.proofs.code.bytes.spell_fields.Given as goal

abbrev pub invariant-loop-place : goal.invariant-loop-place
invariant-loop-place l = l.code.items ++ fields_spelled (present (drop l.place-index l.places))
    ≡ l.initial.code.items ++ fields_spelled (present l.places)
