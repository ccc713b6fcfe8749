-- None of the operands so far is a chain.
use Rattle.std.proofs.Common.{◌≡◌, drop}
use Rattle.grain_program.specs.Fields.{chain_in, present}
use Rattle.grain_program.proofs.code.fields.chain_in.Given as goal

abbrev pub invariant-loop-place : goal.invariant-loop-place
invariant-loop-place l =
    chain_in (present (drop l.place-index l.places)) ≡ chain_in (present l.places)
