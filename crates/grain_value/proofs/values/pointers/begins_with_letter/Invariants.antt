-- The bytes that are left decide.
use Rattle.std.proofs.Common.{◌≡◌, drop}
use Rattle.grain_value.specs.Pointers.{begins_with_letter}
use Rattle.grain_value.proofs.values.pointers.begins_with_letter.Given as goal

abbrev pub invariant-loop-byte : goal.invariant-loop-byte
invariant-loop-byte l =
    begins_with_letter (drop l.byte-index l.name) ≡ begins_with_letter l.name
