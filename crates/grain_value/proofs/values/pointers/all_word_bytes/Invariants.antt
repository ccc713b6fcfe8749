-- The bytes that are left decide.
use Rattle.std.proofs.Common.{◌≡◌, drop}
use Rattle.grain_value.specs.Pointers.{all_word_bytes}
use Rattle.grain_value.proofs.values.pointers.all_word_bytes.Given as goal

abbrev pub invariant-loop-byte : goal.invariant-loop-byte
invariant-loop-byte l = all_word_bytes (drop l.byte-index l.name) ≡ all_word_bytes l.name
