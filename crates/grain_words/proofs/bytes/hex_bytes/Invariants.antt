use Rattle.std.proofs.Common.{◌≡◌, length}
use Rattle.grain_words.specs.Words.{in_front}
use Rattle.grain_words.specs.Bytes.{hex_bytes}
use Rattle.grain_words.proofs.bytes.hex_bytes.Given as goal

abbrev pub invariant-scan : goal.invariant-scan
invariant-scan l = in_front l.bytes (hex_bytes l.rest) ≡ hex_bytes l.chars

abbrev pub decreases-scan : goal.decreases-scan
decreases-scan l = length l.rest
