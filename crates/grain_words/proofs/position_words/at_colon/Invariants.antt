use Rattle.std.proofs.Common.{◌≡◌, ◌+◌, length, take, drop}
use Rattle.grain_words.specs.PositionWords.{at_colon}
use Rattle.grain_words.proofs.FirstColons.{in_front}
use Rattle.grain_words.proofs.position_words.at_colon.Given as goal

abbrev pub invariant-scan : goal.invariant-scan
invariant-scan l = (in_front (take l.count l.word) (at_colon l.rest) ≡ at_colon l.word) ×
    (drop l.count l.word ≡ l.rest) × (l.count + length l.rest ≡ length l.word)

abbrev pub decreases-scan : goal.decreases-scan
decreases-scan l = length l.rest
