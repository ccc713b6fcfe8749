use Rattle.std.proofs.Common.{◌≡◌, length}
use Rattle.grain_words.specs.Words.{trim_start}
use Rattle.grain_words.proofs.words.trim_start.Given as goal

abbrev pub invariant-scan : goal.invariant-scan
invariant-scan l = trim_start l.rest ≡ trim_start l.line

abbrev pub decreases-scan : goal.decreases-scan
decreases-scan l = length l.rest
