use Rattle.std.proofs.Common.{◌≡◌, length}
use Rattle.grain_words.specs.Words.{skip_gaps}
use Rattle.grain_words.proofs.words.skip_gaps.Given as goal

abbrev pub invariant-scan : goal.invariant-scan
invariant-scan l = skip_gaps l.rest ≡ skip_gaps l.line

abbrev pub decreases-scan : goal.decreases-scan
decreases-scan l = length l.rest
