use Rattle.std.proofs.Common.{◌≡◌, length}
use Rattle.grain_words.specs.Words.{quoted, in_front}
use Rattle.grain_words.proofs.quoted_texts.quoted.Given as goal

abbrev pub invariant-scan : goal.invariant-scan
invariant-scan l = in_front l.text (quoted l.rest) ≡ quoted l.chars

abbrev pub decreases-scan : goal.decreases-scan
decreases-scan l = length l.rest
