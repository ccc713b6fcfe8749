use Rattle.std.proofs.Common.{◌≡◌, length}
use Rattle.grain_words.specs.Words.{after_text}
use Rattle.grain_words.proofs.words.after_text.Given as goal

abbrev pub invariant-scan : goal.invariant-scan
invariant-scan l = after_text l.bytes l.rest ≡ after_text l.text l.line

abbrev pub decreases-scan : goal.decreases-scan
decreases-scan l = length l.bytes
