use Rattle.std.proofs.Common.{◌≡◌, length, bytes_eq}
use Rattle.grain_words.proofs.words.is_word.Given as goal

abbrev pub invariant-scan : goal.invariant-scan
invariant-scan l = bytes_eq l.left l.bytes ≡ bytes_eq l.word l.text

abbrev pub decreases-scan : goal.decreases-scan
decreases-scan l = length l.left
