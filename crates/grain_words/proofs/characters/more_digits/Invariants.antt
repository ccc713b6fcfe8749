use Rattle.std.proofs.Common.{◌≡◌, ◌≤◌, length}
use Rattle.grain_words.specs.Characters.{more_digits}
use Rattle.grain_words.proofs.characters.more_digits.Given as goal

abbrev pub invariant-scan : goal.invariant-scan
invariant-scan l = (more_digits l.number l.rest ≡ more_digits l.fn.first l.chars) ×
    (l.number ≤ 0x10ffff) × (length l.rest ≤ length l.chars)

abbrev pub decreases-scan : goal.decreases-scan
decreases-scan l = length l.rest
