use Rattle.std.proofs.Common.{◌≡◌, length, true}
use Rattle.grain_words.specs.Numerals.{number_from, are_digits}
use Rattle.grain_words.proofs.numerals.number.Given as goal

abbrev pub invariant-digits : goal.invariant-digits
invariant-digits l = (number_from l.number l.rest ≡ number_from 0 l.word) ×
    (are_digits l.rest ≡ true)

abbrev pub decreases-digits : goal.decreases-digits
decreases-digits l = length l.rest
