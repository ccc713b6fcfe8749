use Rattle.std.proofs.Common.{◌≡◌, drop}
use Rattle.grain_words.specs.Numerals.{are_digits}
use Rattle.grain_words.proofs.numerals.are_digits.Given as goal

abbrev pub invariant-loop-c : goal.invariant-loop-c
invariant-loop-c l = are_digits (drop l.c-index l.word) ≡ are_digits l.word
