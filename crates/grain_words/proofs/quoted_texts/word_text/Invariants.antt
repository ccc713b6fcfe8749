use Rattle.std.proofs.Common.{◌≡◌, ◌++◌, length}
use Rattle.std.specs.Str.{encode_utf8_all}
use Rattle.grain_words.proofs.quoted_texts.word_text.Given as goal

abbrev pub invariant-scan : goal.invariant-scan
invariant-scan l = l.text ++ encode_utf8_all l.rest ≡ encode_utf8_all l.word

abbrev pub decreases-scan : goal.decreases-scan
decreases-scan l = length l.rest
