use Rattle.std.proofs.Common.{◌≡◌, length, option_map}
use Rattle.grain_words.specs.Words.{quoted}
use Rattle.grain_words.proofs.quoted_texts.after_quote.Given as goal

abbrev pub invariant-scan : goal.invariant-scan
invariant-scan l = option_map (λ x. x.1) (quoted l.rest) ≡
    option_map (λ x. x.1) (quoted l.chars)

abbrev pub decreases-scan : goal.decreases-scan
decreases-scan l = length l.rest
