-- The characters are those of the word.
use Rattle.std.proofs.Common.{rules, ◌≡◌, ◌∙◌, ap, chars, ℕ, List}
use Rattle.std.proofs.lemmas.Str.{chars_from_encodes}
use Rattle.grain_words.specs.Numerals.{number}
use Rattle.grain_commands.specs.SelfListings.{positive}
use Rattle.grain_commands.proofs.self_listings.number_of.Goals as goal

pub returns-clause-number : goal.returns-clause-number
returns-clause-number c =
    let spelled : c.as_slice.result.now ≡ chars c.args.word.now =
    search (rules, chars_from_encodes) in
    c.number_in.ensures.number ∙ ap (λ (w : List ℕ). positive (number 10000 w)) spelled
