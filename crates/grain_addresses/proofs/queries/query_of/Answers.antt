use Rattle.std.proofs.Common.{rules, ◌≡◌, ◌∙◌, ap, chars, ℕ, List}
use Rattle.std.proofs.lemmas.Str.{chars_from_encodes}
use Rattle.grain_addresses.specs.Queries.{query_in}
use Rattle.grain_addresses.proofs.queries.query_of.Goals as goal

pub returns : goal.returns
returns c =
    let spelled : c.as_slice.result.now ≡ chars c.args.word.now =
    search (rules, chars_from_encodes) in
    c.query_in.ensures ∙ ap (λ (w : List ℕ). query_in w) spelled
