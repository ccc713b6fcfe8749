use Rattle.std.proofs.Common.{◌≡◌, rules, sym, subst, ◌∙◌, IfOk, List, ℕ, Ok, chars}
use Rattle.grain_words.specs.Lines.{lines_of}
use Rattle.grain_listing.specs.Reading.{reads}
use Rattle.grain_listing.specs.ListingViews.{set_up_of}
use Rattle.grain_addresses.specs.Places.{Place}
use Rattle.grain_addresses.specs.Walks.{start, walked, walked_steps}
use Rattle.grain_addresses.specs.Finding.{IsTiled}
use Rattle.grain_addresses.proofs.Readings.{is_text, told_status, told_text}
use Rattle.grain_addresses.proofs.Tiles.{tiled}
use Rattle.grain_addresses.proofs.answers.explain.Goals as goal

pub characters-requires : goal.characters-requires
characters-requires c =
    let is : reads c.args.bytes.now ≡ Ok (set_up_of c.in-Ok.listing) = search rules in
    is_text c.args.bytes.now (set_up_of c.in-Ok.listing) is

pub told-requires : goal.told-requires
told-requires c =
    let places : c.as_slice-lines.result.now ≡ walked start (lines_of c.as_slice-all.result.now) =
    c.as_slice-lines.ensures.value ∙ c.in_ok-places-in-Ok.ensures in
    subst (λ (ps : List Place). IsTiled 0 ps) (sym places)
    (tiled start (lines_of c.as_slice-all.result.now))

pub returns-in_ok-steps-in-Ok-clause-status : goal.returns-in_ok-steps-in-Ok-clause-status
returns-in_ok-steps-in-Ok-clause-status c =
    let is : reads c.args.bytes.now ≡ Ok (set_up_of c.in-Ok.listing) = search rules in
    let text : c.as_slice-all.result.now ≡ chars c.args.bytes.now =
    c.as_slice-all.ensures.value ∙ c.in_ok-text-in-Ok.ensures.chars in
    let places : c.as_slice-lines.result.now ≡ walked start (lines_of c.as_slice-all.result.now) =
    c.as_slice-lines.ensures.value ∙ c.in_ok-places-in-Ok.ensures in
    let steps : c.as_slice-slots.result.now ≡ walked_steps start (lines_of c.as_slice-all.result.now) =
    c.as_slice-slots.ensures.value ∙ c.in_ok-steps-in-Ok.ensures in
    subst (λ (n : ℕ). IfOk c.told.result (λ r. r.status ≡ n))
    (told_status c.args.bytes.now c.as_slice-all.result.now (set_up_of c.in-Ok.listing)
    c.as_slice-lines.result.now c.as_slice-slots.result.now c.args.queries.now is text places steps)
    c.told.ensures.status

pub returns-in_ok-steps-in-Ok-clause-text : goal.returns-in_ok-steps-in-Ok-clause-text
returns-in_ok-steps-in-Ok-clause-text c =
    let is : reads c.args.bytes.now ≡ Ok (set_up_of c.in-Ok.listing) = search rules in
    let text : c.as_slice-all.result.now ≡ chars c.args.bytes.now =
    c.as_slice-all.ensures.value ∙ c.in_ok-text-in-Ok.ensures.chars in
    let places : c.as_slice-lines.result.now ≡ walked start (lines_of c.as_slice-all.result.now) =
    c.as_slice-lines.ensures.value ∙ c.in_ok-places-in-Ok.ensures in
    let steps : c.as_slice-slots.result.now ≡ walked_steps start (lines_of c.as_slice-all.result.now) =
    c.as_slice-slots.ensures.value ∙ c.in_ok-steps-in-Ok.ensures in
    subst (λ (t : List ℕ). IfOk c.told.result (λ r. r.text ≡ t))
    (told_text c.args.bytes.now c.as_slice-all.result.now (set_up_of c.in-Ok.listing)
    c.as_slice-lines.result.now c.as_slice-slots.result.now c.args.queries.now is text places steps)
    c.told.ensures.text
