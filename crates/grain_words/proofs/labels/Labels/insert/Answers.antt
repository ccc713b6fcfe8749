use Rattle.std.proofs.Common.{◌∙◌, ap, ◌≡◌, rules, string_bytes}
use Rattle.grain_words.specs.LabelView.{labels_view}
use Rattle.grain_words.proofs.LabelMaps.{inserted}
use Rattle.grain_words.proofs.labels.Labels.insert.Goals as goal

pub returns : goal.returns
returns c =
    let k : string_bytes c.in_ok-label.label ≡ c.args.label.now = search rules in
    rw (← c.self.view_is, ← k) (ap labels_view c.in_ok-insert.ensures.entries ∙
    inserted c.self.inside.addresses.entries c.in_ok-label.label c.args.address)
