use Rattle.std.proofs.Common.{◌∙◌, ◌≡◌, option_map, rules}
use Rattle.grain_words.proofs.LabelMaps.{found}
use Rattle.grain_words.proofs.labels.Labels.get.Goals as goal

pub returns : goal.returns
returns c =
    let e : c.copied.result ≡ option_map (λ d. d.now) c.get.result = search rules in
    rw (← c.self.view_is) (e ∙ c.get.ensures.value ∙
    found c.args.label.now c.self.inside.addresses.entries)
