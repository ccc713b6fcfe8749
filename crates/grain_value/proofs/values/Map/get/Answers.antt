use Rattle.std.proofs.Common.{option_map, ap, ◌∙◌}
use Rattle.grain_value.specs.View.{tree}
use Rattle.grain_value.proofs.Pairs.{tree_of_ref, view-lookup}
use Rattle.grain_value.proofs.values.Map.get.Goals as goal

pub returns : goal.returns
returns c =
    rw (← c.self.view_is)
    (tree_of_ref c.get.result ∙ ap (option_map tree) c.get.ensures.value ∙
    view-lookup c.args.key.now c.self.inside.pairs.entries)
