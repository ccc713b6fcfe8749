-- What the map of texts gives, seen as pairs of a key and a tree.
use Rattle.std.proofs.Common.{option_map, ap, ◌∙◌}
use Rattle.grain_value.specs.View.{tree, entries_view}
use Rattle.grain_value.proofs.Pairs.{view-insert_entry, view-lookup}
use Rattle.grain_value.proofs.values.Map.insert.Goals as goal

pub returns-clause-entries : goal.returns-clause-entries
returns-clause-entries c =
    rw (← c.in_ok-name.ensures, ← c.self.view_is)
    (ap entries_view c.in_ok-old.ensures.entries
    ∙ view-insert_entry c.self.inside.pairs.entries c.in_ok-name.name c.args.value)

pub returns-clause-old : goal.returns-clause-old
returns-clause-old c =
    rw (← c.in_ok-name.ensures, ← c.self.view_is)
    (ap (option_map tree) c.in_ok-old.ensures.old ∙ view-lookup _ c.self.inside.pairs.entries)
