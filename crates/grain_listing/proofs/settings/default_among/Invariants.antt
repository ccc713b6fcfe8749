use Rattle.std.proofs.Common.{◌≡◌, drop, map}
use Rattle.grain_listing.specs.Settings.{entry_named}
use Rattle.grain_listing.specs.views.Limits.{row_view}
use Rattle.grain_listing.proofs.settings.default_among.Given as goal

abbrev pub invariant-loop-other : goal.invariant-loop-other
invariant-loop-other l = entry_named l.name (map row_view (drop l.other-index l.table)) ≡
    entry_named l.name (map row_view l.table)
