use Rattle.std.proofs.Common.{◌≡◌, drop, map}
use Rattle.grain_listing.specs.Settings.{entry_named}
use Rattle.grain_listing.specs.views.Flags.{row_view}
use Rattle.grain_listing.proofs.flags.row_among.Given as goal

abbrev pub invariant-loop-name : goal.invariant-loop-name
invariant-loop-name l = entry_named l.word (map row_view (drop l.name-index l.table)) ≡
    entry_named l.word (map row_view l.table)
