use Rattle.std.proofs.Common.{◌≡◌, drop, map}
use Rattle.grain_listing.specs.Flags.{state_of}
use Rattle.grain_listing.specs.Settings.{entry_named}
use Rattle.grain_listing.specs.views.Flags.{row_view}
use Rattle.grain_listing.proofs.flags.state_among.Given as goal

abbrev pub invariant-loop-other : goal.invariant-loop-other
invariant-loop-other l =
    state_of l.is_turned (entry_named l.name (map row_view (drop l.other-index l.table))) ≡
    state_of l.is_turned (entry_named l.name (map row_view l.table))
