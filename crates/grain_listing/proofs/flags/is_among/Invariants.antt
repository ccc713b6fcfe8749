use Rattle.std.proofs.Common.{◌≡◌, drop}
use Rattle.grain_listing.specs.Later.{is_among}
use Rattle.grain_listing.specs.views.Flags.{names_view}
use Rattle.grain_listing.proofs.flags.is_among.Given as goal

abbrev pub invariant-loop-other : goal.invariant-loop-other
invariant-loop-other l = is_among (names_view (drop l.other-index l.names)) l.name ≡
    is_among (names_view l.names) l.name
