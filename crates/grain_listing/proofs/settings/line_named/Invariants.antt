use Rattle.std.proofs.Common.{◌≡◌, drop}
use Rattle.grain_listing.specs.Settings.{entry_named}
use Rattle.grain_listing.specs.views.Limits.{limits_view}
use Rattle.grain_listing.proofs.settings.line_named.Given as goal

abbrev pub invariant-loop-line : goal.invariant-loop-line
invariant-loop-line l = entry_named l.name (limits_view (drop l.line-index l.lines)) ≡
    entry_named l.name (limits_view l.lines)
