use Rattle.std.proofs.Common.{◌≡◌, drop, length}
use Rattle.grain_listing.specs.views.Linking.{fill}
use Rattle.grain_listing.proofs.linking.fill.Given as goal

abbrev pub invariant-loop-fixup : goal.invariant-loop-fixup
invariant-loop-fixup l = (fill l.labels (drop l.fixup-index l.fixups) l.code.items ≡
    fill l.labels l.fixups l.initial.code.items) ×
    (length l.code.items ≡ length l.initial.code.items)
