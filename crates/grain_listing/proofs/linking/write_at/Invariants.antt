use Rattle.std.proofs.Common.{◌≡◌, drop}
use Rattle.grain_listing.specs.views.Linking.{write_on, write_at}
use Rattle.grain_listing.proofs.linking.write_at.Given as goal

abbrev pub invariant-loop-i : goal.invariant-loop-i
invariant-loop-i l = write_on l.at l.i (drop l.i l.bytes) l.code.items ≡
    write_at l.at l.bytes l.initial.code.items
