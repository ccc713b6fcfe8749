use Rattle.std.proofs.Common.{◌≡◌}
use Rattle.grain_listing.specs.Headers.{has_more}
use Rattle.grain_listing.proofs.headers.has_more.Given as goal

abbrev pub invariant-words : goal.invariant-words
invariant-words l = has_more l.room l.rest ≡ has_more l.most l.line

abbrev pub decreases-words : goal.decreases-words
decreases-words l = l.room
