use Rattle.std.proofs.Common.{◌≡◌}
use Rattle.grain_listing.specs.Headers.{parameters_of}
use Rattle.grain_listing.proofs.Parameters.{with_found}
use Rattle.grain_listing.proofs.headers.parameters_of.Given as goal

abbrev pub invariant-words : goal.invariant-words
invariant-words l = with_found l.found (parameters_of l.room l.rest) ≡
    parameters_of l.most l.line

abbrev pub decreases-words : goal.decreases-words
decreases-words l = l.room
