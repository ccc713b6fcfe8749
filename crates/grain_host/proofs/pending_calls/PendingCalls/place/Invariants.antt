-- The calls that are left decide.
use Rattle.std.proofs.Common.{◌≡◌, drop}
use Rattle.grain_host.specs.Pending.{place_from, place_of}
use Rattle.grain_host.proofs.pending_calls.PendingCalls.place.Given as goal

abbrev pub invariant-call : goal.invariant-call
invariant-call l =
    place_from l.place l.token (drop l.place l.call-items) ≡ place_of l.token l.self
