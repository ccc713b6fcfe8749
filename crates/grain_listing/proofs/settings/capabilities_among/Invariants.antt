use Rattle.std.proofs.Common.{◌≡◌, ◌+◌, ◌≤◌, map, drop, Ok}
use Rattle.std.specs.List.{sum_by}
use Rattle.grain_literals.specs.Steps.{and_then}
use Rattle.grain_listing.specs.Settings.{capabilities}
use Rattle.grain_listing.proofs.settings.capabilities_among.Given as goal

abbrev pub invariant-loop-name : goal.invariant-loop-name
invariant-loop-name l =
    (and_then (capabilities (map (λ x. (x.0.now, x.1)) (drop l.name-index l.names)) l.rest)
    (λ more. Ok (l.bits + more)) ≡ capabilities (map (λ x. (x.0.now, x.1)) l.names) l.line) ×
    (l.bits + sum_by (λ x. x.1) (drop l.name-index l.names) ≤ sum_by (λ x. x.1) l.names)
