use Rattle.std.proofs.Common.{◌≡◌, ◌++◌, drop, Ok}
use Rattle.grain_literals.specs.Steps.{and_then}
use Rattle.grain_listing.specs.Reading.{assign_ops_of}
use Rattle.grain_listing.proofs.linking.assign_ops_of.Given as goal

abbrev pub invariant-loop-assign : goal.invariant-loop-assign
invariant-loop-assign l = and_then (assign_ops_of l.tokens (drop l.assign-index l.assigns))
    (λ os. Ok (l.found ++ os)) ≡ assign_ops_of l.tokens l.assigns
