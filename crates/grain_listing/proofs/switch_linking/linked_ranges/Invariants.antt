-- Those so far, and those that are left, are all of them.
use Rattle.std.proofs.Common.{◌≡◌, ◌++◌, map, drop}
use Rattle.grain_words.specs.Labels.{address_of}
use Rattle.grain_listing.specs.SwitchTargets.{linked_range}
use Rattle.grain_listing.proofs.switch_linking.linked_ranges.Given as goal

abbrev pub invariant-loop-range : goal.invariant-loop-range
invariant-loop-range l =
    l.found ++ map (linked_range (λ t. address_of t l.labels)) (drop l.range-index l.ranges) ≡
    map (linked_range (λ t. address_of t l.labels)) l.ranges
