-- Those so far, and those that are left, are all of them.
use Rattle.std.proofs.Common.{◌≡◌, ◌++◌, map, drop}
use Rattle.grain_words.specs.Labels.{address_of}
use Rattle.grain_listing.specs.SwitchTargets.{linked_switch}
use Rattle.grain_listing.proofs.switch_linking.linked_switches.Given as goal

abbrev pub invariant-loop-switch : goal.invariant-loop-switch
invariant-loop-switch l =
    l.found ++ map (linked_switch (λ t. address_of t l.labels)) (drop l.switch-index l.switches) ≡
    map (linked_switch (λ t. address_of t l.labels)) l.switches
