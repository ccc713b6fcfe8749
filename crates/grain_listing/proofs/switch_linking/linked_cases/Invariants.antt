-- Those so far, and those that are left, are all of them.
use Rattle.std.proofs.Common.{◌≡◌, ◌++◌, map, drop}
use Rattle.grain_words.specs.Labels.{address_of}
use Rattle.grain_listing.specs.SwitchTargets.{linked_case}
use Rattle.grain_listing.proofs.switch_linking.linked_cases.Given as goal

abbrev pub invariant-loop-case : goal.invariant-loop-case
invariant-loop-case l =
    l.found ++ map (linked_case (λ t. address_of t l.labels)) (drop l.case-index l.cases) ≡
    map (linked_case (λ t. address_of t l.labels)) l.cases
