-- The labels so far are known.
use Rattle.std.proofs.Common.{◌≡◌, drop}
use Rattle.grain_words.specs.Labels.{address_of}
use Rattle.grain_listing.specs.SwitchTargets.{all_known}
use Rattle.grain_listing.proofs.switch_linking.check_aims.Given as goal

abbrev pub invariant-loop-aim : goal.invariant-loop-aim
invariant-loop-aim l =
    all_known (λ t. address_of t l.labels) (drop l.aim-index l.aims) ≡
    all_known (λ t. address_of t l.labels) l.aims
