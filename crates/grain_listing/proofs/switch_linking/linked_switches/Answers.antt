-- One switch more.
use Rattle.grain_words.specs.Labels.{address_of}
use Rattle.grain_listing.specs.SwitchTargets.{linked_switch}
use Rattle.grain_listing.proofs.OneMore.{one_more}
use Rattle.grain_listing.proofs.switch_linking.linked_switches.Goals as goal

pub loop-switch-preserved : goal.loop-switch-preserved
loop-switch-preserved c =
    one_more (linked_switch (λ t. address_of t c.args.labels.now)) c.loop-switch.found
    c.push.new.self c.args.switches.now c.loop-switch.switch-index c.switch-item.result
    c.in_ok-linked.linked _ c.loop-switch-test.true c.switch-item.is c.loop-switch.invariant
    c.in_ok-linked.ensures c.in_ok-push.ensures
