use Rattle.std.proofs.Common.{below_more, ◌∙◌, sym}
use Rattle.grain_program.proofs.verifier.rules.first_rule.Goals as goal

pub loop-address-preserved : goal.loop-address-preserved
loop-address-preserved c =
    below_more _ _ c.loop-address.invariant (sym c.address_rule.ensures ∙ c.in_default.is)
