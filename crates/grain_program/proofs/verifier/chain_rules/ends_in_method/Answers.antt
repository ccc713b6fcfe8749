-- The last step is the one at the last index.
use Rattle.std.proofs.Common.{sym, ap, ◌∙◌}
use Rattle.std.specs.Option.{option_copied}
use Rattle.grain_program.proofs.GoodChains.{last_is, no_last}
use Rattle.grain_program.proofs.verifier.chain_rules.ends_in_method.Goals as goal

pub returns-in-Some : goal.returns-in-Some
returns-in-Some c =
    c.is_method.ensures
    ∙ last_is c.args.steps.now c.in-Some.step.now
    (sym c.last.ensures.value ∙ ap option_copied c.in-Some.is)

pub returns-in-None : goal.returns-in-None
returns-in-None c =
    no_last c.args.steps.now (sym c.last.ensures.value ∙ ap option_copied c.in-None.is)
