-- Where there is no chain, the neutral one takes nothing.
use Rattle.std.proofs.Common.{sym, ap, ◌∙◌}
use Rattle.std.specs.Option.{option_copied}
use Rattle.grain_program.specs.View.{no_chain}
use Rattle.grain_program.specs.Chains.{chain_takes}
use Rattle.grain_program.proofs.Decisions.{past_end}
use Rattle.grain_program.proofs.code.effects.chain_takes.Goals as goal

pub returns-in-None : goal.returns-in-None
returns-in-None c =
    sym (ap chain_takes (past_end no_chain c.args.parts.now.chains c.args.index
    (sym c.get.ensures ∙ ap option_copied c.in-None.is)))
