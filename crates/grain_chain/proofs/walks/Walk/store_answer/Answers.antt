use Rattle.std.proofs.Common.{Some, None, sym, ◌∙◌}
use Rattle.grain_chain.proofs.Strides.{halts}
use Rattle.grain_chain.proofs.Tails.{goes_flat}
use Rattle.grain_chain.proofs.Halting.{flattening_halts}
use Rattle.grain_chain.proofs.walks.Walk.store_answer.Goals as goal

pub returns-in_default-clause-goes : goal.returns-in_default-clause-goes
returns-in_default-clause-goes c =
    flattening_halts c.args.context c.args.self.now c.args.pos c.args.value _
    (λ u. halts c.args.context c.args.self.now _)

pub returns-in-Some-clause-goes : goal.returns-in-Some-clause-goes
returns-in-Some-clause-goes c =
    goes_flat c.args.context c.args.self.now c.write.new.self c.args.pos c.args.value _
    (Some c.in-Some.content) c.write.result (sym c.in-Some.is ∙ c.in-Ok.ensures) c.write.ensures.goes

pub returns-in-None-clause-goes : goal.returns-in-None-clause-goes
returns-in-None-clause-goes c =
    goes_flat c.args.context c.args.self.now c.raise_data_race.new.self c.args.pos c.args.value _
    None c.raise_data_race.result (sym c.in-None.is ∙ c.in-Ok.ensures)
    (c.raise_data_race.ensures.goes c.args.context)
