use Rattle.std.proofs.Common.{refl}
use Rattle.std.specs.Prelude.{codes}
use Rattle.grain_fault.specs.Problems.{Plain, DataRace}
use Rattle.grain_means.specs.Walks
use Rattle.grain_chain.specs.Going.{rest}
use Rattle.grain_chain.specs.declared.walks.Walk.{Walk}
use Rattle.grain_chain.proofs.Strides.{passes_goes}
use Rattle.grain_chain.proofs.walks.Walk.race_before.Goals as goal

pub returns-clause-goes : goal.returns-clause-goes
returns-clause-goes c = λ x.
    passes_goes x c.args.self.now c.pass_mark.new.self c.raise_data_race.new.self
    (λ (u : Walk). Walks.failing u.step (Plain (DataRace (codes "variable ''")) c.args.pos) (rest x u))
    c.raise_data_race.result refl c.in_ok-pass_mark.ensures.passed (c.raise_data_race.ensures.goes x)
