use Rattle.std.proofs.Common.{ℕ, List, subst}
use Rattle.grain_means.specs.Walks
use Rattle.grain_chain.specs.Going.{Goes, rest}
use Rattle.grain_fault.specs.Problems.{Plain, DataRace}
use Rattle.grain_chain.proofs.walks.Walk.raise_data_race.Goals as goal

pub returns-clause-goes : goal.returns-clause-goes
returns-clause-goes c = λ x.
    subst (λ (s : List ℕ). Goes x c.args.self.now (Walks.failing c.args.self.now.step
    (Plain (DataRace s) c.args.pos) (rest x c.args.self.now)) c.raise.result c.raise.new.self)
    c.in_ok-text.ensures (c.raise.ensures.goes x)
