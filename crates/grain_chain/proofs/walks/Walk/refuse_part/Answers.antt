use Rattle.std.proofs.Common.{subst}
use Rattle.grain_means.specs.Walks
use Rattle.grain_chain.specs.Going.{Goes, rest}
use Rattle.grain_chain.proofs.Roots.{stops_need}
use Rattle.grain_chain.proofs.Strides.{stops_back}
use Rattle.grain_fault.specs.Problems.{Problem}
use Rattle.grain_chain.proofs.walks.Walk.refuse_part.Goals as goal

pub returns-clause-goes : goal.returns-clause-goes
returns-clause-goes c = λ x changed.
    stops_back x c.args.self.now c.raise.new.self _ changed c.raise.result c.stopping.result
    c.stopping.ensures (subst (λ (y : Problem). Goes x c.args.self.now (Walks.failing c.args.self.now.step y
    (rest x c.args.self.now)) c.raise.result c.raise.new.self) c.in_ok-fault.ensures
    (c.raise.ensures.goes x))

pub returns-clause-needs : goal.returns-clause-needs
returns-clause-needs c = λ p n.
    stops_need p c.raise.new.self c.raise.result c.stopping.result n c.stopping.ensures
    (c.raise.ensures.needs p n)
