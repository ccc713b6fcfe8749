use Rattle.std.proofs.Common.{subst}
use Rattle.grain_fault.specs.Problems.{Problem}
use Rattle.grain_means.specs.Walks
use Rattle.grain_chain.specs.Going.{Goes, rest}
use Rattle.grain_chain.proofs.walks.Walk.no_pointer.Goals as goal

pub returns-clause-goes : goal.returns-clause-goes
returns-clause-goes c = λ x.
    let w = c.args.self.now in
    subst (λ (p : Problem). Goes x w (Walks.failing w.step p (rest x w)) c.raise.result
    c.raise.new.self) c.in_ok-fault.ensures (c.raise.ensures.goes x)
