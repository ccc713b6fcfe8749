use Rattle.std.proofs.Common.{arith}
use Rattle.grain_chain.proofs.Roots.{stops_need}
use Rattle.grain_chain.proofs.Stepping.{needs_more}
use Rattle.grain_chain.proofs.Backs.{unchanged_back, changed_back}
use Rattle.grain_chain.proofs.Strides.{stops_back}
use Rattle.grain_chain.proofs.walks.Walk.index_back.Goals as goal

pub returns-clause-goes : goal.returns-clause-goes
returns-clause-goes c = λ x.
    unchanged_back x c.args.self.now _ c.args.changed c.if-changed.false

pub returns-then-changed-clause-goes : goal.returns-then-changed-clause-goes
returns-then-changed-clause-goes c = λ x.
    changed_back x c.args.self.now c.set_by_index.new.self _ c.args.changed c.stopping.result
    c.if-changed.true
    (stops_back x c.args.self.now c.set_by_index.new.self _ c.args.changed c.set_by_index.result
    c.stopping.result c.stopping.ensures (c.set_by_index.ensures.goes x))

pub returns-then-changed-clause-needs : goal.returns-then-changed-clause-needs
returns-then-changed-clause-needs c = λ p.
    stops_need p c.set_by_index.new.self c.set_by_index.result c.stopping.result _ c.stopping.ensures
    (needs_more p c.set_by_index.new.self c.set_by_index.result _ _ (c.set_by_index.ensures.needs p)
    (omega arith))
