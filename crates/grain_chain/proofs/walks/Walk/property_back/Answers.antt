use Rattle.grain_chain.proofs.Roots.{stops_need}
use Rattle.grain_chain.proofs.Backs.{unchanged_back, changed_back}
use Rattle.grain_chain.proofs.Strides.{stops_back}
use Rattle.grain_chain.proofs.walks.Walk.property_back.Goals as goal

pub returns-clause-goes : goal.returns-clause-goes
returns-clause-goes c =
    unchanged_back c.args.context c.args.self.now _ c.args.changed c.if-changed.false

pub returns-then-changed-clause-goes : goal.returns-then-changed-clause-goes
returns-then-changed-clause-goes c =
    changed_back c.args.context c.args.self.now c.set_property.new.self _ c.args.changed c.stopping.result
    c.if-changed.true
    (stops_back c.args.context c.args.self.now c.set_property.new.self _ c.args.changed
    c.set_property.result c.stopping.result c.stopping.ensures c.set_property.ensures.goes)

pub returns-then-changed-clause-needs : goal.returns-then-changed-clause-needs
returns-then-changed-clause-needs c =
    stops_need c.args.context.program.now c.set_property.new.self c.set_property.result c.stopping.result _
    c.stopping.ensures c.set_property.ensures.needs
