use Rattle.std.proofs.Common.{Ok}
use Rattle.grain_chain.proofs.Strides.{fails}
use Rattle.grain_chain.proofs.Tails.{pick_true, pick_false}
use Rattle.grain_chain.proofs.walks.Walk.setter_missing.Goals as goal

pub returns-then-assigned-clause-goes : goal.returns-then-assigned-clause-goes
returns-then-assigned-clause-goes c =
    pick_true c.args.context c.args.self.now c.failed.new.self c.args.assigned _ _ (Ok c.failed.result)
    c.if-assigned.true (fails c.args.context c.args.self.now c.failed.new.self c.args.first
    c.failed.result c.failed.ensures.answer c.failed.ensures.left)

pub returns-clause-goes : goal.returns-clause-goes
returns-clause-goes c =
    pick_false c.args.context c.args.self.now c.walk_back.new.self c.args.assigned _ _ c.walk_back.result
    c.if-assigned.false c.walk_back.ensures.goes
