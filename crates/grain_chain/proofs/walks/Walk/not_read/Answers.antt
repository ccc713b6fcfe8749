use Rattle.std.proofs.Common.{Ok, sym, ◌∙◌}
use Rattle.grain_chain.proofs.Strides.{fails}
use Rattle.grain_chain.proofs.Tails.{pick_true, pick_false}
use Rattle.grain_chain.proofs.walks.Walk.not_read.Goals as goal

pub returns-then-is_catchable-clause-goes : goal.returns-then-is_catchable-clause-goes
returns-then-is_catchable-clause-goes c = λ x go.
    pick_true x c.args.self.now c.set_value_by_index.new.self _ _ _ c.set_value_by_index.result
    (sym c.is_catchable.ensures ∙ c.if-is_catchable.true) (c.set_value_by_index.ensures.goes x)

pub returns-clause-goes : goal.returns-clause-goes
returns-clause-goes c = λ x go.
    pick_false x c.args.self.now c.failed.new.self _ _ _ (Ok c.failed.result)
    (sym c.is_catchable.ensures ∙ c.if-is_catchable.false) (fails x c.args.self.now c.failed.new.self
    c.args.fault c.failed.result
    c.failed.ensures.answer c.failed.ensures.left)
