use Rattle.std.proofs.Common.{Ok, sym, ◌∙◌}
use Rattle.grain_chain.proofs.Strides.{fails}
use Rattle.grain_chain.proofs.Tails.{pick_true, pick_false}
use Rattle.grain_chain.proofs.walks.Walk.not_set_instead.Goals as goal

pub returns-then-is_indexing_type-clause-goes : goal.returns-then-is_indexing_type-clause-goes
returns-then-is_indexing_type-clause-goes c =
    pick_true c.args.context c.args.self.now c.setter_missing.new.self _ _ _ c.setter_missing.result
    (sym c.is_indexing_type.ensures ∙ c.if-is_indexing_type.true) c.setter_missing.ensures.goes

pub returns-clause-goes : goal.returns-clause-goes
returns-clause-goes c =
    pick_false c.args.context c.args.self.now c.failed.new.self _ _ _ (Ok c.failed.result)
    (sym c.is_indexing_type.ensures ∙ c.if-is_indexing_type.false) (fails c.args.context c.args.self.now
    c.failed.new.self c.args.fault c.failed.result
    c.failed.ensures.answer c.failed.ensures.left)
