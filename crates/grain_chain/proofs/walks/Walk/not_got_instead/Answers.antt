use Rattle.std.proofs.Common.{Ok, sym, ◌∙◌}
use Rattle.grain_chain.proofs.Strides.{fails}
use Rattle.grain_chain.proofs.Tails.{pick_true, pick_false}
use Rattle.grain_chain.proofs.walks.Walk.not_got_instead.Goals as goal

pub returns-then-is_indexing_type-clause-goes : goal.returns-then-is_indexing_type-clause-goes
returns-then-is_indexing_type-clause-goes c = λ x go.
    pick_true x c.args.self.now c.failed.new.self _ _ _ (Ok c.failed.result)
    (sym c.is_indexing_type.ensures ∙ c.if-is_indexing_type.true) (fails x c.args.self.now
    c.failed.new.self c.args.first c.failed.result c.failed.ensures.answer c.failed.ensures.left)

pub returns-clause-goes : goal.returns-clause-goes
returns-clause-goes c = λ x go.
    pick_false x c.args.self.now c.failed-2.new.self _ _ _ (Ok c.failed-2.result)
    (sym c.is_indexing_type.ensures ∙ c.if-is_indexing_type.false) (fails x c.args.self.now
    c.failed-2.new.self c.args.fault c.failed-2.result c.failed-2.ensures.answer c.failed-2.ensures.left)
