use Rattle.std.proofs.Common.{Ok, sym, ◌∙◌}
use Rattle.grain_chain.proofs.Strides.{fails}
use Rattle.grain_chain.proofs.Tails.{pick_true, pick_false}
use Rattle.grain_chain.proofs.walks.Walk.not_assigned.Goals as goal

pub returns-then-is_missing-clause-goes : goal.returns-then-is_missing-clause-goes
returns-then-is_missing-clause-goes c =
    pick_true c.args.context c.args.self.now c.ask_operator.new.self _ _ _ c.ask_operator.result
    (sym c.is_missing.ensures ∙ c.if-is_missing.true) c.ask_operator.ensures.goes

pub returns-clause-goes : goal.returns-clause-goes
returns-clause-goes c =
    pick_false c.args.context c.args.self.now c.failed.new.self _ _ _ (Ok c.failed.result)
    (sym c.is_missing.ensures ∙ c.if-is_missing.false) (fails c.args.context c.args.self.now
    c.failed.new.self c.args.fault c.failed.result
    c.failed.ensures.answer c.failed.ensures.left)
