use Rattle.std.proofs.Common.{Ok, sym, ◌∙◌}
use Rattle.grain_chain.proofs.Strides.{fails}
use Rattle.grain_chain.proofs.Tails.{pick_true, pick_false}
use Rattle.grain_chain.proofs.walks.Walk.property_not_got.Goals as goal

pub returns-then-is_dot_expr-clause-goes : goal.returns-then-is_dot_expr-clause-goes
returns-then-is_dot_expr-clause-goes c =
    pick_true c.args.context c.args.self.now c.get_instead.new.self _ _ _ c.get_instead.result
    (sym c.is_dot_expr.ensures ∙ c.if-is_dot_expr.true) c.get_instead.ensures.goes

pub returns-clause-goes : goal.returns-clause-goes
returns-clause-goes c =
    pick_false c.args.context c.args.self.now c.failed.new.self _ _ _ (Ok c.failed.result)
    (sym c.is_dot_expr.ensures ∙ c.if-is_dot_expr.false) (fails c.args.context c.args.self.now
    c.failed.new.self c.args.fault c.failed.result
    c.failed.ensures.answer c.failed.ensures.left)
