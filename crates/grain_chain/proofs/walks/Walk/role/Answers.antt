use Rattle.std.proofs.Common.{◌+◌, arith}
use Rattle.grain_chain.specs.Going.{course, steps}
use Rattle.grain_chain.proofs.Tails.{one_more}
use Rattle.grain_chain.proofs.walks.Walk.role.Goals as goal

pub returns-then-saturating_sub-gt1 : goal.returns-then-saturating_sub-gt1
returns-then-saturating_sub-gt1 c =
    one_more (course c.args.context c.args.self.now) (steps c.args.context c.args.self.now)
    (c.args.self.now.step + 1)
    (omega (arith, c.count_of_steps-count.ensures, c.saturating_sub.ensures, c.if-saturating_sub-gt1.true))
