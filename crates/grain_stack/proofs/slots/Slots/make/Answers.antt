use Rattle.std.proofs.Common.{◌∙◌, ap, arith}
use Rattle.grain_stack.specs.Filled.{Filled}
use Rattle.grain_stack.proofs.slots.Slots.make.Goals as goal

pub returns-in_err-push-clause-operands : goal.returns-in_err-push-clause-operands
returns-in_err-push-clause-operands c =
    rw c.in_err-push.ensures.items
    (c.make.invariant.kept ∙ ap (λ (v : Filled). v.operands) c.self.view_is)

pub returns-in_err-push-clause-slots : goal.returns-in_err-push-clause-slots
returns-in_err-push-clause-slots c =
    rw c.in_err-push.ensures.items
    (omega (arith, c.make.invariant.long, ap (λ (v : Filled). v.slots) c.self.view_is))
