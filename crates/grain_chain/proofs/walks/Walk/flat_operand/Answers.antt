use Rattle.std.proofs.Common.{◌∙◌, Some, sym, ap}
use Rattle.grain_value.specs.Cells.{flat}
use Rattle.grain_value.specs.View.{value_of}
use Rattle.grain_chain.proofs.Operands.{found, missing}
use Rattle.grain_chain.proofs.walks.Walk.flat_operand.Goals as goal

pub returns-in-None : goal.returns-in-None
returns-in-None c =
    ap (λ t. flat c.args.context.cells.now (value_of t))
    (sym (missing c.args.self.now.operands c.args.operand c.in-None.ensures))

pub returns-in-None-flat : goal.returns-in-None-flat
returns-in-None-flat c =
    c.in-None-flat.ensures
    ∙ ap (flat c.args.context.cells.now)
    (sym (found c.args.self.now.operands c.args.operand c.in-Some.operand.now c.in-Some.ensures))

pub returns-in_ok-copy-in-Some-flat : goal.returns-in_ok-copy-in-Some-flat
returns-in_ok-copy-in-Some-flat c =
    ap Some c.in_ok-copy-in-Some-flat.ensures ∙ c.in-Some-flat.ensures
    ∙ ap (flat c.args.context.cells.now)
    (sym (found c.args.self.now.operands c.args.operand c.in-Some.operand.now c.in-Some.ensures))
