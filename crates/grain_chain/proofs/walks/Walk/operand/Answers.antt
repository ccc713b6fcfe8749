use Rattle.std.proofs.Common.{◌≡◌, IfOk, sym, ap, subst}
use Rattle.grain_value.specs.View.{value_of}
use Rattle.grain_value.specs.declared.values.Dynamic.{Dynamic}
use Rattle.grain_chain.proofs.Operands.{found, missing}
use Rattle.grain_chain.proofs.walks.Walk.operand.Goals as goal

pub returns-in-Some : goal.returns-in-Some
returns-in-Some c =
    subst (λ (d : Dynamic). IfOk c.copy.result (λ v. v ≡ d))
    (sym (found c.args.self.now.operands c.args.operand c.in-Some.operand.now c.in-Some.ensures))
    c.copy.ensures

pub returns-in-None : goal.returns-in-None
returns-in-None c = ap value_of (sym (missing c.args.self.now.operands c.args.operand c.in-None.ensures))
