use Rattle.std.proofs.Common.{rules, ◌≡◌, ◌+◌, ◌++◌, ◌∷◌, [], List, Some, length, length-append, ap, ◌∙◌, arith}
use Rattle.std.specs.Prelude.{slice_get}
use Rattle.grain_value.specs.Tree.{Tree}
use Rattle.grain_value.specs.View.{tree}
use Rattle.grain_chain.proofs.MethodSteps.{none_after, one_more_copied}
use Rattle.grain_chain.proofs.walks.Walk.copy_operands.Goals as goal

pub copies-init : goal.copies-init
copies-init c = record {
  copied = none_after c.args.values.now;
  counted = omega arith;
}

pub copies-preserved : goal.copies-preserved
copies-preserved c =
    let ts = c.args.self.now.operands in
    let t = tree c.at-operand.result.now in
    let more : c.push.new.self ≡ c.copies.values ++ t ∷ [] = search rules in
    let found : slice_get ts (c.args.first + c.copies.index) ≡ Some t = search rules in
    let longer : length c.push.new.self ≡ length c.copies.values + 1 =
    ap (λ (l : List Tree). length l) more ∙ length-append c.copies.values (t ∷ []) in
    record {
      copied =
          more
          ∙ one_more_copied c.args.values.now c.copies.values ts c.args.first c.copies.index t
          c.copies.invariant.copied found;
      counted = omega (arith, longer, c.copies.invariant.counted);
    }
