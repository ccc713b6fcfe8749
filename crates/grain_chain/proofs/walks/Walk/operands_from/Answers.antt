use Rattle.std.proofs.Common.{◌≡◌, ◌++◌, ◌+◌, List, length, ap, ◌∙◌, arith}
use Rattle.grain_value.specs.Tree.{Tree}
use Rattle.grain_chain.specs.MethodSteps.{operands_of}
use Rattle.grain_chain.proofs.walks.Walk.operands_from.Goals as goal

pub returns-clause-copied : goal.returns-clause-copied
returns-clause-copied c =
    c.in_ok-copy_operands.ensures.copied
    ∙ ap (λ (l : List Tree). l ++ operands_of c.args.self.now c.args.first c.args.argc)
    c.new-values.ensures

pub returns-clause-counted : goal.returns-clause-counted
returns-clause-counted c =
    let all : length c.copy_operands.new.values ≡ 0 + c.args.argc =
    c.in_ok-copy_operands.ensures.counted
    ∙ ap (λ (l : List Tree). length l + c.args.argc) c.new-values.ensures in
    omega (arith, all)
