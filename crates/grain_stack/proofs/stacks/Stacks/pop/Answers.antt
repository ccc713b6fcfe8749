use Rattle.std.proofs.Common.{◌≡◌, ◌<◌, length, drop, ap, ◌∙◌, refl, arith, length-drop}
use Rattle.grain_stack.specs.Views.{StacksView}
use Rattle.grain_stack.proofs.Lists.{top_drop, below_own, below_rest}
use Rattle.grain_stack.proofs.stacks.Stacks.pop.Goals as goal

pub returns-clause-value : goal.returns-clause-value
returns-clause-value c =
    let own : length (drop c.self.inside.bottom c.self.inside.slots.operands) ≡
    length c.args.self.now.operands = ap (λ (v : StacksView). length v.operands) c.self.view_is
    in
    let there : c.self.inside.bottom < length c.self.inside.slots.operands =
    omega (
      arith,
      own,
      c.requires.there,
      length-drop c.self.inside.bottom c.self.inside.slots.operands,
    ) in
    rw (← c.self.view_is)
    (c.pop.ensures.value ∙ top_drop c.self.inside.bottom c.self.inside.slots.operands there)

pub returns-clause-rest : goal.returns-clause-rest
returns-clause-rest c =
    let own : length (drop c.self.inside.bottom c.self.inside.slots.operands) ≡
    length c.args.self.now.operands = ap (λ (v : StacksView). length v.operands) c.self.view_is
    in
    let there : c.self.inside.bottom < length c.self.inside.slots.operands =
    omega (
      arith,
      own,
      c.requires.there,
      length-drop c.self.inside.bottom c.self.inside.slots.operands,
    ) in
    rw (
      ← c.self.view_is,
      c.pop.ensures.rest,
      below_own c.self.inside.bottom c.self.inside.slots.operands there,
      below_rest c.self.inside.bottom c.self.inside.slots.operands there,
    ) refl
