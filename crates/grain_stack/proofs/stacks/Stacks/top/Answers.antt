use Rattle.std.proofs.Common.{◌≡◌, ◌<◌, ◌-◌, length, drop, ap, ◌∙◌, arith, length-drop}
use Rattle.grain_stack.specs.Views.{StacksView}
use Rattle.grain_stack.proofs.Lists.{top_of}
use Rattle.grain_stack.proofs.stacks.Stacks.top.Goals as goal

pub returns : goal.returns
returns c =
    let own : length (drop c.self.inside.bottom c.self.inside.slots.operands) ≡
    length c.args.self.now.operands = ap (λ (v : StacksView). length v.operands) c.self.view_is
    in
    let there : c.self.inside.bottom < length c.self.inside.slots.operands =
    omega (
      arith,
      own,
      c.requires.there,
      length-drop c.self.inside.bottom c.self.inside.slots.operands,
    ) in
    rw (← c.self.view_is)
    (c.at.ensures ∙ top_of c.self.inside.bottom (c.len.result - 1) c.self.inside.slots.operands
    there (omega (arith, there, c.len.ensures.value)))
