use Rattle.std.proofs.Common.{◌≡◌, ◌<◌, ◌+◌, length, drop, ap, refl, arith, length-drop}
use Rattle.grain_stack.specs.Views.{StacksView}
use Rattle.grain_stack.proofs.Rotated.{rotated_own, rotated_rest}
use Rattle.grain_stack.proofs.stacks.Stacks.rotate.Goals as goal

pub returns : goal.returns
returns c =
    let own : length (drop c.self.inside.bottom c.self.inside.slots.operands) ≡
    length c.args.self.now.operands = ap (λ (v : StacksView). length v.operands) c.self.view_is
    in
    let there : c.self.inside.bottom + c.args.under < length c.self.inside.slots.operands =
    omega (
      arith,
      own,
      c.requires.there,
      length-drop c.self.inside.bottom c.self.inside.slots.operands,
    ) in
    rw (
      ← c.self.view_is,
      c.rotate.ensures,
      rotated_own c.self.inside.bottom c.args.under
          c.self.inside.slots.operands there,
      rotated_rest c.self.inside.bottom c.args.under
          c.self.inside.slots.operands there,
    ) refl
