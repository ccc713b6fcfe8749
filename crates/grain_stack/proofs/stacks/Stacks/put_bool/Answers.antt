use Rattle.std.proofs.Common.{◌≡◌, ◌<◌, length, drop, ap, refl, arith, length-drop}
use Rattle.grain_value.specs.Operands.{read_write}
use Rattle.grain_stack.specs.Views.{StacksView}
use Rattle.grain_value.specs.declared.values.Dynamic.TheVariants as dynamic
use Rattle.grain_stack.proofs.Lists.{put_own, put_rest}
use Rattle.grain_stack.proofs.stacks.Stacks.put_bool.Goals as goal

pub returns : goal.returns
returns c =
    let own : length (drop c.self.inside.bottom c.self.inside.slots.operands) ≡
    length c.args.self.now.operands = ap (λ (v : StacksView). length v.operands) c.self.view_is
    in
    let there : c.self.inside.bottom < length c.self.inside.slots.operands =
    omega (
      arith,
      own,
      c.requires.there,
      length-drop c.self.inside.bottom c.self.inside.slots.operands,
    ) in
    let h = read_write (dynamic.Bool c.args.truth) in
    rw (
      ← c.self.view_is,
      c.put_bool.ensures,
      put_own c.self.inside.bottom c.self.inside.slots.operands h there,
      put_rest c.self.inside.bottom c.self.inside.slots.operands h there,
    ) refl
