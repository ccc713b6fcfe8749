use Rattle.std.proofs.Common.{refl}
use Rattle.grain_stack.proofs.Lists.{cut_frame, cut_others}
use Rattle.grain_stack.proofs.stacks.Stacks.cut.Goals as goal

pub returns : goal.returns
returns c =
    rw (
      ← c.self.view_is,
      c.truncate.ensures,
      cut_frame c.self.inside.bottom c.args.height
          c.self.inside.slots.operands,
      cut_others c.self.inside.bottom c.args.height
          c.self.inside.slots.operands,
    ) refl
