use Rattle.std.proofs.Common.{◌∙◌}
use Rattle.grain_value.specs.Operands.{top}
use Rattle.grain_stack.proofs.Nesting.{joined_value}
use Rattle.grain_stack.proofs.stacks.Stacks.leave_with_value.Goals as goal

pub returns : goal.returns
returns c =
    c.join_frame.ensures ∙
    rw (c.drop_entries.ensures, c.keep_value.ensures)
    (joined_value c.args.self.now.outer c.args.self.now (top c.args.self.now.operands).value
    c.requires.entered)
