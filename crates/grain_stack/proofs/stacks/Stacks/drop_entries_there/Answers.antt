use Rattle.grain_stack.proofs.Belonging.{all_gone}
use Rattle.grain_stack.proofs.stacks.Stacks.drop_entries_there.Goals as goal

pub returns : goal.returns
returns c =
    all_gone c.args.self.now c.cut_handlers.new.self c.cut_cursors.new.self c.cut_totals.new.self
    c.cut_handlers.ensures c.cut_cursors.ensures c.cut_totals.ensures
