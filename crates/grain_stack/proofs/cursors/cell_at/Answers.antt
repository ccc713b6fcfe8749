use Rattle.std.proofs.Common.{◌∙◌}
use Rattle.grain_stack.proofs.Items.{cell_first}
use Rattle.grain_stack.proofs.cursors.cell_at.Goals as goal

pub returns : goal.returns
returns c =
    c.as_cell.ensures ∙ cell_first c.args.items.now c.args.index c.at.result.now c.at.ensures
