use Rattle.grain_stack.proofs.Items.{plain_first}
use Rattle.grain_stack.proofs.cursors.Cursor.first_cell.Goals as goal

pub returns-in_default : goal.returns-in_default
returns-in_default c = plain_first c.args.self.now.left c.in_default.not-Values
