use Rattle.grain_literals.proofs.NoCells.{constant_plain}
use Rattle.grain_literals.proofs.laws.read_values_name_no_cell.Goals as goal

pub returns : goal.returns
returns c = constant_plain
