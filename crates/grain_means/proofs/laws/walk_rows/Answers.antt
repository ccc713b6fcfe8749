use Rattle.grain_means.proofs.Rows.{row_of_kind}
use Rattle.grain_means.proofs.laws.walk_rows.Goals as goal

pub returns : goal.returns
returns g c = λ m walk n x row. row_of_kind m walk n x row
