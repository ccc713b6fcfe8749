use Rattle.grain_means.proofs.Determined.{one_end}
use Rattle.grain_means.proofs.laws.one_end.Goals as goal

pub returns : goal.returns
returns g c m act a b w v run other = one_end run other
