use Rattle.grain_means.proofs.Determined.{slowly_ends}
use Rattle.grain_means.proofs.laws.slow_end.Goals as goal

pub returns : goal.returns
returns g c m n act e h = slowly_ends m n act e h
