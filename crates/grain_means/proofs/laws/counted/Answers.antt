use Rattle.grain_means.proofs.Called.{called_counts}
use Rattle.grain_means.proofs.laws.counted.Goals as goal

pub returns : goal.returns
returns g c m this w v a run fresh = called_counts m this w v a run fresh
