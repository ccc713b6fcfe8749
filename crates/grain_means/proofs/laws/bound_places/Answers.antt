use Rattle.grain_means.proofs.Touching.{called_bound}
use Rattle.grain_means.proofs.laws.bound_places.Goals as goal

pub returns : goal.returns
returns g c m this w v f p stands comes is = called_bound m this w v f p stands comes is
