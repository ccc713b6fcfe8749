use Rattle.grain_means.proofs.Called.{called_stands}
use Rattle.grain_means.proofs.laws.provided.Goals as goal

pub returns : goal.returns
returns g c m this w v f valid fresh comes = called_stands m valid this w v f fresh comes
