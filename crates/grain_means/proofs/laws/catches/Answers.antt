use Rattle.grain_means.proofs.Called.{called_catches}
use Rattle.grain_means.proofs.laws.catches.Goals as goal

pub returns : goal.returns
returns g c m this w at valid fresh comes = called_catches m valid this w fresh at comes
