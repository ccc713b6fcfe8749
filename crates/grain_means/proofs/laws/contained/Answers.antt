use Rattle.grain_means.proofs.Containing.{called_within}
use Rattle.grain_means.proofs.laws.contained.Goals as goal

pub returns : goal.returns
returns g c m this w v a clean n lawful constants start roots run =
    called_within m this w v a clean n lawful constants start roots run
