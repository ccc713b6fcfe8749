use Rattle.grain_means.proofs.CoreEnding.{core_to_whole, whole_to_core}
use Rattle.grain_means.proofs.laws.core_agrees.Goals as goal

pub returns-clause-means : goal.returns-clause-means
returns-clause-means g c = core_to_whole

pub returns-clause-core : goal.returns-clause-core
returns-clause-core g c = λ law program engine b e valid core n end.
    whole_to_core law program engine b e valid core n end
