use Rattle.grain_means.proofs.Touching.{inside_this, other_roots, without_this}
use Rattle.grain_means.proofs.laws.leaves_places.Goals as goal

pub returns-clause-without : goal.returns-clause-without
returns-clause-without g c = λ m f w v a none run. without_this m f w v a run none

pub returns-clause-others : goal.returns-clause-others
returns-clause-others g c = λ m f p w v a j is beside run. other_roots m f w v a run p j is beside

pub returns-clause-inside : goal.returns-clause-inside
returns-clause-inside g c = λ m f p w v a h is found run. inside_this m f w v a run p h is found
