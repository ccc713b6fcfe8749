use Rattle.grain_means.specs.WalkEnds.{WalkEnds}
use Rattle.grain_means.proofs.Walking.{play_ends, walk_ends}
use Rattle.grain_means.proofs.laws.walk_ends.Goals as goal

pub returns-clause-all : goal.returns-clause-all
returns-clause-all c = walk_ends

pub returns-clause-by_play : goal.returns-clause-by_play
returns-clause-by_play c = λ course steps. play_ends (WalkEnds course steps)
