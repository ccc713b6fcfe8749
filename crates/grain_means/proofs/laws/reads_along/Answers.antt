use Rattle.grain_means.proofs.Reading.{reads_along}
use Rattle.grain_means.proofs.laws.reads_along.Goals as goal

pub returns : goal.returns
returns c = λ course cells h steps path u reads along.
    reads_along cells course h reads steps path u along
