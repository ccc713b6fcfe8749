use Rattle.grain_means.proofs.Determined.{one_meaning}
use Rattle.grain_means.proofs.laws.one_meaning.Goals as goal

pub returns : goal.returns
returns g c law program engine b e f n k one two =
    one_meaning law program engine b e f n k one two
