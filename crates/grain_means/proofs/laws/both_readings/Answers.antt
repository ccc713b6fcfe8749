use Rattle.grain_means.specs.lemmas.Plays.{plays}
use Rattle.grain_means.proofs.laws.both_readings.Goals as goal

pub returns : goal.returns
returns g c =
    λ m k f p h missed done w e t s rooted. plays m k f p missed done w h e t s rooted
