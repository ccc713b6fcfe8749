use Rattle.std.proofs.Common.{refl}
use Rattle.grain_means.proofs.laws.marks_pass.Goals as goal

pub returns : goal.returns
returns g c m out w go none = rw none refl
