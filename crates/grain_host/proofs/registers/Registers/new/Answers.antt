use Rattle.std.proofs.Common.{refl}
use Rattle.grain_host.specs.Registers.{cleared}
use Rattle.grain_host.proofs.registers.Registers.new.Goals as goal

pub returns : goal.returns
unfolding cleared
returns c = refl
