use Rattle.bitflags.proofs.OnLiterals.{bitflags_on_literals}
use Rattle.grain_program.proofs.code.caps.Caps.all.Goals as goal

pub returns : goal.returns
unfolding bitflags_on_literals
returns c = c.all.ensures tt
