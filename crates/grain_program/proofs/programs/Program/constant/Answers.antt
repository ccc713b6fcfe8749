-- The constant is the value of the tree that stands at the index.
use Rattle.grain_program.proofs.Constants.{constant_at}
use Rattle.grain_program.proofs.programs.Program.constant.Goals as goal

pub returns : goal.returns
returns c =
    rw (← c.self.view_is)
    (constant_at c.self.inside.parts.consts c.args.index c.at.result.now c.at.ensures)
