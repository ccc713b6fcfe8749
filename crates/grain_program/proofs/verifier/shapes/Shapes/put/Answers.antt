use Rattle.grain_program.proofs.Cells.{cells_put}
use Rattle.grain_program.proofs.verifier.shapes.Shapes.put.Goals as goal

pub returns : goal.returns
returns c =
    cells_put c.self.inside.cells.items c.args.self.now c.args.address c.args.shape c.self.view_is
