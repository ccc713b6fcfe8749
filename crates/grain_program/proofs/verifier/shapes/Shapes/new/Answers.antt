use Rattle.std.proofs.Common.{◌≡◌, replicate, rules}
use Rattle.grain_program.proofs.Cells.{cells_new}
use Rattle.grain_program.proofs.verifier.shapes.Shapes.new.Goals as goal

pub returns : goal.returns
returns c =
    let zeros : c.in_ok-cells.cells.items
    ≡ replicate c.args.len (record { height = 0; cursors = 0; list = 0 }) = search rules in
    cells_new c.args.len c.in_ok-cells.cells.items zeros
