-- What is looked through are the last operands.
use Rattle.std.proofs.Common.{◌+◌, List, subst}
use Rattle.grain_value.specs.declared.values.Held.{Held}
use Rattle.grain_frame.specs.Literals.{PairsRead}
use Rattle.grain_frame.proofs.Flattening.{last_held}
use Rattle.grain_frame.proofs.runs.Run.first_misfit.Goals as goal

pub returns : goal.returns
returns g c = λ es.
    let s = c.args.self.now in
    subst (λ (hs : List Held). PairsRead s.cells hs es c.first_misfit.result)
    (last_held (c.args.count + c.args.count) s.stacks.operands
    c.frame_operands-operands.result.now c.frame_operands-operands.ensures)
    (c.first_misfit.ensures es)
