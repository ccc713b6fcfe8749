use Rattle.std.proofs.Common.{refl, sym}
use Rattle.grain_value.specs.Operands.{read_write}
use Rattle.grain_frame.specs.Targets.{content_at, kept_operand}
use Rattle.grain_frame.proofs.runs.Run.seek_assignment.Goals as goal

pub returns : goal.returns
returns g c = λ place.
    let s = c.args.self.now in
    let t = c.args.assignment.now.target in
    rw c.name-name.ensures at (c.seek_lent.ensures t place (read_write (content_at s t))
    (kept_operand c.args.assignment.now.kept s.stacks.operands) (sym c.content-lent.ensures) refl
    (sym c.operand-value.ensures))
