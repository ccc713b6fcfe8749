-- The content of a cell that was lent is back, as the op-assignment left it.
use Rattle.std.proofs.Common.{◌≡◌, true, rules}
use Rattle.std.specs.Prelude.{slice_get}
use Rattle.grain_frame.proofs.Targeting.{content_assigned, one_cell}
use Rattle.grain_frame.proofs.runs.Run.assign_lent.Goals as goal

pub returns : goal.returns
returns g c = record {
  assigned = λ h is.
      let s = c.args.self.now in
      let same : c.in-Ok.held ≡ h =
      one_cell (slice_get s.cells c.args.cell) c.in-Ok.held h c.in-Ok.ensures.content.0 is in
      let fast : c.args.context.engine.now.fast_operators ≡ true = search rules in
      rw (fast, ← same, ← c.operand-value.ensures)
      (content_assigned s c.args.cell c.in-Ok.held c.assign-assigned.new.target
      c.lend.new.self c.give_back.new.self c.in-Ok.ensures.content.0 c.in-Ok.ensures.content.1
      c.give_back.ensures c.assign-assigned.result _ c.assign-assigned.ensures);
}
