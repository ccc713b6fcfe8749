use Rattle.std.proofs.Common.{is_ok}
use Rattle.grain_host.proofs.PlainStops.{plain_after}
use Rattle.grain_host.proofs.stop_lines.StopLines.push.Goals as goal

pub invariant_of-self : goal.invariant_of-self
invariant_of-self c =
    plain_after (record { count = c.args.count; value = c.args.value }) c.requires.clean
    c.requires.cell_free (is_ok c.push.result) c.self.inside.lines c.push.new.self
    c.self.invariant c.push.ensures
