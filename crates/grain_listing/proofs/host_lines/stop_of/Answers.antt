use Rattle.std.proofs.Common.{sym, ◌∙◌}
use Rattle.grain_listing.proofs.host_lines.stop_of.Goals as goal

pub returns-in-Ok-2-clause-plain : goal.returns-in-Ok-2-clause-plain
returns-in-Ok-2-clause-plain c =
    c.read_values_name_no_cell.ensures c.in-Ok.rest.now c.in-Ok-2.value
    (sym c.in_ok-reason-in-Ok.ensures ∙ c.in-Ok-2.is)
