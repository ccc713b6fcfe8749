use Rattle.grain_value.proofs.Prefixes.{printed_text}
use Rattle.grain_value.proofs.appending.print_after.Goals as goal

pub returns-clause-output : goal.returns-clause-output
returns-clause-output g c =
    printed_text _ _ _ _ _ c.appender.view_is c.write-written.ensures.writes
