use Rattle.grain_host.specs.Tables.{table_law}
use Rattle.grain_commands.proofs.Completed.{completed}
use Rattle.grain_commands.proofs.Headlined.{prints_core_end}
use Rattle.grain_commands.proofs.Says.{beside}
use Rattle.grain_commands.proofs.laws.statuses_are_due.Goals as goal

pub returns-clause-beside : goal.returns-clause-beside
returns-clause-beside c words input before now counts status ended =
    beside words input before now counts status ended

pub returns-clause-complete : goal.returns-clause-complete
returns-clause-complete c words input before now counts status ended =
    completed (c.one_meaning.ensures table_law) c.one_refusal.ensures words input before now counts
    status ended

pub returns-clause-headline : goal.returns-clause-headline
returns-clause-headline c words input before now counts status ended =
    prints_core_end (c.core_agrees.ensures.means table_law) (c.core_agrees.ensures.core table_law)
    words input before now counts status
    (beside words input before now counts status ended)
    (completed (c.one_meaning.ensures table_law) c.one_refusal.ensures words input before now counts
    status ended)
