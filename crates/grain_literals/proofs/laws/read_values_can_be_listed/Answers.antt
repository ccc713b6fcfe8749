use Rattle.grain_literals.proofs.LiteralsListed.{values_listed, constants_listed, entries_listed}
use Rattle.grain_literals.proofs.laws.read_values_can_be_listed.Goals as goal

pub returns-clause-values : goal.returns-clause-values
returns-clause-values c = values_listed

pub returns-clause-constants : goal.returns-clause-constants
returns-clause-constants c = constants_listed

pub returns-clause-entries : goal.returns-clause-entries
returns-clause-entries c = entries_listed
