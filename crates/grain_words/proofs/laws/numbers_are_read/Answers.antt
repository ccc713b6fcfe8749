use Rattle.grain_words.proofs.Decimals.{number_read, number_begins, integer_begins, integer_spelled, number_spelled}
use Rattle.grain_words.proofs.laws.numbers_are_read.Goals as goal

pub returns-clause-here : goal.returns-clause-here
returns-clause-here c = number_read

pub returns-clause-begun : goal.returns-clause-begun
returns-clause-begun c = integer_begins

pub returns-clause-integers : goal.returns-clause-integers
returns-clause-integers c = integer_spelled

pub returns-clause-numbers : goal.returns-clause-numbers
returns-clause-numbers c = number_spelled

pub returns-clause-first : goal.returns-clause-first
returns-clause-first c = number_begins
