use Rattle.grain_words.proofs.Decimals.{number_of_decimal, integer_of_decimal, decimal_plain, decimal_letterless, integer_read}
use Rattle.grain_words.proofs.laws.decimals_are_read.Goals as goal

pub returns-clause-numbers : goal.returns-clause-numbers
returns-clause-numbers c = number_of_decimal

pub returns-clause-integers : goal.returns-clause-integers
returns-clause-integers c = integer_of_decimal

pub returns-clause-plain : goal.returns-clause-plain
returns-clause-plain c = decimal_plain

pub returns-clause-letterless : goal.returns-clause-letterless
returns-clause-letterless c = decimal_letterless

pub returns-clause-here : goal.returns-clause-here
returns-clause-here c = integer_read
