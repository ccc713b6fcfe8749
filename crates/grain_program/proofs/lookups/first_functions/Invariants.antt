-- The functions from the number on have their first ones in the table.
use Rattle.std.proofs.Common.{◌≡◌, length}
use Rattle.grain_program.proofs.FirstFunctions.{FirstFrom}
use Rattle.grain_program.proofs.lookups.first_functions.Given as goal

abbrev pub invariant-loop-number : goal.invariant-loop-number
invariant-loop-number l = record {
  first : FirstFrom l.functions l.number l.firsts.items;
  long : length l.firsts.items ≡ l.names;
}
