-- The functions from the number on have their first ones in the map.
use Rattle.grain_program.proofs.FunctionIndices.{IndexFrom}
use Rattle.grain_program.proofs.lookups.index_functions.Given as goal

abbrev pub invariant-loop-number : goal.invariant-loop-number
invariant-loop-number l = IndexFrom l.functions l.number l.function_index
