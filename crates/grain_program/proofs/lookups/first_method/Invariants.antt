-- None of the functions so far is it.
use Rattle.std.proofs.Common.{◌≡◌, drop}
use Rattle.std.specs.List.{position_from}
use Rattle.grain_program.specs.Lookups.{is_method}
use Rattle.grain_program.proofs.lookups.first_method.Given as goal

abbrev pub invariant-loop-number : goal.invariant-loop-number
invariant-loop-number l =
    position_from (is_method l.names l.name_index l.count l.type_name) l.number (drop l.number
    l.functions) ≡ position_from (is_method l.names l.name_index l.count l.type_name) 0 l.functions
