-- None of the functions so far is it. The text is one.
use Rattle.std.proofs.Common.{◌≡◌, drop}
use Rattle.std.specs.List.{position_from}
use Rattle.grain_program.specs.Lookups.{has_text}
use Rattle.grain_program.proofs.lookups.first_by_text.Given as goal

abbrev pub invariant-loop-number : goal.invariant-loop-number
invariant-loop-number l = position_from (has_text l.names l.text l.count) l.number (drop l.number
    l.functions) ≡ position_from (has_text l.names l.text l.count) 0 l.functions
