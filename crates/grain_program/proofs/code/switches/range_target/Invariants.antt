-- No range so far has the integer.
use Rattle.std.proofs.Common.{◌≡◌, drop}
use Rattle.grain_program.specs.Switches.{range_target}
use Rattle.grain_program.proofs.code.switches.range_target.Given as goal

abbrev pub invariant-loop-range : goal.invariant-loop-range
invariant-loop-range l =
    range_target l.number (drop l.range-index l.ranges) ≡ range_target l.number l.ranges
