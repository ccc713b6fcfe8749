-- The entry of the address, if there is one, is between the two indices.
use Rattle.std.proofs.Common.{◌-◌}
use Rattle.grain_program.proofs.Placing.{Between}
use Rattle.grain_program.proofs.programs.position_among.Given as goal

abbrev pub invariant-loop-low : goal.invariant-loop-low
invariant-loop-low l = Between l.entries l.address l.low l.high

abbrev pub decreases-loop-low : goal.decreases-loop-low
decreases-loop-low l = l.high - l.low
