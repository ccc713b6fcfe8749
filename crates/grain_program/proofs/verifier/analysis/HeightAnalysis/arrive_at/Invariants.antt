-- The shape has come to the addresses so far.
use Rattle.std.proofs.Common.{length}
use Rattle.grain_program.proofs.ArrivingAt.{Arriving}
use Rattle.grain_program.proofs.verifier.analysis.HeightAnalysis.arrive_at.Given as goal

abbrev pub invariant-loop-target : goal.invariant-loop-target
invariant-loop-target l = Arriving l.fn.self l.shape l.fn.targets.keys l.targets.keys l.self

abbrev pub decreases-loop-target : goal.decreases-loop-target
decreases-loop-target l = length l.targets.keys
