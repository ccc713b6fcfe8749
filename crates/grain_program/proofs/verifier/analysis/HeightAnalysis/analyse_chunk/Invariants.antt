-- The loop over the waiting addresses has come so far.
use Rattle.std.proofs.Common.{◌+◌, length}
use Rattle.grain_program.specs.View.{view_of}
use Rattle.grain_program.specs.Numbered.{state_of}
use Rattle.grain_program.specs.Reached.{AreReached}
use Rattle.grain_program.proofs.Cells.{free}
use Rattle.grain_program.proofs.Loops.{Taking}
use Rattle.grain_program.proofs.verifier.analysis.HeightAnalysis.analyse_chunk.Given as goal

abbrev pub invariant-loop-address : goal.invariant-loop-address
invariant-loop-address l = record {
  so : Taking (view_of l.parts) l.chunk (state_of l.fn.self) (state_of l.self);
  reached : AreReached (view_of l.parts) l.reached (state_of l.self);
}

abbrev pub decreases-loop-address : goal.decreases-loop-address
decreases-loop-address l = free (state_of l.self).shapes + length l.self.waiting
