-- What is left of the search gives what all of it gives.
use Rattle.std.proofs.Common.{◌≡◌, drop, length, []}
use Rattle.grain_program.specs.Typing.{analyse_from, analysis}
use Rattle.grain_program.specs.View.{view_of}
use Rattle.grain_program.specs.Reached.{AreReached}
use Rattle.grain_program.specs.Numbered.{state_of}
use Rattle.grain_program.proofs.verifier.heights.check_heights.Given as goal

abbrev pub invariant-loop-chunk : goal.invariant-loop-chunk
invariant-loop-chunk l = record {
  is : analyse_from (view_of l.parts) (drop l.chunk-index l.chunks) (state_of l.analysis)
      ≡ analysis (view_of l.parts) l.chunks;
  long : length (state_of l.analysis).shapes ≡ length l.parts.code;
  none : l.analysis.waiting ≡ [];
  reached : AreReached (view_of l.parts) l.reached (state_of l.analysis);
}
