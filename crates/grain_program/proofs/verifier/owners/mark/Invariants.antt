-- The starts below the address are marked, and it is one itself unless it is the chunk's end.
use Rattle.std.proofs.Common.{◌-◌}
use Rattle.grain_program.proofs.Marks.{Marking}
use Rattle.grain_program.proofs.verifier.owners.mark.Given as goal

abbrev pub invariant-loop-at : goal.invariant-loop-at
invariant-loop-at l = Marking l.code l.fn.chunk l.at l.fn.owners l.owners

abbrev pub decreases-loop-at : goal.decreases-loop-at
decreases-loop-at l = l.end - l.at
