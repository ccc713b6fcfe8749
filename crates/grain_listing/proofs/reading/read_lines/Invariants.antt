use Rattle.std.proofs.Common.{length}
use Rattle.grain_listing.specs.views.AssemblerView.{assembler_view}
use Rattle.grain_listing.proofs.LinesRead.{LinesRead}
use Rattle.grain_listing.proofs.reading.read_lines.Given as goal

abbrev pub invariant-lines : goal.invariant-lines
invariant-lines l = LinesRead l.text l.rest l.n (assembler_view l.assembler)

abbrev pub decreases-lines : goal.decreases-lines
decreases-lines l = length l.rest
