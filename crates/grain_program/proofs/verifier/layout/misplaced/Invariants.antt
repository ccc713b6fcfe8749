-- The chunks so far tile the code up to the address.
use Rattle.std.proofs.Common.{◌≡◌, drop}
use Rattle.grain_program.specs.Layout.{gap_from}
use Rattle.grain_program.proofs.verifier.layout.misplaced.Given as goal

abbrev pub invariant-loop-chunk : goal.invariant-loop-chunk
invariant-loop-chunk l =
    gap_from l.len l.at (drop l.chunk-index l.chunks) ≡ gap_from l.len 0 l.chunks
