-- No chunk so far is empty.
use Rattle.std.proofs.Common.{◌≡◌, drop}
use Rattle.grain_program.specs.Owners.{first_empty}
use Rattle.grain_program.proofs.verifier.rules.empty_chunk.Given as goal

abbrev pub invariant-loop-chunk : goal.invariant-loop-chunk
invariant-loop-chunk l = first_empty (drop l.chunk-index l.chunks) ≡ first_empty l.chunks
