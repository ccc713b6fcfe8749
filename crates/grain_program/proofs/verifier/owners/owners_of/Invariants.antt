-- The starts of the chunks so far have their owners.
use Rattle.grain_program.specs.Owners.{Owned}
use Rattle.grain_program.proofs.verifier.owners.owners_of.Given as goal

abbrev pub invariant-loop-chunk : goal.invariant-loop-chunk
invariant-loop-chunk l = Owned l.code l.chunks l.chunk-index l.owners.items
