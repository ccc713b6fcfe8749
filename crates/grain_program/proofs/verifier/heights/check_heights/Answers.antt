use Rattle.std.proofs.Common.{drop}
use Rattle.std.proofs.lemmas.Option.{slice_get-get_or}
use Rattle.std.proofs.lemmas.List.{drop_all}
use Rattle.grain_program.specs.View.{view_of}
use Rattle.grain_program.specs.Numbered.{state_of}
use Rattle.grain_program.proofs.Loops.{analysable, found}
use Rattle.grain_program.proofs.verifier.heights.check_heights.Goals as goal

pub analyse_chunk-requires-clause-analysable : goal.analyse_chunk-requires-clause-analysable
analyse_chunk-requires-clause-analysable c =
    analysable (view_of c.args.parts.now) c.args.chunks.now c.requires c.loop-chunk.chunk-index _
    (slice_get-get_or c.args.chunks.now c.loop-chunk.chunk-index _ c.loop-chunk-test.true)
    (state_of c.loop-chunk.analysis) c.loop-chunk.invariant.long c.loop-chunk.invariant.none

pub returns-clause-ok : goal.returns-clause-ok
returns-clause-ok c =
    found (view_of c.args.parts.now) c.args.chunks.now c.requires (drop c.loop-chunk.chunk-index
    c.args.chunks.now) (state_of c.loop-chunk.analysis) c.loop-chunk.invariant.is
    (drop_all c.loop-chunk.chunk-index c.args.chunks.now c.loop-chunk-test.false)
