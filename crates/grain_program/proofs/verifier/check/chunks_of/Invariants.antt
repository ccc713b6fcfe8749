-- The chunks so far, and those of the functions that are left, are all of them.
use Rattle.std.proofs.Common.{◌≡◌, ◌++◌, map, drop}
use Rattle.grain_program.specs.View.{view_of}
use Rattle.grain_program.specs.Layout.{chunks_in}
use Rattle.grain_program.proofs.verifier.check.chunks_of.Given as goal

abbrev pub invariant-loop-function : goal.invariant-loop-function
invariant-loop-function l = l.chunks.items ++ map (λ f. f.chunk) (drop l.function-index
    l.functions) ≡ chunks_in (view_of l.parts)
