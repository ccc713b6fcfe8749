-- No index so far is too large.
use Rattle.std.proofs.Common.{◌≡◌, drop}
use Rattle.grain_program.specs.Indices.{all_below}
use Rattle.grain_program.proofs.verifier.rules.all_below.Given as goal

abbrev pub invariant-loop-index : goal.invariant-loop-index
invariant-loop-index l = all_below l.end (drop l.index-index l.indices) ≡ all_below l.end l.indices
