-- Each operand so far passes.
use Rattle.std.proofs.Common.{◌≡◌, drop}
use Rattle.grain_program.specs.View.{view_of}
use Rattle.grain_program.specs.Fields.{every, present}
use Rattle.grain_program.specs.Indices.{in_pool}
use Rattle.grain_program.proofs.verifier.rules.has_entries.Given as goal

abbrev pub invariant-loop-place : goal.invariant-loop-place
invariant-loop-place l = every (in_pool (view_of l.parts)) (present (drop l.place-index l.places))
    ≡ every (in_pool (view_of l.parts)) (present l.places)
