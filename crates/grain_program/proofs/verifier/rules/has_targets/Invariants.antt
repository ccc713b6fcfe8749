-- Each operand so far passes.
use Rattle.std.proofs.Common.{◌≡◌, drop}
use Rattle.grain_program.specs.View.{view_of}
use Rattle.grain_program.specs.Fields.{every, present}
use Rattle.grain_program.specs.Owners.{lands}
use Rattle.grain_program.proofs.verifier.rules.has_targets.Given as goal

abbrev pub invariant-loop-place : goal.invariant-loop-place
invariant-loop-place l =
    every (lands (view_of l.parts) l.owners l.end) (present (drop l.place-index l.places))
    ≡ every (lands (view_of l.parts) l.owners l.end) (present l.places)
