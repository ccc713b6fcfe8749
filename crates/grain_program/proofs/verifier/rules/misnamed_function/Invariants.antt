-- The functions so far have their names.
use Rattle.std.proofs.Common.{◌≡◌, drop}
use Rattle.grain_program.specs.View.{view_of}
use Rattle.grain_program.specs.Owners.{first_misnamed}
use Rattle.grain_program.proofs.verifier.rules.misnamed_function.Given as goal

abbrev pub invariant-loop-function : goal.invariant-loop-function
invariant-loop-function l = first_misnamed (view_of l.parts) (drop l.function-index
    l.functions) ≡ first_misnamed (view_of l.parts) l.parts.functions
