-- The wrappers so far, and the fault inside them.
use Rattle.std.proofs.Common.{◌≡◌, ◌++◌}
use Rattle.grain_fault.specs.Wrappers.{added}
use Rattle.grain_fault.specs.Problems.{problem_of}
use Rattle.grain_fault.specs.Texts.{message}
use Rattle.grain_fault.proofs.wrappers.unwrap_all.Given as goal

abbrev pub invariant-loop-innermost : goal.invariant-loop-innermost
invariant-loop-innermost l =
    message (problem_of l.fault)
    ≡ message (problem_of l.innermost) ++ added l.wrappers.items
