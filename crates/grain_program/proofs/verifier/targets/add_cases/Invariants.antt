-- The targets so far, with those that are left, are all of them.
use Rattle.std.proofs.Common.{◌≡◌, drop}
use Rattle.grain_program.specs.Switches.{case_targets, put_in_order}
use Rattle.grain_program.proofs.verifier.targets.add_cases.Given as goal

abbrev pub invariant-loop-case : goal.invariant-loop-case
invariant-loop-case l =
    put_in_order l.targets.keys (case_targets (drop l.case-index l.cases))
    ≡ put_in_order l.fn.targets.keys (case_targets l.cases)
