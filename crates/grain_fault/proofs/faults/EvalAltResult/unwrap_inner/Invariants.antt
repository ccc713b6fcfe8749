-- The inner fault stays the same.
use Rattle.std.proofs.Common.{◌≡◌}
use Rattle.grain_fault.specs.Problems.{problem_of, inner_fault}
use Rattle.grain_fault.proofs.faults.EvalAltResult.unwrap_inner.Given as goal

abbrev pub invariant-loop-fault : goal.invariant-loop-fault
invariant-loop-fault l = inner_fault (problem_of l.fault) ≡ inner_fault (problem_of l.self)
