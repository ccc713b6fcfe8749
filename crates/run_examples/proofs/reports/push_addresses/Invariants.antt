use Rattle.std.proofs.Common.{◌≡◌, ◌++◌, drop}
use Rattle.run_examples.specs.Reports.{addresses}
use Rattle.run_examples.proofs.reports.push_addresses.Given as goal

abbrev pub invariant-loop-entry : goal.invariant-loop-entry
invariant-loop-entry l = l.out ++ addresses (drop l.entry-index l.trace) ≡ l.initial.out ++
    addresses l.trace
