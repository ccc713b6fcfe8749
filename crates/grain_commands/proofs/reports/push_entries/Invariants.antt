use Rattle.std.proofs.Common.{◌≡◌, ◌++◌, drop}
use Rattle.grain_commands.specs.Reports.{entries_text}
use Rattle.grain_commands.proofs.reports.push_entries.Given as goal

abbrev pub invariant-loop-entry : goal.invariant-loop-entry
invariant-loop-entry l = l.out ++ entries_text
    (drop l.entry-index l.entries) ≡ l.initial.out ++ entries_text l.entries
