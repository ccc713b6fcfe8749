-- Each case so far leads to an instruction of the chunk.
use Rattle.std.proofs.Common.{◌≡◌, drop}
use Rattle.grain_program.specs.Switches.{case_targets}
use Rattle.grain_program.specs.Owners.{owns_all}
use Rattle.grain_program.proofs.verifier.homes.owns_cases.Given as goal

abbrev pub invariant-loop-case : goal.invariant-loop-case
invariant-loop-case l = owns_all l.owners l.end (case_targets (drop l.case-index l.cases))
    ≡ owns_all l.owners l.end (case_targets l.cases)
