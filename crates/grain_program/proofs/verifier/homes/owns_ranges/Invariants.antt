-- Each range so far leads to an instruction of the chunk.
use Rattle.std.proofs.Common.{◌≡◌, drop}
use Rattle.grain_program.specs.Switches.{range_targets}
use Rattle.grain_program.specs.Owners.{owns_all}
use Rattle.grain_program.proofs.verifier.homes.owns_ranges.Given as goal

abbrev pub invariant-loop-range : goal.invariant-loop-range
invariant-loop-range l = owns_all l.owners l.end (range_targets (drop l.range-index l.ranges))
    ≡ owns_all l.owners l.end (range_targets l.ranges)
