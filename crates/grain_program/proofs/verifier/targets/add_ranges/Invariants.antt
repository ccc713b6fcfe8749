-- The targets so far, with those that are left, are all of them.
use Rattle.std.proofs.Common.{◌≡◌, drop}
use Rattle.grain_program.specs.Switches.{range_targets, put_in_order}
use Rattle.grain_program.proofs.verifier.targets.add_ranges.Given as goal

abbrev pub invariant-loop-range : goal.invariant-loop-range
invariant-loop-range l =
    put_in_order l.targets.keys (range_targets (drop l.range-index l.ranges))
    ≡ put_in_order l.fn.targets.keys (range_targets l.ranges)
