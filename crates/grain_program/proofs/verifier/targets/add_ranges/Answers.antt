-- One range more.
use Rattle.grain_program.proofs.OrderedTargets.{one_range}
use Rattle.grain_program.proofs.verifier.targets.add_ranges.Goals as goal

pub loop-range-preserved : goal.loop-range-preserved
loop-range-preserved c =
    one_range c.loop-range.targets.keys c.insert.new.self.keys _ c.args.ranges.now
    c.loop-range.range-index _ c.loop-range-test.true c.loop-range.invariant
    c.in_ok-insert.ensures.keys
