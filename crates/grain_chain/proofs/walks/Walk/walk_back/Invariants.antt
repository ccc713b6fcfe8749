use Rattle.std.proofs.Common.{◌≤◌, length}
use Rattle.grain_means.specs.Tasks.{WalkEnded}
use Rattle.grain_chain.specs.Going.{rest}
use Rattle.grain_chain.proofs.Loops.{Led}
use Rattle.grain_chain.proofs.walks.Walk.walk_back.Given as goal

abbrev pub invariant-back : goal.invariant-back
invariant-back l = record {
  walks : Led l.fn.context l.fn.self (rest l.fn.context l.fn.self
      (WalkEnded l.fn.self.gives l.fn.changed)) l.self
      (rest l.fn.context l.self (WalkEnded l.self.gives l.changed));
  less : length l.self.trail.outer ≤ length l.fn.self.trail.outer;
}

abbrev pub decreases-back : goal.decreases-back
decreases-back l = length l.self.trail.outer
