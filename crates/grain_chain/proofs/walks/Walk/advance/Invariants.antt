use Rattle.std.proofs.Common.{◌≡◌, ◌≤◌, ◌-◌}
use Rattle.grain_chain.specs.Walking.{HasAllOperands, count, steps_left}
use Rattle.grain_chain.proofs.Stepping.{ahead}
use Rattle.grain_chain.proofs.Loops.{Led}
use Rattle.grain_chain.proofs.walks.Walk.advance.Given as goal

abbrev pub invariant-steps : goal.invariant-steps
invariant-steps l = record {
  walks : Led l.fn.context l.fn.self (ahead l.fn.context l.fn.self) l.self (ahead l.fn.context l.self);
  less : steps_left l.fn.context.program.now l.self ≤ steps_left l.fn.context.program.now l.fn.self;
  all : l.count ≡ count l.fn.context.program.now l.self;
  has : HasAllOperands l.fn.context.program.now l.self;
}

abbrev pub decreases-steps : goal.decreases-steps
decreases-steps l = l.count - l.self.step
