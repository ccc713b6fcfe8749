-- What is counted and what is left are all.
use Rattle.std.proofs.Common.{◌≡◌, ◌+◌, ◌<◌, ◌^◌, drop}
use Rattle.grain_program.specs.Chains.{steps_slots}
use Rattle.grain_program.proofs.verifier.chain_rules.slots_with.Given as goal

abbrev pub invariant-loop-step : goal.invariant-loop-step
invariant-loop-step l = record {
  all : l.slots + steps_slots (drop l.step-index l.steps) ≡ l.before + steps_slots l.steps;
  small : l.slots < 2 ^ 33;
}
