-- What is counted and what is left are all.
use Rattle.std.proofs.Common.{◌≡◌, ◌+◌, drop}
use Rattle.grain_program.specs.Chains.{steps_slots}
use Rattle.grain_program.proofs.slots.steps_slots.Given as goal

abbrev pub invariant-loop-step : goal.invariant-loop-step
invariant-loop-step l =
    l.slots + steps_slots (drop l.step-index l.steps) ≡ steps_slots l.steps
