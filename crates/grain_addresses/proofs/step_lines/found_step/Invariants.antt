-- No line so far is it.
use Rattle.std.proofs.Common.{◌≡◌, drop}
use Rattle.grain_addresses.specs.StepLines.{found_step}
use Rattle.grain_addresses.proofs.step_lines.found_step.Given as goal

abbrev pub invariant-loop-step : goal.invariant-loop-step
invariant-loop-step l =
    found_step l.chain l.slot (drop l.step-index l.steps) ≡ found_step l.chain l.slot l.steps
