-- Each step so far has its names.
use Rattle.std.proofs.Common.{◌≡◌, drop}
use Rattle.grain_program.specs.Indices.{steps_indexed}
use Rattle.grain_program.proofs.verifier.pool_records.have_step_names.Given as goal

abbrev pub invariant-loop-step : goal.invariant-loop-step
invariant-loop-step l =
    steps_indexed l.names (drop l.step-index l.steps) ≡ steps_indexed l.names l.steps
