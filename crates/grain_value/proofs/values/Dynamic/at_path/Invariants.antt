use Rattle.std.proofs.Common.{◌≡◌, drop}
use Rattle.grain_value.specs.View.{tree}
use Rattle.grain_value.specs.Paths.{at}
use Rattle.grain_value.proofs.values.Dynamic.at_path.Given as goal

abbrev pub invariant-loop-step : goal.invariant-loop-step
invariant-loop-step l = at l.steps (tree l.self) ≡ at (drop l.step-index l.steps) (tree l.target)
