-- The steps so far have their operands.
use Rattle.std.proofs.Common.{◌≡◌, drop}
use Rattle.grain_program.specs.Chains.{all_have_operands}
use Rattle.grain_program.proofs.verifier.chain_rules.all_have_operands.Given as goal

abbrev pub invariant-loop-step : goal.invariant-loop-step
invariant-loop-step l = all_have_operands l.operands (drop l.step-index l.steps)
    ≡ all_have_operands l.operands l.steps
