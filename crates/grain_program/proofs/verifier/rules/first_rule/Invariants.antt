-- No rule is broken at the addresses so far.
use Rattle.std.proofs.Common.{◌≡◌, ℕ, ◌<◌, None}
use Rattle.grain_program.specs.View.{view_of}
use Rattle.grain_program.specs.Owners.{rule_at}
use Rattle.grain_program.proofs.verifier.rules.first_rule.Given as goal

abbrev pub invariant-loop-address : goal.invariant-loop-address
invariant-loop-address l = (b : ℕ) → b < l.address → rule_at (view_of l.parts) l.owners b ≡ None
