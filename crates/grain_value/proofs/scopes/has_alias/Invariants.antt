-- The alias is among those that are left exactly where it is among all.
use Rattle.std.proofs.Common.{◌≡◌, drop}
use Rattle.grain_value.specs.Scopes.{has_alias}
use Rattle.grain_value.proofs.scopes.has_alias.Given as goal

abbrev pub invariant-loop-known : goal.invariant-loop-known
invariant-loop-known l =
    has_alias l.alias (drop l.known-index l.known-items) ≡ has_alias l.alias l.aliases
