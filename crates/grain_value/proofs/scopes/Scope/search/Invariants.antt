-- No entry from the index on has the name.
use Rattle.std.proofs.Common.{◌≡◌, drop, None}
use Rattle.grain_value.specs.Scopes.{last_of}
use Rattle.grain_value.proofs.scopes.Scope.search.Given as goal

abbrev pub invariant-loop-index : goal.invariant-loop-index
invariant-loop-index l = last_of l.name (drop l.index l.self) ≡ None
