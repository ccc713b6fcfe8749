-- What a scope becomes once the entry that it lent is given back.
use Rattle.std.specs.Prelude.{ℕ, Option, List}
use Rattle.std.specs.Borrow.{LendsIf, MutBor, Fml}
use Rattle.grain_value.specs.Scopes.{set_held}
use Rattle.grain_value.specs.declared.scopes.Entry.{Entry}
use Rattle.grain_value.specs.declared.values.Held.{Held}
use Rattle.grain_value.specs.contracts.values.Held as held
use Rattle.grain_value.specs.contracts.scopes.Scope as scope

-- when the loan ends, the entry at the index holds the last value of the reference; the scope is
-- as it
-- was if nothing was lent
abbrev pub LendsHeld : MutBor (List Entry) → ℕ → Option (MutBor Held) → Fml
LendsHeld s i r = LendsIf scope.the_row held.the_row s r (set_held s.now i) s.now
