-- The slots of a scope that no entry has.
use Rattle.std.specs.Prelude.{◌≡◌, ◌≤◌, ℕ, List, [], All, length, drop}
use Rattle.grain_value.specs.declared.scopes.Entry.{Entry}
use Rattle.grain_value.specs.Operands.{left_behind}

-- the slot has a value that owns no memory, and no alias
pub record IsSpare (e : Entry) : Type 0 where
  pub empty : left_behind e.held.value ≡ e.held.value
  pub unnamed : e.aliases ≡ []

-- the slots from a height on are spare
pub record IsSpareFrom (height : ℕ) (slots : List Entry) : Type 0 where
  pub within : height ≤ length slots
  pub spare : All IsSpare (drop height slots)
