-- What a caller sees of slots: the operands in them, and how many slots there are.
use Rattle.std.specs.Prelude.{ℕ, List, length, take, slice_index_or}
use Rattle.grain_value.specs.declared.values.Dynamic.TheVariants as dynamic
use Rattle.grain_value.specs.declared.values.Held.{Held}
use Rattle.grain_value.specs.Operands.{read_write}

pub record Filled : Type 0 where
  pub operands : List Held
  pub slots : ℕ

-- the slots below a height have the operands
abbrev pub filled : ℕ → List Held → Filled
filled height slots = record { operands = take height slots; slots = length slots }

-- the operand at an index, or unit if there is none
abbrev pub operand_at : ℕ → List Held → Held
operand_at i hs = slice_index_or hs i (read_write dynamic.Unit)
