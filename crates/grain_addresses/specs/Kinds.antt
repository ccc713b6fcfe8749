-- What a line gives, by its words and by whether it stands in a block. It is what the line says,
-- where the line is read.
use Rattle.std.specs.Prelude.{ℕ, ◌+◌, ◌≤◌, Bool, List, [], ◌∷◌, Option, Some, None, Result, Ok, Err, bytes_eq, codes, if◌then◌else◌}
use Rattle.grain_fault.specs.declared.places.Position.{Position}
use Rattle.grain_words.specs.Words.{next_word, after_word}
use Rattle.grain_program.specs.declared.code.fields.Field.{Field}
use Rattle.grain_program.specs.Fields.{bytes_of, size_of}
use Rattle.grain_program.specs.InstructionSet.{fields_of}
use Rattle.grain_literals.specs.Operands.{position_after}
use Rattle.grain_literals.specs.declared.reasons.Reason.{Reason}
use Rattle.grain_listing.specs.Table.{line_of}
use Rattle.grain_listing.specs.declared.table.Line.{Line}
use Rattle.grain_listing.specs.declared.table.Line.TheVariants as lines
use Rattle.grain_addresses.specs.declared.kinds.LineKind.{LineKind}
use Rattle.grain_addresses.specs.declared.kinds.LineKind.TheVariants as kinds

-- how many bytes the operands have, and what follows their words
abbrev pub fields_width : List Field → ℕ
fields_width [] = 0
fields_width (f ∷ fs) = bytes_of (size_of f) + fields_width fs

abbrev pub after_fields : List Field → List ℕ → List ℕ
after_fields [] cs = cs
after_fields (f ∷ fs) cs = after_fields fs (after_word cs)

abbrev pub position_or_none : Result (Option Position) Reason → Option Position
position_or_none (Ok p) = p
position_or_none (Err e) = None

abbrev pub instruction_kind : List Field → List ℕ → LineKind
instruction_kind fs cs =
    kinds.Code (1 + fields_width fs) (position_or_none (position_after (after_fields fs cs)))

-- how many slots a step has, by its first word
abbrev pub slots_begun : Option (List ℕ × List ℕ) → ℕ
slots_begun None = 1
slots_begun (Some a) = if bytes_eq a.0 (codes "index") then 2 else 1

abbrev pub step_kind : List ℕ → LineKind
step_kind cs = kinds.Step (slots_begun (next_word cs))

-- how many slots the root of a chain has, by its first word
abbrev pub root_slots_begun : Option (List ℕ × List ℕ) → ℕ
root_slots_begun None = 0
root_slots_begun (Some a) = if bytes_eq a.0 (codes "this") then 1 else 0

-- a chain, by what is left after the number of its operands
abbrev pub chain_kind : List ℕ → LineKind
chain_kind cs = kinds.Chain (root_slots_begun (next_word cs))

-- a line that begins with a word of the table, by what is left after the word
abbrev pub kind_of : Line → List ℕ → LineKind
kind_of lines.Main cs = kinds.Main
kind_of lines.Function cs = kinds.Function
kind_of lines.Byte cs = kinds.Code 1 (position_or_none (position_after (after_word cs)))
kind_of lines.End cs = kinds.End
kind_of (lines.Instruction o) cs = instruction_kind (fields_of o) cs
kind_of lines.Chain cs = chain_kind (after_word cs)
kind_of lines.Step cs = step_kind cs
kind_of l cs = kinds.Other

abbrev pub kind_if : Option Line → List ℕ → LineKind
kind_if None cs = kinds.Other
kind_if (Some l) cs = kind_of l cs

abbrev pub kind_begun : Bool → Option (List ℕ × List ℕ) → LineKind
kind_begun in_block None = kinds.Other
kind_begun in_block (Some a) = kind_if (line_of in_block a.0) a.1

-- in a block, or outside of one
abbrev pub line_kind : Bool → List ℕ → LineKind
line_kind in_block cs = kind_begun in_block (next_word cs)

-- a line gives at most 13 bytes, and one of code at least one; a chain's root has at most one slot, and
-- a step at most two
abbrev pub IsNarrow : LineKind → Type 0
IsNarrow (kinds.Code width position) = (1 ≤ width) × (width ≤ 13)
IsNarrow (kinds.Chain slots) = slots ≤ 1
IsNarrow (kinds.Step slots) = slots ≤ 2
IsNarrow kind = Unit {0}
