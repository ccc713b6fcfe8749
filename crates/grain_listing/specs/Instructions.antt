-- The instructions' words, and how their lines are read.
use Rattle.std.specs.Prelude.{ℕ, List, [], ◌∷◌, Option, Some, None, bytes_eq, if◌then◌else◌}
use Rattle.grain_program.specs.declared.code.instruction_set.Op.{Op}
use Rattle.grain_program.specs.declared.code.fields.Field.{Field}
use Rattle.grain_program.specs.Fields.{Size, one, two, four, size_of}
pub use Rattle.grain_program.specs.InstructionSet.{word_of}
use Rattle.grain_program.specs.InstructionSet.{all_instructions, tag_of, fields_of}
use Rattle.grain_listing.specs.declared.table.OperandKind.{OperandKind}
use Rattle.grain_listing.specs.declared.table.OperandKind.TheVariants as kinds

-- a number of one byte or of two, or a target of four
abbrev pub kind_of : Size → OperandKind
kind_of one = kinds.Byte
kind_of two = kinds.Index
kind_of four = kinds.Target

-- the kinds of the fields
abbrev pub kinds_of : List Field → List OperandKind
kinds_of [] = []
kinds_of (f ∷ fs) = kind_of (size_of f) ∷ kinds_of fs

-- the tag and the operands with which the instruction is spelled in the code
abbrev pub encoding_of : Op → ℕ × List OperandKind
encoding_of o = (tag_of o, kinds_of (fields_of o))

-- the first of these instructions that has the word
abbrev pub op_among : List Op → List ℕ → Option Op
op_among [] w = None
op_among (o ∷ os) w = if bytes_eq w (word_of o) then Some o else op_among os w

-- the instruction with the word; the numbers of its operands say nothing
unfoldable pub op_named : List ℕ → Option Op
op_named w = op_among all_instructions w
