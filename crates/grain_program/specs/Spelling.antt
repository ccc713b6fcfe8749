-- How an instruction is spelled: its tag, and its operands, the lowest byte first.
use Rattle.std.specs.Prelude.{ℕ, List, [], ◌∷◌, ◌++◌}
use Rattle.std.specs.List.{AllByRecursion}
use Rattle.std.specs.Int.{w16, w32, to_le_bytes}
use Rattle.grain_program.specs.declared.code.instruction_set.Op.{Op}
use Rattle.grain_program.specs.declared.code.fields.Field.{Field}
use Rattle.grain_program.specs.Fields.{Size, one, two, four, size_of, number_of, FieldFits}
use Rattle.grain_program.specs.InstructionSet.{tag_of, fields_of}

-- the bytes of a number of this size
abbrev pub spelled : Size → ℕ → List ℕ
spelled one n = n ∷ []
spelled two n = to_le_bytes w16 n
spelled four n = to_le_bytes w32 n

abbrev pub fields_spelled : List Field → List ℕ
fields_spelled [] = []
fields_spelled (f ∷ fs) = spelled (size_of f) (number_of f) ++ fields_spelled fs

-- the bytes of the instruction
abbrev pub spelling : Op → List ℕ
spelling o = tag_of o ∷ fields_spelled (fields_of o)

-- each operand's number fits its bytes
abbrev pub OpFits : Op → Type 0
OpFits o = AllByRecursion FieldFits (fields_of o)
