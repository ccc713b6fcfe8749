-- How instructions are spelled as lines: the word and the number of each operand, with a space
-- before each number.
use Rattle.std.specs.Prelude.{ℕ, List, map}
use Rattle.std.specs.Fmt.{decimal}
use Rattle.grain_words.specs.Spelled.{spaced, text_of}
use Rattle.grain_program.specs.declared.code.instruction_set.Op.{Op}
use Rattle.grain_program.specs.declared.code.fields.Field.{Field}
use Rattle.grain_program.specs.Fields.{number_of}
use Rattle.grain_program.specs.InstructionSet.{word_of, fields_of}

abbrev pub numbers_of : List Field → List (List ℕ)
numbers_of fs = map (λ f. decimal (number_of f)) fs

-- the line of an instruction
abbrev pub instruction_line : Op → List ℕ
instruction_line o = spaced (word_of o) (numbers_of (fields_of o))

-- a line for each
abbrev pub instruction_text : List Op → List ℕ
instruction_text ops = text_of (map instruction_line ops)
