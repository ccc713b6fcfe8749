-- How an instruction is read: its tag, and after it operands of one, two or four bytes, the lowest
-- byte first.
use Rattle.std.specs.Prelude.{ℕ, ◌+◌, List, [], ◌∷◌, drop, map, replicate, Option, Some, None, option_map, ◌==◌, if◌then◌else◌}
use Rattle.std.specs.Int.{w16, w32, from_le_bytes}
use Rattle.grain_program.specs.declared.code.instruction_set.Op.{Op}
use Rattle.grain_program.specs.Fields.{Size, one, two, four, bytes_of, size_of, span}
use Rattle.grain_program.specs.InstructionSet.{instructions, tag_of, fields_of}

-- the number that the bytes begin with, where there are enough of them
abbrev pub number_at : Size → List ℕ → Option ℕ
number_at one (a ∷ rest) = Some a
number_at two (a ∷ b ∷ rest) = Some (from_le_bytes w16 (a ∷ b ∷ []))
number_at four (a ∷ b ∷ c ∷ d ∷ rest) = Some (from_le_bytes w32 (a ∷ b ∷ c ∷ d ∷ []))
number_at _ _ = None

-- a number before others, where all are there
abbrev pub joined : Option ℕ → Option (List ℕ) → Option (List ℕ)
joined None ns = None
joined (Some n) None = None
joined (Some n) (Some ns) = Some (n ∷ ns)

-- the numbers that the bytes begin with, one for each size
abbrev pub numbers_at : List Size → List ℕ → Option (List ℕ)
numbers_at [] bytes = Some []
numbers_at (s ∷ ss) bytes = joined (number_at s bytes) (numbers_at ss (drop (bytes_of s) bytes))

-- how the bytes of an instruction are read: its tag, the sizes of its operands, and the instruction
-- that their numbers make
pub record Format : Type 0 where
  pub tag : ℕ
  pub sizes : List Size
  pub make : List ℕ → Op

-- the format of the instruction that is made so, by its row
abbrev pub format_of : (List ℕ → Op) → Format
format_of make =
    record { tag = tag_of (make []); sizes = map size_of (fields_of (make [])); make = make }

abbrev pub formats : List Format
formats = map format_of instructions

-- the instruction of the format and its width, where its numbers are there
abbrev pub made : Format → Option (List ℕ) → Option (Op × ℕ)
made r None = None
made r (Some ns) = Some (r.make ns, 1 + span r.sizes)

-- the instruction of the first format that has the tag, and its width
abbrev pub by_formats : List Format → ℕ → List ℕ → Option (Op × ℕ)
by_formats [] tag rest = None
by_formats (r ∷ rs) tag rest =
    if tag == r.tag then made r (numbers_at r.sizes rest) else by_formats rs tag rest

-- the instruction of the tag, and its width
unfoldable pub by_tag : ℕ → List ℕ → Option (Op × ℕ)
by_tag tag rest = by_formats formats tag rest

-- the instruction of the tag, with zeros for the numbers of its operands
unfoldable pub op_of_tag : ℕ → Option Op
op_of_tag tag = option_map (λ x. x.0) (by_tag tag (replicate 8 0))

-- how wide an instruction of the tag is, or 0 if there is none
abbrev pub width_in : List Format → ℕ → ℕ
width_in [] tag = 0
width_in (r ∷ rs) tag = if tag == r.tag then 1 + span r.sizes else width_in rs tag

unfoldable pub width_of : ℕ → ℕ
width_of tag = width_in formats tag

-- the instruction that the bytes begin with, and its width
unfoldable pub op_in : List ℕ → Option (Op × ℕ)
op_in [] = None
op_in (tag ∷ rest) = by_tag tag rest

-- the instruction that begins at the address, and its width
unfoldable pub op_at : List ℕ → ℕ → Option (Op × ℕ)
op_at code address = op_in (drop address code)
