-- What is written of a line that gives code, and of what is asked. Fields are separated by a tab.
use Rattle.std.specs.Prelude.{ℕ, List, [], ◌∷◌, ◌++◌, length, slice_get, Option, Some, None, codes}
use Rattle.std.specs.Fmt.{decimal}
use Rattle.std.specs.Str.{encode_utf8_all}
use Rattle.grain_value.specs.Quoting.{quoted_text}
use Rattle.grain_fault.specs.Places.{line_of, column_of}
use Rattle.grain_fault.specs.declared.places.Position.{Position}
use Rattle.grain_program.specs.declared.code.functions.Function.{Function}
use Rattle.grain_addresses.specs.Places.{Place}
use Rattle.grain_addresses.specs.StepLines.{StepLine}
use Rattle.grain_addresses.specs.declared.blocks.Block.{Block}
use Rattle.grain_addresses.specs.declared.blocks.Block.TheVariants as block
use Rattle.grain_addresses.specs.declared.queries.Query.{Query}

-- what texts need of a listing: the functions and the names
pub record Named : Type 0 where
  pub functions : List Function
  pub names : List (List ℕ)

-- the name between quotes, or its index if there is no such name
abbrev pub name_text : ℕ → Option (List ℕ) → List ℕ
name_text index None = decimal index
name_text index (Some name) = quoted_text name

-- a function: `fn`, its name, and how many parameters it has
abbrev pub function_text : List (List ℕ) → Option Function → List ℕ
function_text names None = codes "fn"
function_text names (Some f) =
    codes "fn " ++ name_text f.name (slice_get names f.name) ++ codes " " ++
    decimal (length f.params)

abbrev pub block_text : Named → Block → List ℕ
block_text named block.Main = codes "main"
block_text named (block.Function n) = function_text named.names (slice_get named.functions n)

abbrev pub or_zero : Option ℕ → ℕ
or_zero None = 0
or_zero (Some n) = n

-- `@LINE:COLUMN`, or a dash where there is none, between tabs
abbrev pub position_text : Option Position → List ℕ
position_text None = codes "\t-\t"
position_text (Some p) =
    codes "\t@" ++ decimal (or_zero (line_of p)) ++ codes ":" ++ decimal (or_zero (column_of p)) ++
    codes "\t"

-- a line's address and its number
abbrev pub code_text : Place → List ℕ
code_text p = decimal p.address ++ codes "\tline " ++ decimal p.line ++ codes "\t"

-- the line itself
abbrev pub source_text : List ℕ → List ℕ
source_text line = encode_utf8_all line ++ codes "\n"

-- a line that gives code: its address, its number, its block, its position, and the line itself
abbrev pub place_text : Named → Place → List ℕ
place_text named p =
    code_text p ++ block_text named p.block ++ position_text p.position ++ source_text p.text

abbrev pub table_text : Named → List Place → List ℕ
table_text named [] = []
table_text named (p ∷ ps) = place_text named p ++ table_text named ps

-- an address, with its slot if one is asked for
abbrev pub slot_text : Option ℕ → List ℕ
slot_text None = []
slot_text (Some slot) = codes ":" ++ decimal slot

abbrev pub query_text : Query → List ℕ
query_text q = decimal q.address ++ slot_text q.slot

abbrev pub of_line_text : ℕ → List ℕ
of_line_text n = codes " of line " ++ decimal n ++ codes "\n"

-- the line of a step: what was asked for, the line's number, and the line itself
abbrev pub step_text : Query → StepLine → List ℕ
step_text q s =
    query_text q ++ codes "\tline " ++ decimal s.line ++ codes "\t" ++ source_text s.text

-- no step of the chain that the instruction at the address does begins at the slot
abbrev pub no_step_text : Query → Place → List ℕ
no_step_text q p =
    query_text q ++ codes "\tno step begins at this slot in the instruction" ++ of_line_text p.line

-- no instruction begins at the address, which is inside one
abbrev pub inside_text : Query → Place → List ℕ
inside_text q p =
    query_text q ++ codes "\tinside the instruction at " ++ decimal p.address ++
    of_line_text p.line

-- the address is past the code, which has this many bytes
abbrev pub past_text : Query → ℕ → List ℕ
past_text q bytes =
    query_text q ++ codes "\tpast the code, which has " ++ decimal bytes ++ codes " bytes\n"
