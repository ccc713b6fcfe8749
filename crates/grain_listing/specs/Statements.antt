-- What lines say, and what the lines up to some line say together. The lines up to there are a
-- list with the last line first, so that what stands before a line is the rest of the list.
use Rattle.std.specs.Prelude.{ℕ, ◌+◌, Bool, List, [], ◌∷◌, ◌++◌, Option, Some, None, Result, Ok, bytes_eq, if◌then◌else◌}
use Rattle.std.specs.Int.{w32, to_le_bytes}
use Rattle.grain_value.specs.Tree.{Tree}
use Rattle.grain_value.specs.View.{tree}
use Rattle.grain_value.specs.declared.values.Dynamic.{Dynamic}
use Rattle.grain_value.specs.declared.tokens.Token.{Token}
use Rattle.grain_value.specs.declared.scopes.Entry.{Entry}
use Rattle.grain_fault.specs.declared.places.Position.{Position}
use Rattle.grain_host.specs.Tables as host_tables
use Rattle.grain_host.specs.Tables.{failing_at, stopping_at}
use Rattle.grain_host.specs.declared.tables.TableHost.{TableHost}
use Rattle.grain_program.specs.declared.code.chains.Step.{Step}
use Rattle.grain_program.specs.declared.code.chains.Chain.{Chain}
use Rattle.grain_program.specs.declared.code.parts.Chunk.{Chunk}
use Rattle.grain_program.specs.declared.code.parts.PositionEntry.{PositionEntry}
use Rattle.grain_program.specs.declared.code.functions.Function.{Function}
use Rattle.grain_literals.specs.Steps.{and_then, present}
use Rattle.grain_literals.specs.declared.reasons.Reason.{Reason}
use Rattle.grain_literals.specs.declared.reasons.Reason.TheVariants.{UnknownLabel}
use Rattle.grain_listing.specs.SwitchWords.{switch_to}
use Rattle.grain_listing.specs.Table.{takes_steps, takes_cases}
use Rattle.grain_listing.specs.declared.switch_words.Aim.{Aim}
use Rattle.grain_listing.specs.declared.switch_words.AimedCase.{AimedCase}
use Rattle.grain_listing.specs.declared.switch_words.AimedRange.{AimedRange}
use Rattle.grain_listing.specs.declared.switch_words.AimedSwitch.{AimedSwitch}
use Rattle.grain_listing.specs.declared.table.Follows.{Follows}
use Rattle.grain_listing.specs.declared.table.Follows.TheVariants as may
use Rattle.grain_listing.specs.declared.blocks.OpenBlock.{OpenBlock}
use Rattle.grain_listing.specs.declared.blocks.OpenBlock.TheVariants as blocks
use Rattle.grain_listing.specs.declared.headers.AssignLine.{AssignLine}
use Rattle.grain_listing.specs.declared.headers.FunctionHeader.{FunctionHeader}
use Rattle.grain_listing.specs.declared.reasons.BadLine.{BadLine}
use Rattle.grain_listing.specs.declared.table.Section.{Section}
use Rattle.grain_listing.specs.declared.table.Section.TheVariants as sections

-- a piece of code: a byte, or four bytes for the address of a label, which this line names
pub data Piece : Type 0 where
  Byte : ℕ → Piece
  Goto : ℕ → List ℕ → Piece

-- what a line says
pub data Statement : Type 0 where
  -- an empty line, and the header
  blank : Statement
  header : Statement
  -- the bits of the capabilities, the name of the script that the program was made from, and a
  -- limit's name with its number
  caps_line : ℕ → Statement
  source_line : List ℕ → Statement
  limit_line : List ℕ × ℕ → Statement
  -- the name of a flag that is turned, the number of a call that is to fail, and a number of
  -- operations at which the run is to end, with its token
  flag_line : List ℕ → Statement
  fail_line : ℕ → Statement
  stop_line : ℕ × Dynamic → Statement
  -- an entry of a pool
  const_line : Dynamic → Statement
  name_line : List ℕ → Statement
  op_line : Token → Statement
  assign_line : AssignLine → Statement
  -- a chain without steps, and a step of the chain before it
  chain_line : Chain → Statement
  step_line : Step → Statement
  -- a switch with the target of all values that no case or range is for, and a case and a range of the
  -- switch before it
  switch_line : Aim → Statement
  case_line : AimedCase → Statement
  range_line : AimedRange → Statement
  -- an entry of the starting scope
  scope_line : Entry → Statement
  -- the beginning of a block, of which `main` may have this many operands, and the end of one
  main_line : ℕ → Statement
  fn_line : FunctionHeader → Statement
  end_line : Statement
  -- code, of at least one piece, with a position if there is one, and a label
  code_line : Piece → List Piece → Option Position → Statement
  label_line : List ℕ → Statement

-- where the next line stands
abbrev pub section : List Statement → Section
section [] = sections.Start
section (header ∷ before) = sections.Pools
section (main_line n ∷ before) = sections.Block
section (fn_line h ∷ before) = sections.Block
section (end_line ∷ before) = sections.After
section (s ∷ before) = section before

-- the capabilities, the source, the limits and the entries of the pools and of the starting scope
abbrev pub caps : List Statement → Option ℕ
caps [] = None
caps (caps_line bits ∷ before) = Some bits
caps (s ∷ before) = caps before

abbrev pub source : List Statement → Option (List ℕ)
source [] = None
source (source_line t ∷ before) = Some t
source (s ∷ before) = source before

abbrev pub limits : List Statement → List (List ℕ × ℕ)
limits [] = []
limits (limit_line l ∷ before) = limits before ++ l ∷ []
limits (s ∷ before) = limits before

abbrev pub consts : List Statement → List Tree
consts [] = []
consts (const_line v ∷ before) = consts before ++ tree v ∷ []
consts (s ∷ before) = consts before

abbrev pub names : List Statement → List (List ℕ)
names [] = []
names (name_line t ∷ before) = names before ++ t ∷ []
names (s ∷ before) = names before

abbrev pub tokens : List Statement → List Token
tokens [] = []
tokens (op_line t ∷ before) = tokens before ++ t ∷ []
tokens (s ∷ before) = tokens before

abbrev pub assigns : List Statement → List AssignLine
assigns [] = []
assigns (assign_line a ∷ before) = assigns before ++ a ∷ []
assigns (s ∷ before) = assigns before

-- the step at the end of the last chain
abbrev pub with_step : Step → List Chain → List Chain
with_step s [] = []
with_step s (c ∷ []) = record c { steps = c.steps ++ s ∷ [] } ∷ []
with_step s (c ∷ d ∷ cs) = c ∷ with_step s (d ∷ cs)

abbrev pub chains : List Statement → List Chain
chains [] = []
chains (chain_line c ∷ before) = chains before ++ c ∷ []
chains (step_line s ∷ before) = with_step s (chains before)
chains (s ∷ before) = chains before

-- the steps of the last chain
abbrev pub last_steps : List Chain → List Step
last_steps [] = []
last_steps (c ∷ []) = c.steps
last_steps (c ∷ d ∷ cs) = last_steps (d ∷ cs)

-- something done to the last entry of a list
abbrev pub at_last : {A : Type 0} → (A → A) → List A → List A
at_last f [] = []
at_last f (x ∷ []) = f x ∷ []
at_last f (x ∷ y ∷ xs) = x ∷ at_last f (y ∷ xs)

-- what the last entry of a list has
abbrev pub of_last : {A B : Type 0} → (A → List B) → List A → List B
of_last f [] = []
of_last f (x ∷ []) = f x
of_last f (x ∷ y ∷ xs) = of_last f (y ∷ xs)

-- the case, or the range, at the end of the last switch
abbrev pub one_case : AimedCase → AimedSwitch → AimedSwitch
one_case c s = record s { cases = s.cases ++ c ∷ [] }

abbrev pub one_range : AimedRange → AimedSwitch → AimedSwitch
one_range r s = record s { ranges = s.ranges ++ r ∷ [] }

abbrev pub with_case : AimedCase → List AimedSwitch → List AimedSwitch
with_case c ss = at_last (one_case c) ss

abbrev pub with_range : AimedRange → List AimedSwitch → List AimedSwitch
with_range r ss = at_last (one_range r) ss

-- the switches, whose targets may still be labels
abbrev pub switches : List Statement → List AimedSwitch
switches [] = []
switches (switch_line a ∷ before) = switches before ++ switch_to a ∷ []
switches (case_line c ∷ before) = with_case c (switches before)
switches (range_line r ∷ before) = with_range r (switches before)
switches (s ∷ before) = switches before

-- the targets of the switches, of their cases and of their ranges, in the order of the lines
abbrev pub aims : List Statement → List Aim
aims [] = []
aims (switch_line a ∷ before) = aims before ++ a ∷ []
aims (case_line c ∷ before) = aims before ++ c.aim ∷ []
aims (range_line r ∷ before) = aims before ++ r.aim ∷ []
aims (s ∷ before) = aims before

-- the cases and the ranges of the last switch
abbrev pub last_cases : List AimedSwitch → List AimedCase
last_cases ss = of_last (λ s. s.cases) ss

abbrev pub last_ranges : List AimedSwitch → List AimedRange
last_ranges ss = of_last (λ s. s.ranges) ss

-- What may follow besides other lines: steps after a chain and its steps, and cases and ranges after a
-- switch, its cases and its ranges, with empty lines between them.
abbrev pub open_entry : List Statement → Follows
open_entry [] = may.Nothing
open_entry (blank ∷ before) = open_entry before
open_entry (chain_line c ∷ before) = may.Steps
open_entry (step_line s ∷ before) = may.Steps
open_entry (switch_line a ∷ before) = may.Cases
open_entry (case_line c ∷ before) = may.Cases
open_entry (range_line r ∷ before) = may.Cases
open_entry (s ∷ before) = may.Nothing

-- steps may follow
abbrev pub is_chain_open : List Statement → Bool
is_chain_open before = takes_steps (open_entry before)

-- cases and ranges may follow
abbrev pub is_switch_open : List Statement → Bool
is_switch_open before = takes_cases (open_entry before)

abbrev pub scope : List Statement → List Entry
scope [] = []
scope (scope_line e ∷ before) = scope before ++ e ∷ []
scope (s ∷ before) = scope before

-- the flags that are turned
abbrev pub flags : List Statement → List (List ℕ)
flags [] = []
flags (flag_line name ∷ before) = flags before ++ name ∷ []
flags (s ∷ before) = flags before

-- the host: one with empty tables, to which each line of theirs was added
abbrev pub host : List Statement → TableHost
host [] = host_tables.blank
host (fail_line n ∷ before) = failing_at n (host before)
host (stop_line s ∷ before) = stopping_at s.0 s.1 (host before)
host (s ∷ before) = host before

-- the pieces of the code
abbrev pub pieces : List Statement → List Piece
pieces [] = []
pieces (code_line p ps position ∷ before) = pieces before ++ p ∷ ps
pieces (s ∷ before) = pieces before

-- how many bytes the pieces have
abbrev pub width : List Piece → ℕ
width [] = 0
width (Byte b ∷ ps) = 1 + width ps
width (Goto line label ∷ ps) = 4 + width ps

-- the address of what comes after these lines is the width of their pieces
abbrev pub address : List Statement → ℕ
address before = width (pieces before)

-- the addresses of the labels
abbrev pub labels : List Statement → List (List ℕ × ℕ)
labels [] = []
labels (label_line t ∷ before) = (t, address before) ∷ labels before
labels (s ∷ before) = labels before

abbrev pub label_address : List ℕ → List (List ℕ × ℕ) → Option ℕ
label_address t [] = None
label_address t (l ∷ ls) = if bytes_eq t l.0 then Some l.1 else label_address t ls

-- the positions of the instructions and bytes that have one
abbrev pub positions : List Statement → List PositionEntry
positions [] = []
positions (code_line p ps (Some at) ∷ before) =
    positions before ++ record { address = address before; position = at } ∷ []
positions (s ∷ before) = positions before

-- the block that is open: the last `main` or `fn` begins it, unless an `end` comes after
abbrev pub open_block : List Statement → Option OpenBlock
open_block [] = None
open_block (main_line n ∷ before) = Some (blocks.Main (address before) n)
open_block (fn_line h ∷ before) = Some (blocks.Function (address before) h)
open_block (end_line ∷ before) = None
open_block (s ∷ before) = open_block before

-- an `end` at the address ends the block that is open: the main one, or a function's
abbrev pub main_ended : Option OpenBlock → ℕ → Chunk → Chunk
main_ended None a main = main
main_ended (Some (blocks.Main entry n)) a main = record { entry = entry; end = a; max_stack = n }
main_ended (Some (blocks.Function entry h)) a main = main

abbrev pub function_of : ℕ → FunctionHeader → ℕ → Function
function_of entry h a = record {
  name = h.name;
  params = h.params;
  this_type = h.this_type;
  chunk =
      record { entry = entry; end = a; max_stack = h.stack };
}

abbrev pub functions_ended : Option OpenBlock → ℕ → List Function → List Function
functions_ended None a functions = functions
functions_ended (Some (blocks.Main entry n)) a functions = functions
functions_ended (Some (blocks.Function entry h)) a functions =
    functions ++ function_of entry h a ∷ []

abbrev pub main_chunk : List Statement → Chunk
main_chunk [] = record { entry = 0; end = 0; max_stack = 0 }
main_chunk (end_line ∷ before) = main_ended (open_block before) (address before) (main_chunk before)
main_chunk (s ∷ before) = main_chunk before

abbrev pub functions : List Statement → List Function
functions [] = []
functions (end_line ∷ before) =
    functions_ended (open_block before) (address before) (functions before)
functions (s ∷ before) = functions before

abbrev pub bad_line : ℕ → Reason → BadLine
bad_line line reason = record { line = line; reason = reason }

-- the code: the bytes, and at each label its address, the lowest byte first; or the first line
-- that names an unknown label
abbrev pub code_of : List (List ℕ × ℕ) → List Piece → Result (List ℕ) BadLine
code_of labels [] = Ok []
code_of labels (Byte b ∷ ps) = and_then (code_of labels ps) (λ code. Ok (b ∷ code))
code_of labels (Goto line label ∷ ps) =
    and_then (present (bad_line line UnknownLabel) (label_address label labels)) (λ a.
    and_then (code_of labels ps) (λ code. Ok (to_le_bytes w32 a ++ code)))
