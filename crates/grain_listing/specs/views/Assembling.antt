-- What the assembler has, as lists and numbers, and what each of its steps does.
use Rattle.std.specs.Prelude.{ℕ, ◌<◌, ◌-◌, ◌^◌, Bool, true, false, List, [], ◌∷◌, ◌++◌, length, Option, Some, None, is_some, Result, Ok, Err, if◌then◌else◌}
use Rattle.std.specs.Str.{encode_utf8_all}
use Rattle.std.specs.Int.{w16, w32, to_le_bytes}
use Rattle.grain_value.specs.Tree.{Tree}
use Rattle.grain_value.specs.View.{tree}
use Rattle.grain_value.specs.declared.tokens.Token.{Token}
use Rattle.grain_value.specs.declared.scopes.Entry.{Entry}
use Rattle.grain_fault.specs.declared.places.Position.{Position}
use Rattle.grain_host.specs.Tables as host_tables
use Rattle.grain_host.specs.Tables.{failing_at, stopping_at}
use Rattle.grain_host.specs.declared.tables.TableHost.{TableHost}
use Rattle.grain_program.specs.declared.code.chains.Chain.{Chain}
use Rattle.grain_program.specs.declared.code.parts.Chunk.{Chunk}
use Rattle.grain_program.specs.declared.code.parts.PositionEntry.{PositionEntry}
use Rattle.grain_program.specs.declared.code.functions.Function.{Function}
use Rattle.grain_words.specs.Numerals.{number, begins_letter}
use Rattle.grain_words.specs.Labels.{Addresses, address_of, with_label}
use Rattle.grain_words.specs.Words.{is_over, next_word}
use Rattle.grain_literals.specs.Steps.{and_then, present}
use Rattle.grain_literals.specs.Operands.{word_operand, alone, position_after, byte_of}
use Rattle.grain_literals.specs.Literals.{constant_of, text_of, token_of, entry_of}
use Rattle.grain_literals.specs.declared.reasons.Reason.{Reason}
use Rattle.grain_literals.specs.declared.reasons.Reason.TheVariants.{UnknownWord, OutOfPlace, BadOperand, LabelTwice, NotBuilt}
use Rattle.grain_listing.specs.Settings.{capability_bits, capabilities}
use Rattle.grain_listing.specs.Flags.{flag_of}
use Rattle.grain_listing.specs.HostLines.{fail_of, stop_of}
use Rattle.grain_listing.specs.Headers.{stack_of, assign_of, header_of}
use Rattle.grain_listing.specs.ChainWords.{chain_of, step_of}
use Rattle.grain_listing.specs.SwitchWords.{aim_of, switch_to, case_of, range_of}
use Rattle.grain_program.specs.InstructionSet.{tag_of, fields_of}
use Rattle.grain_listing.specs.Instructions.{kinds_of}
use Rattle.grain_listing.specs.Table.{line_of, stands, is_block, takes_steps, takes_cases, opened_by}
use Rattle.grain_listing.specs.Statements.{Statement, with_step, last_steps, with_case, with_range, last_cases, last_ranges, main_ended, functions_ended}
use Rattle.grain_listing.specs.LineMeanings
use Rattle.grain_listing.specs.LineMeanings.{limit_set, in_pool, in_list, before_colon, header_said}
use Rattle.grain_listing.specs.declared.assembler.Fixup.{Fixup}
use Rattle.grain_listing.specs.declared.switch_words.Aim.{Aim}
use Rattle.grain_listing.specs.declared.switch_words.AimedSwitch.{AimedSwitch}
use Rattle.grain_listing.specs.declared.blocks.OpenBlock.{OpenBlock}
use Rattle.grain_listing.specs.declared.blocks.OpenBlock.TheVariants as blocks
use Rattle.grain_listing.specs.declared.headers.AssignLine.{AssignLine}
use Rattle.grain_listing.specs.declared.table.Line.{Line}
use Rattle.grain_listing.specs.declared.table.Line.TheVariants as lines
use Rattle.grain_listing.specs.declared.table.OperandKind.{OperandKind}
use Rattle.grain_listing.specs.declared.table.OperandKind.TheVariants as kinds
use Rattle.grain_listing.specs.declared.table.Follows.{Follows}
use Rattle.grain_listing.specs.declared.table.Follows.TheVariants as may
use Rattle.grain_listing.specs.declared.table.Section.{Section}
use Rattle.grain_listing.specs.declared.table.Section.TheVariants as sections

-- what the lines so far have given, and the number of the line that is read
pub record AssemblerView : Type 0 where
  pub line : ℕ
  pub section : Section
  pub caps : Option ℕ
  pub source : Option (List ℕ)
  pub limits : List (List ℕ × ℕ)
  pub flags : List (List ℕ)
  pub host : TableHost
  pub scope : List Entry
  pub consts : List Tree
  pub names : List (List ℕ)
  pub tokens : List Token
  pub assigns : List AssignLine
  pub chains : List Chain
  pub switches : List AimedSwitch
  pub aims : List Aim
  pub follows : Follows
  pub block : Option OpenBlock
  pub main : Chunk
  pub functions : List Function
  pub code : List ℕ
  pub positions : List PositionEntry
  pub labels : Addresses
  pub fixups : List Fixup

abbrev pub empty : AssemblerView
empty =
    record {
      line = 0;
      section = sections.Start;
      caps = None;
      source = None;
      limits = [];
      flags = [];
      host = host_tables.blank;
      scope = [];
      consts = [];
      names = [];
      tokens = [];
      assigns = [];
      chains = [];
      switches = [];
      aims = [];
      follows = may.Nothing;
      block = None;
      main = record { entry = 0; end = 0; max_stack = 0 };
      functions = [];
      code = [];
      positions = [];
      labels = [];
      fixups = [];
    }

-- bytes at the end of the code
abbrev pub with_code : List ℕ → AssemblerView → AssemblerView
with_code bytes v = record v { code = v.code ++ bytes }

-- a label in the code: four bytes that get its address when all lines were read
abbrev pub with_fixup : List ℕ → AssemblerView → AssemblerView
with_fixup label v =
    record v {
      code = v.code ++ 0 ∷ 0 ∷ 0 ∷ 0 ∷ [];
      fixups = v.fixups ++ record { line = v.line; at = length v.code; label = label } ∷ [];
    }

-- the position of the instruction at the address, if it has one
abbrev pub with_position : ℕ → Option Position → AssemblerView → AssemblerView
with_position address None v = v
with_position address (Some p) v =
    record v { positions = v.positions ++ record { address = address; position = p } ∷ [] }

-- an operand of one word, the lowest byte first; a target that begins with a letter is a label
abbrev pub put_operand_word : OperandKind → List ℕ → AssemblerView → Result AssemblerView Reason
put_operand_word kinds.Byte w v = and_then (present BadOperand (number 255 w))
    (λ n. Ok (with_code (n ∷ []) v))
put_operand_word kinds.Index w v = and_then (present BadOperand (number 65535 w))
    (λ n. Ok (with_code (to_le_bytes w16 n) v))
put_operand_word kinds.Target w v =
    if begins_letter w then Ok (with_fixup (encode_utf8_all w) v)
    else and_then (present BadOperand (number (2 ^ 32 - 1) w))
    (λ n. Ok (with_code (to_le_bytes w32 n) v))

abbrev pub put_operand : OperandKind → List ℕ → AssemblerView →
    Result (AssemblerView × List ℕ) Reason
put_operand k cs v =
    and_then (word_operand cs) (λ a. and_then (put_operand_word k a.0 v) (λ u. Ok (u, a.1)))

-- the operands of the instruction at the address, and its position after them
abbrev pub put_operands : ℕ → List OperandKind → List ℕ → AssemblerView →
    Result AssemblerView Reason
put_operands address [] cs v = and_then (position_after cs) (λ p. Ok (with_position address p v))
put_operands address (k ∷ ks) cs v =
    and_then (put_operand k cs v) (λ a. put_operands address ks a.1 a.0)

-- the address of what comes next has 32 bits
abbrev pub HasRoom : AssemblerView → Type 0
HasRoom v = length v.code < 2 ^ 32

-- each limit is set once
abbrev pub unset : List ℕ → AssemblerView → Result (Unit {0}) Reason
unset name v = LineMeanings.unset name v.limits

abbrev pub limit_line : List ℕ → AssemblerView → Result (List ℕ × ℕ) Reason
limit_line cs v = limit_set cs v.limits

-- the block is over at the address
abbrev pub with_block : ℕ → OpenBlock → AssemblerView → AssemblerView
with_block a b v = record v {
  main = main_ended (Some b) a v.main;
  functions =
      functions_ended (Some b) a v.functions;
}

-- the block that is open, if one is, is over at the address
abbrev pub closed : ℕ → Option OpenBlock → AssemblerView → AssemblerView
closed a b v = record v {
  section = sections.After;
  block = None;
  main = main_ended b a v.main;
  functions = functions_ended b a v.functions;
}

-- after `fn`: a function's block begins at the address
abbrev pub opened : ℕ → List ℕ → AssemblerView → Result AssemblerView Reason
opened a cs v = and_then (header_of cs)
    (λ h. Ok (record v { section = sections.Block; block = Some (blocks.Function a h) }))

-- an aim more, and these switches
abbrev pub with_aim : Aim → List AimedSwitch → AssemblerView → AssemblerView
with_aim a switches v = record v { switches = switches; aims = v.aims ++ a ∷ [] }

-- a line that begins with a word of the table
abbrev pub put_line : Line → List ℕ → AssemblerView → Result AssemblerView Reason
put_line lines.Header cs v = Err OutOfPlace
put_line lines.Capabilities cs v =
    if is_some v.caps then Err OutOfPlace else
    and_then (capabilities capability_bits cs) (λ bits. Ok (record v { caps = Some bits }))
put_line lines.Source cs v =
    if is_some v.source then Err OutOfPlace else
    and_then (text_of cs) (λ t. Ok (record v { source = Some t }))
put_line lines.Limit cs v = and_then (limit_line cs v)
    (λ l. Ok (record v { limits = v.limits ++ l ∷ [] }))
put_line lines.Constant cs v = in_pool v.consts
    (and_then (constant_of cs) (λ c. Ok (record v { consts = v.consts ++ tree c ∷ [] })))
put_line lines.Name cs v = in_pool v.names
    (and_then (text_of cs) (λ t. Ok (record v { names = v.names ++ t ∷ [] })))
put_line lines.Operator cs v = in_pool v.tokens
    (and_then (token_of cs) (λ t. Ok (record v { tokens = v.tokens ++ t ∷ [] })))
put_line lines.Assign cs v =
    in_pool v.assigns (and_then (assign_of v.line cs)
    (λ a. Ok (record v { assigns = v.assigns ++ a ∷ [] })))
put_line lines.Chain cs v = in_pool v.chains
    (and_then (chain_of cs) (λ c. Ok (record v { chains = v.chains ++ c ∷ [] })))
put_line lines.Step cs v =
    if takes_steps v.follows then
    in_pool (last_steps v.chains)
    (and_then (step_of cs) (λ s. Ok (record v { chains = with_step s v.chains })))
    else Err OutOfPlace
put_line lines.Switch cs v =
    in_pool v.switches
    (and_then (aim_of v.line cs) (λ a. Ok (with_aim a (v.switches ++ switch_to a ∷ []) v)))
put_line lines.Case cs v =
    if takes_cases v.follows then
    in_pool (last_cases v.switches)
    (and_then (case_of v.line cs) (λ c. Ok (with_aim c.aim (with_case c v.switches) v)))
    else Err OutOfPlace
put_line (lines.Range inclusive) cs v =
    if takes_cases v.follows then
    in_pool (last_ranges v.switches)
    (and_then (range_of inclusive v.line cs)
    (λ r. Ok (with_aim r.aim (with_range r v.switches) v)))
    else Err OutOfPlace
put_line lines.Entry cs v = and_then (entry_of cs)
    (λ e. Ok (record v { scope = v.scope ++ e ∷ [] }))
put_line lines.Flag cs v = and_then (flag_of cs)
    (λ name. Ok (record v { flags = v.flags ++ name ∷ [] }))
put_line lines.Fail cs v = and_then (fail_of cs)
    (λ n. Ok (record v { host = failing_at n v.host }))
put_line lines.Stop cs v = and_then (stop_of cs)
    (λ s. Ok (record v { host = stopping_at s.0 s.1 v.host }))
put_line lines.Main cs v =
    and_then (stack_of cs) (λ n. Ok
    (record v { section = sections.Block; block = Some (blocks.Main (length v.code) n) }))
put_line lines.Function cs v =
    in_pool v.functions (in_list cs (opened (length v.code) cs v))
put_line lines.Byte cs v =
    and_then (byte_of cs) (λ b. Ok (with_position (length v.code) b.1 (with_code (b.0 ∷ []) v)))
put_line lines.End cs v = alone cs (closed (length v.code) v.block v)
put_line (lines.Instruction o) cs v =
    put_operands (length v.code) (kinds_of (fields_of o)) cs (with_code (tag_of o ∷ []) v)
put_line lines.Later cs v = Err NotBuilt

-- a label, alone on its line in the block, that no line before it has
abbrev pub put_label : List ℕ → List ℕ → AssemblerView → Result AssemblerView Reason
put_label t cs v =
    if is_block v.section then
    (if is_some (address_of t v.labels) then Err LabelTwice
    else alone cs (record v { labels = with_label t (length v.code) v.labels }))
    else Err OutOfPlace

abbrev pub label_line : Option (List ℕ) → List ℕ → AssemblerView → Result AssemblerView Reason
label_line None cs v = Err UnknownWord
label_line (Some t) cs v =
    if begins_letter t then put_label (encode_utf8_all t) cs v else Err UnknownWord

abbrev pub known_line : Option Line → List ℕ → List ℕ → AssemblerView →
    Result AssemblerView Reason
known_line None w cs v = label_line (before_colon w) cs v
known_line (Some l) w cs v = if stands l v.section then put_line l cs v else Err OutOfPlace

-- the header: `grain 1`
abbrev pub with_header : Result Statement Reason → AssemblerView → Result AssemblerView Reason
with_header (Ok s) v = Ok (record v { section = sections.Pools; follows = may.Nothing })
with_header (Err e) v = Err e

abbrev pub is_start : Section → Bool
is_start sections.Start = true
is_start s = false

-- a line after the header; it says what may follow
abbrev pub put_known : Option Line → List ℕ → List ℕ → AssemblerView → Result AssemblerView Reason
put_known l w cs v =
    and_then (known_line l w cs v) (λ u. Ok (record u { follows = opened_by l }))

abbrev pub after_header : Option (List ℕ × List ℕ) → AssemblerView → Result AssemblerView Reason
after_header None v = Err UnknownWord
after_header (Some a) v = put_known (line_of (is_some v.block) a.0) a.0 a.1 v

-- one more line; one without a word gives nothing
abbrev pub take_line : List ℕ → AssemblerView → Result AssemblerView Reason
take_line cs v =
    if is_over cs then Ok v
    else (if is_start v.section then with_header (header_said cs) v
    else after_header (next_word cs) v)
