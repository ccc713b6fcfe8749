-- What a line says, after those before it. Of its words the first that is wrong decides, and so
-- does a line that may not stand where it stands, by its first word.
use Rattle.std.specs.Prelude.{ℕ, ◌+◌, ◌-◌, ◌^◌, List, [], ◌∷◌, ◌++◌, length, Option, Some, None, option_map, is_some, Result, Ok, Err, codes, ◌==◌, nat_lt, if◌then◌else◌}
use Rattle.std.specs.Int.{w16, w32, to_le_bytes}
use Rattle.grain_fault.specs.declared.places.Position.{Position}
use Rattle.std.specs.Str.{encode_utf8_all}
use Rattle.grain_words.specs.Words.{is_over, next_word}
use Rattle.grain_words.specs.Numerals.{number, begins_letter}
use Rattle.grain_literals.specs.Steps.{and_then, present}
use Rattle.grain_literals.specs.Operands.{word_operand, after_name, alone, position_after, byte_of}
use Rattle.grain_literals.specs.Literals.{constant_of, text_of, token_of, entry_of}
use Rattle.grain_literals.specs.declared.reasons.Reason.{Reason}
use Rattle.grain_literals.specs.declared.reasons.Reason.TheVariants.{MissingHeader, UnknownWord, OutOfPlace, TooMany, BadOperand, LabelTwice, NotBuilt}
use Rattle.grain_listing.specs.Settings.{entry_named, limit_named, limit_number, capability_bits, capabilities}
use Rattle.grain_listing.specs.Flags.{flag_of}
use Rattle.grain_listing.specs.HostLines.{fail_of, stop_of}
use Rattle.grain_listing.specs.Headers.{stack_of, assign_of, header_of, is_crowded}
use Rattle.grain_listing.specs.ChainWords.{chain_of, step_of}
use Rattle.grain_listing.specs.SwitchWords.{aim_of, case_of, range_of}
use Rattle.grain_program.specs.InstructionSet.{tag_of, fields_of}
use Rattle.grain_listing.specs.Instructions.{kinds_of}
use Rattle.grain_listing.specs.Table.{line_of, stands, is_block}
use Rattle.grain_listing.specs.Statements.{Piece, Byte, Goto, Statement, blank, header, caps_line, source_line, limit_line, flag_line, fail_line, stop_line, const_line, name_line, op_line, assign_line, chain_line, step_line, switch_line, case_line, range_line, scope_line, main_line, fn_line, end_line, code_line, label_line, section, caps, source, limits, consts, names, tokens, assigns, chains, last_steps, switches, last_cases, last_ranges, is_chain_open, is_switch_open, functions, labels, label_address, open_block, bad_line}
use Rattle.grain_listing.specs.declared.table.Line.{Line}
use Rattle.grain_listing.specs.declared.table.Line.TheVariants as lines
use Rattle.grain_listing.specs.declared.table.OperandKind.{OperandKind}
use Rattle.grain_listing.specs.declared.table.OperandKind.TheVariants as kinds
use Rattle.grain_listing.specs.declared.table.Section.{Section}
use Rattle.grain_listing.specs.declared.table.Section.TheVariants as sections
use Rattle.grain_listing.specs.declared.reasons.BadLine.{BadLine}

-- bytes as pieces
abbrev pub bytes : List ℕ → List Piece
bytes [] = []
bytes (b ∷ bs) = Byte b ∷ bytes bs

-- an operand of one word, the lowest byte first; a target that begins with a letter is a label
abbrev pub operand : ℕ → OperandKind → List ℕ → Result (List Piece) Reason
operand line kinds.Byte w = and_then (present BadOperand (number 255 w)) (λ n. Ok (bytes (n ∷ [])))
operand line kinds.Index w = and_then (present BadOperand (number 65535 w))
    (λ n. Ok (bytes (to_le_bytes w16 n)))
operand line kinds.Target w =
    if begins_letter w then Ok (Goto line (encode_utf8_all w) ∷ [])
    else and_then (present BadOperand (number (2 ^ 32 - 1) w)) (λ n. Ok (bytes (to_le_bytes w32 n)))

abbrev pub code_operand : ℕ → OperandKind → List ℕ → Result (List Piece × List ℕ) Reason
code_operand line k cs =
    and_then (word_operand cs) (λ a. and_then (operand line k a.0) (λ ps. Ok (ps, a.1)))

-- an instruction's operands, and its position after them if it has one
abbrev pub operands : ℕ → List OperandKind → List ℕ →
    Result (List Piece × Option Position) Reason
operands line [] cs = and_then (position_after cs) (λ p. Ok ([], p))
operands line (k ∷ ks) cs =
    and_then (code_operand line k cs)
    (λ a. and_then (operands line ks a.1) (λ o. Ok (a.0 ++ o.0, o.1)))

-- a pool has at most 65,536 entries, and so has a list of an entry
abbrev pub in_pool : {A B : Type 0} → List A → Result B Reason → Result B Reason
in_pool entries more = if nat_lt (length entries) 65536 then more else Err TooMany

-- a function has at most 65,536 parameters
abbrev pub in_list : {B : Type 0} → List ℕ → Result B Reason → Result B Reason
in_list cs more = if is_crowded cs then Err TooMany else more

-- each limit is set once
abbrev pub unset : List ℕ → List (List ℕ × ℕ) → Result (Unit {0}) Reason
unset name before = if is_some (entry_named name before) then Err OutOfPlace else Ok tt

-- a limit's name and its number
abbrev pub limit_set : List ℕ → List (List ℕ × ℕ) → Result (List ℕ × ℕ) Reason
limit_set cs before =
    and_then (word_operand cs) (λ a. and_then (limit_named a.0)
    (λ l. and_then (unset l.0 before)
    (λ _. and_then (limit_number l.1 a.1) (λ n. Ok (l.0, n)))))

-- a line that begins with a word of the table, by what is left after it
abbrev pub statement : Line → ℕ → List ℕ → List Statement → Result Statement Reason
statement lines.Header n cs before = Err OutOfPlace
statement lines.Capabilities n cs before =
    if is_some (caps before) then Err OutOfPlace else
    and_then (capabilities capability_bits cs) (λ bits. Ok (caps_line bits))
statement lines.Source n cs before =
    if is_some (source before) then Err OutOfPlace else
    and_then (text_of cs) (λ t. Ok (source_line t))
statement lines.Limit n cs before = and_then (limit_set cs (limits before)) (λ l. Ok (limit_line l))
statement lines.Constant n cs before =
    in_pool (consts before) (and_then (constant_of cs) (λ v. Ok (const_line v)))
statement lines.Name n cs before =
    in_pool (names before) (and_then (text_of cs) (λ t. Ok (name_line t)))
statement lines.Operator n cs before =
    in_pool (tokens before) (and_then (token_of cs) (λ t. Ok (op_line t)))
statement lines.Assign n cs before =
    in_pool (assigns before) (and_then (assign_of n cs) (λ a. Ok (assign_line a)))
statement lines.Chain n cs before =
    in_pool (chains before) (and_then (chain_of cs) (λ c. Ok (chain_line c)))
statement lines.Step n cs before =
    if is_chain_open before then
    in_pool (last_steps (chains before)) (and_then (step_of cs) (λ s. Ok (step_line s)))
    else Err OutOfPlace
statement lines.Switch n cs before =
    in_pool (switches before) (and_then (aim_of n cs) (λ a. Ok (switch_line a)))
statement lines.Case n cs before =
    if is_switch_open before then
    in_pool (last_cases (switches before)) (and_then (case_of n cs) (λ c. Ok (case_line c)))
    else Err OutOfPlace
statement (lines.Range inclusive) n cs before =
    if is_switch_open before then
    in_pool (last_ranges (switches before))
    (and_then (range_of inclusive n cs) (λ r. Ok (range_line r)))
    else Err OutOfPlace
statement lines.Entry n cs before = and_then (entry_of cs) (λ e. Ok (scope_line e))
statement lines.Flag n cs before = and_then (flag_of cs) (λ name. Ok (flag_line name))
statement lines.Fail n cs before = and_then (fail_of cs) (λ k. Ok (fail_line k))
statement lines.Stop n cs before = and_then (stop_of cs) (λ s. Ok (stop_line s))
statement lines.Main n cs before = and_then (stack_of cs) (λ m. Ok (main_line m))
statement lines.Function n cs before =
    in_pool (functions before) (in_list cs
    (and_then (header_of cs) (λ h. Ok (fn_line h))))
statement lines.Byte n cs before = and_then (byte_of cs) (λ b. Ok (code_line (Byte b.0) [] b.1))
statement lines.End n cs before = alone cs end_line
statement (lines.Instruction o) n cs before =
    and_then (operands n (kinds_of (fields_of o)) cs)
    (λ a. Ok (code_line (Byte (tag_of o)) a.0 a.1))
statement lines.Later n cs before = Err NotBuilt

-- the text before a colon at the end of a word
abbrev pub before_colon : List ℕ → Option (List ℕ)
before_colon [] = None
before_colon (c ∷ []) = if c == 58 then Some [] else None
before_colon (c ∷ d ∷ cs) = option_map (λ t. c ∷ t) (before_colon (d ∷ cs))

-- a label, alone on its line in a block, that no line before it has
abbrev pub label_said : List ℕ → List ℕ → List Statement → Result Statement Reason
label_said t cs before =
    if is_block (section before) then
    (if is_some (label_address t (labels before)) then Err LabelTwice
    else alone cs (label_line t))
    else Err OutOfPlace

-- a label begins with a letter
abbrev pub labelled : Option (List ℕ) → List ℕ → List Statement → Result Statement Reason
labelled None cs before = Err UnknownWord
labelled (Some t) cs before =
    if begins_letter t then label_said (encode_utf8_all t) cs before else Err UnknownWord

-- a line of the table, if it may stand here, or else a label
abbrev pub known : Option Line → ℕ → List ℕ → List ℕ → List Statement → Result Statement Reason
known None n w cs before = labelled (before_colon w) cs before
known (Some l) n w cs before = if stands l (section before) then statement l n cs before else
    Err OutOfPlace

-- the header is `grain 1`
abbrev pub header_end : Option (List ℕ) → Result Statement Reason
header_end None = Err MissingHeader
header_end (Some cs) = if is_over cs then Ok header else Err MissingHeader

abbrev pub header_number : Option (List ℕ) → Result Statement Reason
header_number None = Err MissingHeader
header_number (Some cs) = header_end (after_name (codes "1") cs)

abbrev pub header_said : List ℕ → Result Statement Reason
header_said cs = header_number (after_name (codes "grain") cs)

-- after the header, by the line's first word, which has no quotes
abbrev pub begun_by : Option (List ℕ × List ℕ) → ℕ → List Statement → Result Statement Reason
begun_by None n before = Err UnknownWord
begun_by (Some a) n before = known (line_of (is_some (open_block before)) a.0) n a.0 a.1 before

-- the first line that is not empty is the header
abbrev pub in_section : Section → ℕ → List ℕ → List Statement → Result Statement Reason
in_section sections.Start n cs before = header_said cs
in_section sections.Pools n cs before = begun_by (next_word cs) n before
in_section sections.Block n cs before = begun_by (next_word cs) n before
in_section sections.After n cs before = begun_by (next_word cs) n before

-- what the nth line says, which has these characters, after those before it; one without a word is
-- empty
abbrev pub says : ℕ → List ℕ → List Statement → Result Statement Reason
says n cs before = if is_over cs then Ok blank else in_section (section before) n cs before

-- the reason with its line
abbrev pub at_line : {A : Type 0} → ℕ → Result A Reason → Result A BadLine
at_line n (Ok x) = Ok x
at_line n (Err e) = Err (bad_line n e)

-- what all lines say, the last one first: n lines before them, and then these; or the first line
-- that is wrong
abbrev pub statements : ℕ → List Statement → List (List ℕ) → Result (List Statement) BadLine
statements n before [] = Ok before
statements n before (l ∷ ls) =
    and_then (at_line (n + 1) (says (n + 1) l before))
    (λ s. statements (n + 1) (s ∷ before) ls)
