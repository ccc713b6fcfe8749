-- One more line: what it says is what the assembler takes.
use Rattle.std.proofs.Common.{◌≡◌, ℕ, ◌-◌, ◌^◌, Bool, true, false, cond, nat_lt, codes, is_some, List, [], ◌∷◌, ◌++◌, length, Option, Some, None, Result, Ok, Err, refl, sym, ap, ◌∙◌, append-nil}
use Rattle.std.specs.Str.{encode_utf8_all}
use Rattle.grain_words.specs.Words.{is_over, next_word}
use Rattle.std.specs.Int.{w16, w32, to_le_bytes}
use Rattle.grain_fault.specs.declared.places.Position.{Position}
use Rattle.grain_words.specs.Labels.{address_of, with_label}
use Rattle.grain_words.specs.Numerals.{number, begins_letter}
use Rattle.grain_literals.specs.Steps.{and_then, present}
use Rattle.grain_literals.specs.Operands.{word_operand, after_name, alone, position_after, byte_of}
use Rattle.grain_value.specs.View.{tree}
use Rattle.grain_literals.specs.Literals.{constant_of, text_of, token_of, entry_of}
use Rattle.grain_literals.specs.declared.reasons.Reason.{Reason}
use Rattle.grain_literals.specs.declared.reasons.Reason.TheVariants.{MissingHeader, UnknownWord, OutOfPlace, TooMany, BadOperand, LabelTwice}
use Rattle.grain_listing.specs.Settings.{capability_bits, capabilities}
use Rattle.grain_host.specs.Tables.{failing_at, stopping_at}
use Rattle.grain_listing.specs.Flags.{flag_of}
use Rattle.grain_listing.specs.HostLines.{fail_of, stop_of}
use Rattle.grain_listing.specs.Headers.{stack_of, assign_of, header_of, is_crowded}
use Rattle.grain_listing.specs.ChainWords.{chain_of, step_of}
use Rattle.grain_listing.specs.SwitchWords.{aim_of, switch_to, case_of, range_of}
use Rattle.grain_program.specs.declared.code.instruction_set.Op.{Op}
use Rattle.grain_program.specs.InstructionSet.{tag_of, fields_of}
use Rattle.grain_listing.specs.Instructions.{kinds_of}
use Rattle.grain_listing.specs.Table.{line_of, stands, is_block, opened_by}
use Rattle.grain_listing.specs.Statements.{Piece, Byte, Goto, Statement, blank, header, caps_line, source_line, limit_line, flag_line, fail_line, stop_line, const_line, name_line, op_line, assign_line, chain_line, step_line, switch_line, case_line, range_line, scope_line, main_line, fn_line, end_line, code_line, label_line, section, caps, source, limits, flags, host, consts, names, tokens, assigns, chains, with_step, last_steps, switches, with_case, with_range, last_cases, last_ranges, open_entry, is_chain_open, is_switch_open, functions, labels, label_address, address, open_block}
use Rattle.grain_listing.specs.LineMeanings.{bytes, operand, code_operand, operands, in_list, limit_set, statement, before_colon, label_said, labelled, known, header_end, header_number, header_said, begun_by, in_section, says}
use Rattle.grain_listing.specs.views.Assembling
use Rattle.grain_listing.specs.views.Assembling.{AssemblerView, with_code, with_fixup, with_position, put_operand_word, put_operand, put_operands, closed, opened, put_line, put_label, known_line, with_aim, put_known, with_header, is_start, after_header, take_line}
use Rattle.grain_listing.specs.declared.blocks.OpenBlock.TheVariants as blocks
use Rattle.grain_listing.specs.declared.headers.FunctionHeader.{FunctionHeader}
use Rattle.grain_listing.specs.declared.table.Follows.{Follows}
use Rattle.grain_listing.specs.declared.table.Line.{Line}
use Rattle.grain_listing.specs.declared.table.Line.TheVariants as lines
use Rattle.grain_listing.specs.declared.table.OperandKind.{OperandKind}
use Rattle.grain_listing.specs.declared.table.OperandKind.TheVariants as kinds
use Rattle.grain_listing.specs.declared.table.Section.{Section}
use Rattle.grain_listing.specs.declared.table.Section.TheVariants as sections
use Rattle.grain_listing.proofs.Assembled.{assembled, with_pieces, bytes_put, put_twice, sized, blank_code, label_map}
use Rattle.grain_listing.proofs.FoundLabels.{found}
use Rattle.grain_listing.proofs.Opens.{Opens, known_opens}

abbrev pub given : AssemblerView → Result AssemblerView Reason
given v = Ok v

abbrev given_with : List ℕ → AssemblerView → Result (AssemblerView × List ℕ) Reason
given_with rest v = Ok (v, rest)

abbrev read_with : List ℕ → List Piece → Result (List Piece × List ℕ) Reason
read_with rest ps = Ok (ps, rest)

abbrev Outcome : Type 0
Outcome = Result AssemblerView Reason

-- what the assembler has after one more statement
abbrev pub next : ℕ → List Statement → Statement → Outcome
next n said s = Ok (assembled n (s ∷ said))

-- the same, but that what may follow is as it was
abbrev as_before : ℕ → List Statement → Statement → AssemblerView
as_before n said s = record (assembled n (s ∷ said)) { follows = open_entry said }

abbrev pub kept : ℕ → List Statement → Statement → Outcome
kept n said s = Ok (as_before n said s)

step : {A : Type 0} (n : ℕ) (said : List Statement) (r : Result A Reason) (put : A →
    AssemblerView) (say : A → Statement) → ((x : A) → put x ≡ as_before n said (say x)) →
    and_then r (λ x. given (put x)) ≡ and_then (and_then r (λ x. Ok (say x))) (kept n said)
step n said (Ok x) put say same = ap given (same x)
step n said (Err e) put say same = refl

-- under a test, and under one that refuses
if_so : (n : ℕ) (said : List Statement) (b : Bool) (e : Reason) (x : Outcome)
    (y : Result Statement Reason) → x ≡ and_then y (kept n said) →
    cond b x (Err e) ≡ and_then (cond b y (Err e)) (kept n said)
if_so n said true e x y h = h
if_so n said false e x y h = refl

if_not : (n : ℕ) (said : List Statement) (b : Bool) (e : Reason) (x : Outcome)
    (y : Result Statement Reason) → x ≡ and_then y (kept n said) →
    cond b (Err e) x ≡ and_then (cond b (Err e) y) (kept n said)
if_not n said true e x y h = refl
if_not n said false e x y h = h

-- at the address of what comes next
at_next : (n : ℕ) (said : List Statement) (f : ℕ → Outcome) (y : Result Statement Reason) →
    f (address said) ≡ and_then y (kept n said) →
    f (length (blank_code said)) ≡ and_then y (kept n said)
at_next n said f y h = ap f (sized said) ∙ h

alone_said : (n : ℕ) (said : List Statement) (cs : List ℕ) (v : AssemblerView) (s : Statement) →
    v ≡ as_before n said s → alone cs v ≡ and_then (alone cs s) (kept n said)
alone_said n said cs v s e = at (is_over cs) where
  at : (b : Bool) → cond b (given v) (Err BadOperand) ≡
      and_then (cond b (Ok s) (Err BadOperand)) (kept n said)
  at true = ap given e
  at false = refl

-- an operand's bytes are put as its pieces
number_put : (most : ℕ) (w : List ℕ) (spelled : ℕ → List ℕ) (v : AssemblerView) →
    and_then (present BadOperand (number most w)) (λ x. given (with_code (spelled x) v)) ≡
    and_then (and_then (present BadOperand (number most w)) (λ x. Ok (bytes (spelled x))))
    (λ ps. Ok (with_pieces ps v))
number_put most w spelled v = at (number most w) where
  at : (o : Option ℕ) → and_then (present BadOperand o) (λ x. given (with_code (spelled x) v)) ≡
      and_then (and_then (present BadOperand o) (λ x. Ok (bytes (spelled x))))
      (λ ps. Ok (with_pieces ps v))
  at None = refl
  at (Some x) = ap given (bytes_put (spelled x) v)

target_put : (b : Bool) (w : List ℕ) (v : AssemblerView) →
    cond b (given (with_fixup (encode_utf8_all w) v))
    (and_then (present BadOperand (number (2 ^ 32 - 1) w))
    (λ x. Ok (with_code (to_le_bytes w32 x) v))) ≡
    and_then (cond b (Ok (Goto v.line (encode_utf8_all w) ∷ []))
    (and_then (present BadOperand (number (2 ^ 32 - 1) w)) (λ x. Ok (bytes (to_le_bytes w32 x)))))
    (λ ps. Ok (with_pieces ps v))
target_put true w v = refl
target_put false w v = number_put (2 ^ 32 - 1) w (λ x. to_le_bytes w32 x) v

word_put : (k : OperandKind) (w : List ℕ) (v : AssemblerView) →
    put_operand_word k w v ≡ and_then (operand v.line k w) (λ ps. Ok (with_pieces ps v))
word_put kinds.Byte w v = number_put 255 w (λ x. x ∷ []) v
word_put kinds.Index w v = number_put 65535 w (λ x. to_le_bytes w16 x) v
word_put kinds.Target w v = target_put (begins_letter w) w v

operand_put : (k : OperandKind) (cs : List ℕ) (v : AssemblerView) →
    put_operand k cs v ≡
    and_then (code_operand v.line k cs) (λ a. given_with a.1 (with_pieces a.0 v))
operand_put k cs v = at (word_operand cs) where
  within : (rest : List ℕ) (r : Result (List Piece) Reason) →
      and_then (and_then r (λ ps. given (with_pieces ps v))) (λ u. given_with rest u) ≡
      and_then (and_then r (λ ps. read_with rest ps)) (λ a. given_with a.1 (with_pieces a.0 v))
  within rest (Ok ps) = refl
  within rest (Err e) = refl

  at : (r : Result (List ℕ × List ℕ) Reason) →
      and_then r (λ a. and_then (put_operand_word k a.0 v) (λ u. given_with a.1 u)) ≡
      and_then (and_then r (λ a. and_then (operand v.line k a.0) (λ ps. read_with a.1 ps)))
      (λ a. given_with a.1 (with_pieces a.0 v))
  at (Ok a) = ap (λ (p : Outcome). and_then p (λ u. given_with a.1 u)) (word_put k a.0 v) ∙
      within a.1 (operand v.line k a.0)
  at (Err e) = refl

-- operands and a position at the address
abbrev put : ℕ → AssemblerView → List Piece × Option Position → Outcome
put a v x = Ok (with_position a x.1 (with_pieces x.0 v))

abbrev pieces_first : List Piece → Result (List Piece × Option Position) Reason →
    Result (List Piece × Option Position) Reason
pieces_first ps r = and_then r (λ x. Ok (ps ++ x.0, x.1))

onward : (a : ℕ) (ps : List Piece) (v : AssemblerView)
    (r : Result (List Piece × Option Position) Reason) →
    and_then r (put a (with_pieces ps v)) ≡ and_then (pieces_first ps r) (put a v)
onward a ps v (Ok x) = ap (λ u. given (with_position a x.1 u)) (put_twice ps x.0 v)
onward a ps v (Err e) = refl

bytes_none : (v : AssemblerView) → v ≡ with_code [] v
bytes_none v = ap (λ c. record v { code = c }) (sym (append-nil v.code))

nothing_put : (v : AssemblerView) → v ≡ with_pieces [] v
nothing_put v = bytes_none v ∙ bytes_put [] v

operands_put : (a : ℕ) (ks : List OperandKind) (cs : List ℕ) (v : AssemblerView) →
    put_operands a ks cs v ≡ and_then (operands v.line ks cs) (put a v)
operands_put a [] cs v = at (position_after cs) where
  at : (r : Result (Option Position) Reason) → and_then r (λ p. given (with_position a p v)) ≡
      and_then (and_then r (λ p. Ok ([], p))) (put a v)
  at (Ok p) = ap (λ u. given (with_position a p u)) (nothing_put v)
  at (Err e) = refl
operands_put a (k ∷ ks) cs v =
    ap (λ r. and_then r (λ u. put_operands a ks u.1 u.0)) (operand_put k cs v) ∙
    at (code_operand v.line k cs) (λ ps rest. operands_put a ks rest (with_pieces ps v)) where
      at : (r : Result (List Piece × List ℕ) Reason) →
          ((ps : List Piece) (rest : List ℕ) → put_operands a ks rest (with_pieces ps v) ≡
          and_then (operands v.line ks rest) (put a (with_pieces ps v))) →
          and_then (and_then r (λ u. given_with u.1 (with_pieces u.0 v)))
          (λ u. put_operands a ks u.1 u.0) ≡
          and_then (and_then r (λ u. pieces_first u.0 (operands v.line ks u.1))) (put a v)
      at (Ok u) more = more u.0 u.1 ∙ onward a u.0 v (operands v.line ks u.1)
      at (Err e) more = refl

-- code with a position or without one
placed : (n : ℕ) (said : List Statement) (p : Piece) (ps : List Piece) (o : Option Position) →
    with_position (address said) o (with_pieces (p ∷ ps) (assembled n said)) ≡
    as_before n said (code_line p ps o)
placed n said p ps None = refl
placed n said p ps (Some x) = refl

instruction_said : (n : ℕ) (said : List Statement) (i : Op) (cs : List ℕ) →
    put_line (lines.Instruction i) cs (assembled n said) ≡
    and_then (statement (lines.Instruction i) n cs said) (kept n said)
instruction_said n said i cs =
    at_next n said (λ a. put_operands a (kinds_of (fields_of i)) cs
    (with_code (tag_of i ∷ []) (assembled n said)))
    (and_then (operands n (kinds_of (fields_of i)) cs)
    (λ o. Ok (code_line (Byte (tag_of i)) o.0 o.1)))
    (ap (λ v. put_operands (address said) (kinds_of (fields_of i)) cs v)
    (bytes_put (tag_of i ∷ []) (assembled n said)) ∙
    operands_put (address said) (kinds_of (fields_of i)) cs
    (with_pieces (Byte (tag_of i) ∷ []) (assembled n said)) ∙
    onward (address said) (Byte (tag_of i) ∷ []) (assembled n said)
    (operands n (kinds_of (fields_of i)) cs) ∙
    at (operands n (kinds_of (fields_of i)) cs)) where
      at : (r : Result (List Piece × Option Position) Reason) →
          and_then (pieces_first (Byte (tag_of i) ∷ []) r) (put (address said) (assembled n said)) ≡
          and_then (and_then r (λ o. Ok (code_line (Byte (tag_of i)) o.0 o.1))) (kept n said)
      at (Ok x) = ap given (placed n said (Byte (tag_of i)) x.0 x.1)
      at (Err m) = refl

byte_said : (n : ℕ) (said : List Statement) (cs : List ℕ) →
    put_line lines.Byte cs (assembled n said) ≡
    and_then (statement lines.Byte n cs said) (kept n said)
byte_said n said cs =
    at_next n said (λ a. and_then (byte_of cs)
    (λ b. Ok (with_position a b.1 (with_code (b.0 ∷ []) (assembled n said)))))
    (and_then (byte_of cs) (λ b. Ok (code_line (Byte b.0) [] b.1)))
    (step n said (byte_of cs) (λ b.
    with_position (address said) b.1 (with_code (b.0 ∷ []) (assembled n said)))
    (λ b. code_line (Byte b.0) [] b.1)
    (λ b. ap (with_position (address said) b.1) (bytes_put (b.0 ∷ []) (assembled n said)) ∙
    placed n said (Byte b.0) [] b.1))

abbrev main_opened : ℕ → List Statement → ℕ → ℕ → AssemblerView
main_opened n said a m = record (assembled n said) {
  section = sections.Block;
  block =
      Some (blocks.Main a m);
}

abbrev function_opened : ℕ → List Statement → ℕ → FunctionHeader → AssemblerView
function_opened n said a h = record (assembled n said) {
  section = sections.Block;
  block =
      Some (blocks.Function a h);
}

abbrev label_added : ℕ → List Statement → List ℕ → ℕ → AssemblerView
label_added n said t a = record (assembled n said) { labels = with_label t a (label_map said) }

line_said : (l : Line) (n : ℕ) (cs : List ℕ) (said : List Statement) →
    put_line l cs (assembled n said) ≡ and_then (statement l n cs said) (kept n said)
line_said lines.Header n cs said = refl
line_said lines.Capabilities n cs said =
    if_not n said (is_some (caps said)) OutOfPlace
    (and_then (capabilities capability_bits cs)
    (λ bits. Ok (record (assembled n said) { caps = Some bits })))
    (and_then (capabilities capability_bits cs) (λ bits. Ok (caps_line bits)))
    (step n said (capabilities capability_bits cs)
    (λ bits. record (assembled n said) { caps = Some bits })
    (λ bits. caps_line bits) (λ bits. refl))
line_said lines.Source n cs said =
    if_not n said (is_some (source said)) OutOfPlace
    (and_then (text_of cs) (λ t. Ok (record (assembled n said) { source = Some t })))
    (and_then (text_of cs) (λ t. Ok (source_line t)))
    (step n said (text_of cs) (λ t. record (assembled n said) { source = Some t })
    (λ t. source_line t) (λ t. refl))
line_said lines.Limit n cs said =
    step n said (limit_set cs (limits said))
    (λ l. record (assembled n said) { limits = limits said ++ l ∷ [] }) (λ l. limit_line l)
    (λ l. refl)
line_said lines.Constant n cs said =
    if_so n said (nat_lt (length (consts said)) 65536) TooMany
    (and_then (constant_of cs) (λ v.
    Ok (record (assembled n said) { consts = consts said ++ tree v ∷ [] })))
    (and_then (constant_of cs) (λ v. Ok (const_line v)))
    (step n said (constant_of cs) (λ v. record (assembled n said) {
      consts =
          consts said ++ tree v ∷ [];
    }) (λ v. const_line v) (λ v. refl))
line_said lines.Name n cs said =
    if_so n said (nat_lt (length (names said)) 65536) TooMany
    (and_then (text_of cs) (λ t. Ok (record (assembled n said) { names = names said ++ t ∷ [] })))
    (and_then (text_of cs) (λ t. Ok (name_line t)))
    (step n said (text_of cs) (λ t. record (assembled n said) { names = names said ++ t ∷ [] })
    (λ t. name_line t) (λ t. refl))
line_said lines.Operator n cs said =
    if_so n said (nat_lt (length (tokens said)) 65536) TooMany
    (and_then (token_of cs) (λ t. Ok
    (record (assembled n said) { tokens = tokens said ++ t ∷ [] })))
    (and_then (token_of cs) (λ t. Ok (op_line t)))
    (step n said (token_of cs) (λ t. record (assembled n said) { tokens = tokens said ++ t ∷ [] })
    (λ t. op_line t) (λ t. refl))
line_said lines.Assign n cs said =
    if_so n said (nat_lt (length (assigns said)) 65536) TooMany
    (and_then (assign_of n cs) (λ a.
    Ok (record (assembled n said) { assigns = assigns said ++ a ∷ [] })))
    (and_then (assign_of n cs) (λ a. Ok (assign_line a)))
    (step n said (assign_of n cs) (λ a. record (assembled n said) {
      assigns =
          assigns said ++ a ∷ [];
    }) (λ a. assign_line a) (λ a. refl))
line_said lines.Chain n cs said =
    if_so n said (nat_lt (length (chains said)) 65536) TooMany
    (and_then (chain_of cs) (λ c.
    Ok (record (assembled n said) { chains = chains said ++ c ∷ [] })))
    (and_then (chain_of cs) (λ c. Ok (chain_line c)))
    (step n said (chain_of cs) (λ c. record (assembled n said) {
      chains =
          chains said ++ c ∷ [];
    }) (λ c. chain_line c) (λ c. refl))
line_said lines.Step n cs said =
    let room : Bool = nat_lt (length (last_steps (chains said))) 65536 in
    let put : Outcome = and_then (step_of cs) (λ s.
    Ok (record (assembled n said) { chains = with_step s (chains said) })) in
    let read : Result Statement Reason = and_then (step_of cs) (λ s. Ok (step_line s)) in
    if_so n said (is_chain_open said) OutOfPlace (cond room put (Err TooMany))
    (cond room read (Err TooMany))
    (if_so n said room TooMany put read
    (step n said (step_of cs) (λ s. record (assembled n said) {
      chains =
          with_step s (chains said);
    }) (λ s. step_line s) (λ s. refl)))
line_said lines.Switch n cs said =
    if_so n said (nat_lt (length (switches said)) 65536) TooMany
    (and_then (aim_of n cs)
    (λ a. Ok (with_aim a (switches said ++ switch_to a ∷ []) (assembled n said))))
    (and_then (aim_of n cs) (λ a. Ok (switch_line a)))
    (step n said (aim_of n cs)
    (λ a. with_aim a (switches said ++ switch_to a ∷ []) (assembled n said))
    (λ a. switch_line a) (λ a. refl))
line_said lines.Case n cs said =
    let room : Bool = nat_lt (length (last_cases (switches said))) 65536 in
    let put : Outcome = and_then (case_of n cs)
    (λ c. Ok (with_aim c.aim (with_case c (switches said)) (assembled n said))) in
    let read : Result Statement Reason = and_then (case_of n cs) (λ c. Ok (case_line c)) in
    if_so n said (is_switch_open said) OutOfPlace (cond room put (Err TooMany))
    (cond room read (Err TooMany))
    (if_so n said room TooMany put read
    (step n said (case_of n cs)
    (λ c. with_aim c.aim (with_case c (switches said)) (assembled n said))
    (λ c. case_line c) (λ c. refl)))
line_said (lines.Range inclusive) n cs said =
    let room : Bool = nat_lt (length (last_ranges (switches said))) 65536 in
    let put : Outcome = and_then (range_of inclusive n cs)
    (λ r. Ok (with_aim r.aim (with_range r (switches said)) (assembled n said))) in
    let read : Result Statement Reason =
    and_then (range_of inclusive n cs) (λ r. Ok (range_line r)) in
    if_so n said (is_switch_open said) OutOfPlace (cond room put (Err TooMany))
    (cond room read (Err TooMany))
    (if_so n said room TooMany put read
    (step n said (range_of inclusive n cs)
    (λ r. with_aim r.aim (with_range r (switches said)) (assembled n said))
    (λ r. range_line r) (λ r. refl)))
line_said lines.Entry n cs said =
    step n said (entry_of cs) (λ e. record (assembled n said) {
      scope =
          (assembled n said).scope ++ e ∷ [];
    }) (λ e. scope_line e) (λ e. refl)
line_said lines.Flag n cs said =
    step n said (flag_of cs)
    (λ name. record (assembled n said) { flags = flags said ++ name ∷ [] })
    (λ name. flag_line name) (λ name. refl)
line_said lines.Fail n cs said =
    step n said (fail_of cs)
    (λ k. record (assembled n said) { host = failing_at k (host said) }) (λ k. fail_line k)
    (λ k. refl)
line_said lines.Stop n cs said =
    step n said (stop_of cs)
    (λ s. record (assembled n said) { host = stopping_at s.0 s.1 (host said) })
    (λ s. stop_line s) (λ s. refl)
line_said lines.Main n cs said =
    at_next n said (λ a. and_then (stack_of cs) (λ m. Ok (main_opened n said a m)))
    (and_then (stack_of cs) (λ m. Ok (main_line m)))
    (step n said (stack_of cs) (λ m. main_opened n said (address said) m) (λ m. main_line m)
    (λ m. refl))
line_said lines.Function n cs said =
    let within : Result Statement Reason = and_then (header_of cs) (λ h. Ok (fn_line h)) in
    let inside : Outcome = opened (length (blank_code said)) cs (assembled n said) in
    if_so n said (nat_lt (length (functions said)) 65536) TooMany
    (in_list cs inside) (in_list cs within)
    (if_not n said (is_crowded cs) TooMany inside within
    (at_next n said (λ a. opened a cs (assembled n said))
    (and_then (header_of cs) (λ h. Ok (fn_line h)))
    (step n said (header_of cs) (λ h. function_opened n said (address said) h) (λ h. fn_line h)
    (λ h. refl))))
line_said lines.Byte n cs said = byte_said n said cs
line_said lines.End n cs said =
    at_next n said (λ a. alone cs (closed a (open_block said) (assembled n said)))
    (alone cs end_line)
    (alone_said n said cs (closed (address said) (open_block said) (assembled n said)) end_line
    refl)
line_said (lines.Instruction i) n cs said = instruction_said n said i cs
line_said lines.Later n cs said = refl

label_put : (n : ℕ) (said : List Statement) (t : List ℕ) (cs : List ℕ) →
    put_label t cs (assembled n said) ≡ and_then (label_said t cs said) (kept n said)
label_put n said t cs =
    let within : Result Statement Reason = alone cs (label_line t) in
    let inside : Outcome = alone cs (label_added n said t (length (blank_code said))) in
    if_so n said (is_block (section said)) OutOfPlace
    (cond (is_some (address_of t (label_map said))) (Err LabelTwice) inside)
    (cond (is_some (label_address t (labels said))) (Err LabelTwice) within)
    (ap (λ o. cond (is_some o) (Err LabelTwice) inside) (found t said) ∙
    if_not n said (is_some (label_address t (labels said))) LabelTwice inside within
    (at_next n said (λ a. alone cs (label_added n said t a)) (alone cs (label_line t))
    (alone_said n said cs (label_added n said t (address said)) (label_line t) refl)))

label_line_put : (n : ℕ) (said : List Statement) (t : Option (List ℕ)) (cs : List ℕ) →
    Assembling.label_line t cs (assembled n said) ≡ and_then (labelled t cs said) (kept n said)
label_line_put n said None cs = refl
label_line_put n said (Some t) cs =
    if_so n said (begins_letter t) UnknownWord
    (put_label (encode_utf8_all t) cs (assembled n said))
    (label_said (encode_utf8_all t) cs said) (label_put n said (encode_utf8_all t) cs)

known_put : (n : ℕ) (said : List Statement) (l : Option Line) (w : List ℕ) (cs : List ℕ) →
    known_line l w cs (assembled n said) ≡ and_then (known l n w cs said) (kept n said)
known_put n said None w cs = label_line_put n said (before_colon w) cs
known_put n said (Some l) w cs =
    if_so n said (stands l (section said)) OutOfPlace (put_line l cs (assembled n said))
    (statement l n cs said) (line_said l n cs said)

-- the header is the one statement that its line can say
ended_put : (n : ℕ) (said : List Statement) (b : Bool) →
    with_header (cond b (Ok header) (Err MissingHeader)) (assembled n said) ≡
    and_then (cond b (Ok header) (Err MissingHeader)) (next n said)
ended_put n said true = refl
ended_put n said false = refl

end_put : (n : ℕ) (said : List Statement) (o : Option (List ℕ)) →
    with_header (header_end o) (assembled n said) ≡ and_then (header_end o) (next n said)
end_put n said None = refl
end_put n said (Some cs) = ended_put n said (is_over cs)

number_line_put : (n : ℕ) (said : List Statement) (o : Option (List ℕ)) →
    with_header (header_number o) (assembled n said) ≡ and_then (header_number o) (next n said)
number_line_put n said None = refl
number_line_put n said (Some cs) = end_put n said (after_name (codes "1") cs)

header_put : (n : ℕ) (said : List Statement) (cs : List ℕ) →
    with_header (header_said cs) (assembled n said) ≡ and_then (header_said cs) (next n said)
header_put n said cs = number_line_put n said (after_name (codes "grain") cs)

-- what a line says tells what may follow
opened_put : (n : ℕ) (said : List Statement) (b : Follows) (r : Result Statement Reason) →
    Opens said b r →
    and_then (and_then r (kept n said)) (λ u. given (record u { follows = b })) ≡
    and_then r (next n said)
opened_put n said b (Ok s) h =
    ap (λ (q : Follows). given (record (assembled n (s ∷ said)) { follows = q })) (sym h)
opened_put n said b (Err e) h = refl

put_known_said : (n : ℕ) (said : List Statement) (l : Option Line) (w : List ℕ) (cs : List ℕ) →
    put_known l w cs (assembled n said) ≡ and_then (known l n w cs said) (next n said)
put_known_said n said l w cs =
    ap (λ (r : Outcome). and_then r (λ u. given (record u { follows = opened_by l })))
    (known_put n said l w cs) ∙
    opened_put n said (opened_by l) (known l n w cs said) (known_opens l n w cs said)

begun_put : (n : ℕ) (said : List Statement) (o : Option (List ℕ × List ℕ)) →
    after_header o (assembled n said) ≡ and_then (begun_by o n said) (next n said)
begun_put n said None = refl
begun_put n said (Some a) =
    put_known_said n said (line_of (is_some (open_block said)) a.0) a.0 a.1

section_put : (n : ℕ) (said : List Statement) (s : Section) (cs : List ℕ) →
    cond (is_start s) (with_header (header_said cs) (assembled n said))
    (after_header (next_word cs) (assembled n said)) ≡
    and_then (in_section s n cs said) (next n said)
section_put n said sections.Start cs = header_put n said cs
section_put n said sections.Pools cs = begun_put n said (next_word cs)
section_put n said sections.Block cs = begun_put n said (next_word cs)
section_put n said sections.After cs = begun_put n said (next_word cs)

pub simulates : (n : ℕ) (cs : List ℕ) (said : List Statement) →
    take_line cs (assembled n said) ≡ and_then (says n cs said) (next n said)
simulates n cs said = at (is_over cs) (section_put n said (section said) cs) where
  at : (b : Bool) → cond (is_start (section said)) (with_header (header_said cs) (assembled n said))
      (after_header (next_word cs) (assembled n said)) ≡
      and_then (in_section (section said) n cs said) (next n said) →
      cond b (given (assembled n said)) (cond (is_start (section said))
      (with_header (header_said cs) (assembled n said))
      (after_header (next_word cs) (assembled n said))) ≡
      and_then (cond b (Ok blank) (in_section (section said) n cs said)) (next n said)
  at true more = refl
  at false more = more
