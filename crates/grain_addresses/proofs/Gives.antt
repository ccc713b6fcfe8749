-- What a line says, where it is read, gives what its words give, in a block or outside of one.
use Rattle.std.proofs.Common.{◌≡◌, ℕ, ◌+◌, ◌-◌, ◌^◌, Bool, true, false, cond, nat_lt, codes, bytes_eq, is_some, List, [], ◌∷◌, ◌++◌, length, Option, Some, None, Result, Ok, Err, refl, sym, ap, ◌∙◌, subst, arith}
use Rattle.std.specs.Str.{encode_utf8_all}
use Rattle.std.specs.Int.{w16, w32, to_le_bytes}
use Rattle.grain_fault.specs.declared.places.Position.{Position}
use Rattle.grain_program.specs.declared.code.fields.Field.{Field}
use Rattle.grain_program.specs.declared.code.instruction_set.Op.{Op}
use Rattle.grain_program.specs.Fields.{Size, one, two, four, bytes_of, size_of}
use Rattle.grain_program.specs.InstructionSet.{tag_of, fields_of}
use Rattle.grain_words.specs.Words.{is_over, trim_start, bare, next_word, after_word}
use Rattle.grain_words.specs.Numerals.{number, begins_letter, is_empty}
use Rattle.grain_literals.specs.Steps.{and_then, present}
use Rattle.grain_literals.specs.Operands.{behind_name, after_name, alone, number_operand, position_after, byte_of}
use Rattle.grain_literals.specs.Literals.{constant_of, text_of, token_of, entry_of}
use Rattle.grain_literals.specs.declared.reasons.Reason.{Reason}
use Rattle.grain_literals.specs.declared.reasons.Reason.TheVariants.{MissingHeader, UnknownWord, OutOfPlace, TooMany, BadOperand, LabelTwice}
use Rattle.grain_listing.specs.Settings.{capability_bits, capabilities}
use Rattle.grain_listing.specs.Flags.{flag_of}
use Rattle.grain_listing.specs.HostLines.{fail_of, stop_of}
use Rattle.grain_listing.specs.Headers.{stack_of, assign_of, header_of, is_crowded}
use Rattle.grain_listing.specs.ChainWords.{chain_of, step_of}
use Rattle.grain_listing.specs.SwitchWords.{aim_of, case_of, range_of}
use Rattle.grain_listing.specs.Instructions
use Rattle.grain_listing.specs.Instructions.{kinds_of}
use Rattle.grain_listing.specs.Table.{line_of, own_line, stands, is_block}
use Rattle.grain_listing.specs.Statements.{Piece, Byte, Goto, Statement, blank, header, caps_line, source_line, limit_line, flag_line, fail_line, stop_line, const_line, name_line, op_line, assign_line, chain_line, step_line, switch_line, case_line, range_line, scope_line, main_line, fn_line, end_line, code_line, label_line, section, caps, source, limits, consts, names, tokens, assigns, chains, last_steps, switches, last_cases, last_ranges, is_chain_open, is_switch_open, functions, labels, label_address, open_block, width}
use Rattle.grain_listing.specs.LineMeanings.{bytes, operand, code_operand, operands, limit_set, statement, before_colon, labelled, known, header_end, header_number, begun_by, in_section, says}
use Rattle.grain_listing.specs.declared.table.Line.{Line}
use Rattle.grain_listing.specs.declared.table.Line.TheVariants as lines
use Rattle.grain_listing.specs.declared.table.Section.{Section}
use Rattle.grain_listing.specs.declared.table.Section.TheVariants as sections
use Rattle.grain_addresses.specs.Kinds.{fields_width, after_fields, position_or_none, instruction_kind, step_kind, chain_kind, kind_of, kind_if, kind_begun, line_kind}
use Rattle.grain_addresses.specs.declared.kinds.LineKind.TheVariants as kinds
use Rattle.grain_addresses.proofs.Said.{kind_said, Gives, either, step, alone_gives, word_left, Leaves, number_leaves}
use Rattle.grain_addresses.proofs.ChainLines.{step_gives, chain_gives}

no_word : (cs : List ℕ) → is_over cs ≡ true → next_word cs ≡ None
no_word cs e = at (trim_start cs) e where
  at : (x : List ℕ) → is_empty x ≡ true → bare x ≡ None
  at [] h = refl
  at (c ∷ rest) h = absurd cc

pub width-append : (ps qs : List Piece) → width (ps ++ qs) ≡ width ps + width qs
width-append [] qs = omega arith
width-append (Byte b ∷ ps) qs = let h = width-append ps qs in omega (arith, h)
width-append (Goto line label ∷ ps) qs = let h = width-append ps qs in omega (arith, h)

-- the bytes of an operand
width-bytes : (bs : List ℕ) → width (bytes bs) ≡ length bs
width-bytes [] = refl
width-bytes (b ∷ bs) = let h = width-bytes bs in omega (arith, h)

abbrev HasWidth : ℕ → Result (List Piece) Reason → Type 0
HasWidth k (Ok ps) = width ps ≡ k
HasWidth k (Err e) = Unit {0}

number_width : (k most : ℕ) (w : List ℕ) (spelled : ℕ → List ℕ) →
    ((x : ℕ) → length (spelled x) ≡ k) →
    HasWidth k (and_then (present BadOperand (number most w)) (λ x. Ok (bytes (spelled x))))
number_width k most w spelled size = at (number most w) where
  at : (o : Option ℕ) →
      HasWidth k (and_then (present BadOperand o) (λ x. Ok (bytes (spelled x))))
  at None = tt
  at (Some x) = width-bytes (spelled x) ∙ size x

target_width : (b : Bool) (line : ℕ) (w : List ℕ) →
    HasWidth 4 (cond b (Ok (Goto line (encode_utf8_all w) ∷ []))
    (and_then (present BadOperand (number (2 ^ 32 - 1) w)) (λ x. Ok (bytes (to_le_bytes w32 x)))))
target_width true line w = refl
target_width false line w =
    number_width 4 (2 ^ 32 - 1) w (λ x. to_le_bytes w32 x) (λ x. refl)

operand_width : (line : ℕ) (s : Size) (w : List ℕ) →
    HasWidth (bytes_of s) (operand line (Instructions.kind_of s) w)
operand_width line one w = number_width 1 255 w (λ x. x ∷ []) (λ x. refl)
operand_width line two w = number_width 2 65535 w (λ x. to_le_bytes w16 x) (λ x. refl)
operand_width line four w = target_width (begins_letter w) line w

-- an operand with this many bytes is taken, and this is left
abbrev Takes : ℕ → List ℕ → Result (List Piece × List ℕ) Reason → Type 0
Takes k rest (Ok x) = (width x.0 ≡ k) × (x.1 ≡ rest)
Takes k rest (Err e) = Unit {0}

word_taken : (line : ℕ) (s : Size) (cs : List ℕ) →
    Takes (bytes_of s) (after_word cs) (code_operand line (Instructions.kind_of s) cs)
word_taken line s cs = at (next_word cs) (λ a e. word_left cs a e) where
  within : (rest : List ℕ) (r : Result (List Piece) Reason) → rest ≡ after_word cs →
      HasWidth (bytes_of s) r →
      Takes (bytes_of s) (after_word cs) (and_then r (λ ps. Ok (ps, rest)))
  within rest (Ok ps) same h = (h, same)
  within rest (Err e) same h = tt

  at : (o : Option (List ℕ × List ℕ)) →
      ((a : List ℕ × List ℕ) → o ≡ Some a → after_word cs ≡ a.1) →
      Takes (bytes_of s) (after_word cs) (and_then (present BadOperand o)
      (λ a. and_then (operand line (Instructions.kind_of s) a.0) (λ ps. Ok (ps, a.1))))
  at None left = tt
  at (Some a) left = within a.1 (operand line (Instructions.kind_of s) a.0) (sym (left a refl))
      (operand_width line s a.0)

abbrev Operands : Type 0
Operands = Result (List Piece × Option Position) Reason

-- operands with this many bytes are taken, and then this position, if any
abbrev TakesAll : ℕ → Option Position → Operands → Type 0
TakesAll k position (Ok x) = (width x.0 ≡ k) × (x.1 ≡ position)
TakesAll k position (Err e) = Unit {0}

position_taken : (r : Result (Option Position) Reason) →
    TakesAll 0 (position_or_none r) (and_then r (λ p. Ok ([], p)))
position_taken (Ok p) = (refl, refl)
position_taken (Err e) = tt

both_taken : (j k : ℕ) (rest : List ℕ) (position : Option Position)
    (first : Result (List Piece × List ℕ) Reason) (others : List ℕ → Operands) →
    Takes j rest first → TakesAll k position (others rest) →
    TakesAll (j + k) position
    (and_then first (λ a. and_then (others a.1) (λ o. Ok (a.0 ++ o.0, o.1))))
both_taken j k rest position (Ok a) others hf ho =
    at (others a.1)
    (subst (λ (r : List ℕ). TakesAll k position (others r)) (sym hf.1) ho) where
      at : (r : Operands) → TakesAll k position r →
          TakesAll (j + k) position (and_then r (λ o. Ok (a.0 ++ o.0, o.1)))
      at (Ok o) h = (omega (arith, width-append a.0 o.0, hf.0, h.0), h.1)
      at (Err e) h = tt
both_taken j k rest position (Err e) others hf ho = tt

fields_taken : (line : ℕ) (fs : List Field) (cs : List ℕ) →
    TakesAll (fields_width fs) (position_or_none (position_after (after_fields fs cs)))
    (operands line (kinds_of fs) cs)
fields_taken line [] cs = position_taken (position_after cs)
fields_taken line (f ∷ fs) cs =
    both_taken (bytes_of (size_of f)) (fields_width fs) (after_word cs)
    (position_or_none (position_after (after_fields fs (after_word cs))))
    (code_operand line (Instructions.kind_of (size_of f)) cs)
    (λ rest. operands line (kinds_of fs) rest)
    (word_taken line (size_of f) cs) (fields_taken line fs (after_word cs))

instruction_gives : (i : Op) (n : ℕ) (cs : List ℕ) →
    Gives (instruction_kind (fields_of i) cs) (and_then (operands n (kinds_of (fields_of i)) cs)
    (λ o. Ok (code_line (Byte (tag_of i)) o.0 o.1)))
instruction_gives i n cs =
    at (operands n (kinds_of (fields_of i)) cs) (fields_taken n (fields_of i) cs) where
      at : (r : Operands) →
          TakesAll (fields_width (fields_of i))
          (position_or_none (position_after (after_fields (fields_of i) cs))) r →
          Gives (instruction_kind (fields_of i) cs)
          (and_then r (λ o. Ok (code_line (Byte (tag_of i)) o.0 o.1)))
      at (Ok x) h =
          ap (λ (w : ℕ). kinds.Code (1 + w) x.1) h.0 ∙
          ap (λ (p : Option Position). kinds.Code (1 + fields_width (fields_of i)) p) h.1
      at (Err m) h = tt

-- after `byte`
abbrev byte_with : ℕ → Result (Option Position) Reason → Result (ℕ × Option Position) Reason
byte_with b r = and_then r (λ p. Ok (b, p))

byte_at : (b : ℕ) (r : Result (Option Position) Reason) →
    Gives (kinds.Code 1 (position_or_none r)) (and_then (byte_with b r)
    (λ x. Ok (code_line (Byte x.0) [] x.1)))
byte_at b (Ok p) = refl
byte_at b (Err e) = tt

byte_gives : (cs : List ℕ) →
    Gives (kinds.Code 1 (position_or_none (position_after (after_word cs))))
    (and_then (byte_of cs) (λ x. Ok (code_line (Byte x.0) [] x.1)))
byte_gives cs = at (number_operand 255 cs) (number_leaves 255 cs) where
  at : (r : Result (ℕ × List ℕ) Reason) → Leaves (after_word cs) r →
      Gives (kinds.Code 1 (position_or_none (position_after (after_word cs))))
      (and_then (and_then r (λ a. byte_with a.0 (position_after a.1)))
      (λ x. Ok (code_line (Byte x.0) [] x.1)))
  at (Ok a) left = subst (λ (rest : List ℕ).
      Gives (kinds.Code 1 (position_or_none (position_after rest)))
      (and_then (byte_with a.0 (position_after a.1))
      (λ x. Ok (code_line (Byte x.0) [] x.1)))) left (byte_at a.0 (position_after a.1))
  at (Err e) left = tt

line_gives : (l : Line) (n : ℕ) (cs : List ℕ) (before : List Statement) →
    Gives (kind_of l cs) (statement l n cs before)
line_gives lines.Header n cs before = tt
line_gives lines.Capabilities n cs before =
    either kinds.Other (is_some (caps before)) (Err OutOfPlace)
    (and_then (capabilities capability_bits cs) (λ bits. Ok (caps_line bits))) tt
    (step kinds.Other (capabilities capability_bits cs) (λ bits. caps_line bits) (λ x. refl))
line_gives lines.Source n cs before =
    either kinds.Other (is_some (source before)) (Err OutOfPlace)
    (and_then (text_of cs) (λ t. Ok (source_line t))) tt
    (step kinds.Other (text_of cs) (λ t. source_line t) (λ x. refl))
line_gives lines.Limit n cs before =
    step kinds.Other (limit_set cs (limits before)) (λ l. limit_line l) (λ x. refl)
line_gives lines.Constant n cs before =
    either kinds.Other (nat_lt (length (consts before)) 65536)
    (and_then (constant_of cs) (λ v. Ok (const_line v))) (Err TooMany)
    (step kinds.Other (constant_of cs) (λ v. const_line v) (λ x. refl)) tt
line_gives lines.Name n cs before =
    either kinds.Other (nat_lt (length (names before)) 65536)
    (and_then (text_of cs) (λ t. Ok (name_line t))) (Err TooMany)
    (step kinds.Other (text_of cs) (λ t. name_line t) (λ x. refl)) tt
line_gives lines.Operator n cs before =
    either kinds.Other (nat_lt (length (tokens before)) 65536)
    (and_then (token_of cs) (λ t. Ok (op_line t))) (Err TooMany)
    (step kinds.Other (token_of cs) (λ t. op_line t) (λ x. refl)) tt
line_gives lines.Assign n cs before =
    either kinds.Other (nat_lt (length (assigns before)) 65536)
    (and_then (assign_of n cs) (λ a. Ok (assign_line a))) (Err TooMany)
    (step kinds.Other (assign_of n cs) (λ a. assign_line a) (λ x. refl)) tt
line_gives lines.Chain n cs before =
    either (chain_kind (after_word cs)) (nat_lt (length (chains before)) 65536)
    (and_then (chain_of cs) (λ c. Ok (chain_line c))) (Err TooMany) (chain_gives cs) tt
line_gives lines.Step n cs before =
    let read : Result Statement Reason = and_then (step_of cs) (λ s. Ok (step_line s)) in
    let room : Bool = nat_lt (length (last_steps (chains before))) 65536 in
    either (step_kind cs) (is_chain_open before) (cond room read (Err TooMany)) (Err OutOfPlace)
    (either (step_kind cs) room read (Err TooMany) (step_gives cs) tt) tt
line_gives lines.Switch n cs before =
    either kinds.Other (nat_lt (length (switches before)) 65536)
    (and_then (aim_of n cs) (λ a. Ok (switch_line a))) (Err TooMany)
    (step kinds.Other (aim_of n cs) (λ a. switch_line a) (λ x. refl)) tt
line_gives lines.Case n cs before =
    let read : Result Statement Reason = and_then (case_of n cs) (λ c. Ok (case_line c)) in
    let room : Bool = nat_lt (length (last_cases (switches before))) 65536 in
    either kinds.Other (is_switch_open before) (cond room read (Err TooMany)) (Err OutOfPlace)
    (either kinds.Other room read (Err TooMany)
    (step kinds.Other (case_of n cs) (λ c. case_line c) (λ x. refl)) tt) tt
line_gives (lines.Range inclusive) n cs before =
    let read : Result Statement Reason =
    and_then (range_of inclusive n cs) (λ r. Ok (range_line r)) in
    let room : Bool = nat_lt (length (last_ranges (switches before))) 65536 in
    either kinds.Other (is_switch_open before) (cond room read (Err TooMany)) (Err OutOfPlace)
    (either kinds.Other room read (Err TooMany)
    (step kinds.Other (range_of inclusive n cs) (λ r. range_line r) (λ x. refl)) tt) tt
line_gives lines.Entry n cs before =
    step kinds.Other (entry_of cs) (λ x. scope_line x) (λ x. refl)
line_gives lines.Flag n cs before =
    step kinds.Other (flag_of cs) (λ x. flag_line x) (λ x. refl)
line_gives lines.Fail n cs before =
    step kinds.Other (fail_of cs) (λ x. fail_line x) (λ x. refl)
line_gives lines.Stop n cs before =
    step kinds.Other (stop_of cs) (λ x. stop_line x) (λ x. refl)
line_gives lines.Main n cs before =
    step kinds.Main (stack_of cs) (λ m. main_line m) (λ x. refl)
line_gives lines.Function n cs before =
    let read : Result Statement Reason = and_then (header_of cs) (λ x. Ok (fn_line x)) in
    either kinds.Function (nat_lt (length (functions before)) 65536)
    (cond (is_crowded cs) (Err TooMany) read) (Err TooMany)
    (either kinds.Function (is_crowded cs) (Err TooMany) read tt
    (step kinds.Function (header_of cs) (λ x. fn_line x) (λ x. refl))) tt
line_gives lines.Byte n cs before = byte_gives cs
line_gives lines.End n cs before = alone_gives kinds.End cs end_line refl
line_gives (lines.Instruction i) n cs before = instruction_gives i n cs
line_gives lines.Later n cs before = tt

label_gives : (t : Option (List ℕ)) (cs : List ℕ) (before : List Statement) →
    Gives kinds.Other (labelled t cs before)
label_gives None cs before = tt
label_gives (Some t) cs before =
    let inside : Result Statement Reason =
    cond (is_some (label_address (encode_utf8_all t) (labels before))) (Err LabelTwice)
    (alone cs (label_line (encode_utf8_all t))) in
    either kinds.Other (begins_letter t)
    (cond (is_block (section before)) inside (Err OutOfPlace)) (Err UnknownWord)
    (either kinds.Other (is_block (section before)) inside (Err OutOfPlace)
    (either kinds.Other (is_some (label_address (encode_utf8_all t) (labels before)))
    (Err LabelTwice) (alone cs (label_line (encode_utf8_all t))) tt
    (alone_gives kinds.Other cs (label_line (encode_utf8_all t)) refl)) tt) tt

known_gives : (l : Option Line) (n : ℕ) (w : List ℕ) (cs : List ℕ) (before : List Statement) →
    Gives (kind_if l cs) (known l n w cs before)
known_gives None n w cs before = label_gives (before_colon w) cs before
known_gives (Some l) n w cs before =
    either (kind_of l cs) (stands l (section before)) (statement l n cs before) (Err OutOfPlace)
    (line_gives l n cs before) tt

-- a block is open before the line
abbrev in_block : List Statement → Bool
in_block before = is_some (open_block before)

begun_gives : (o : Option (List ℕ × List ℕ)) (n : ℕ) (before : List Statement) →
    Gives (kind_begun (in_block before) o) (begun_by o n before)
begun_gives None n before = tt
begun_gives (Some a) n before =
    known_gives (line_of (in_block before) a.0) n a.0 a.1 before

-- the header
end_gives : (o : Option (List ℕ)) → Gives kinds.Other (header_end o)
end_gives None = tt
end_gives (Some cs) = either kinds.Other (is_over cs) (Ok header) (Err MissingHeader) refl tt

is_header : (b : Bool) (w : List ℕ) → bytes_eq w (codes "grain") ≡ true →
    line_of b w ≡ Some lines.Header
unfolding line_of own_line
is_header b w e = rw e refl

header_gives : (b : Bool) (o : Option (List ℕ × List ℕ)) →
    Gives (kind_begun b o) (header_number (behind_name (codes "grain") o))
header_gives b None = tt
header_gives b (Some a) = at (bytes_eq a.0 (codes "grain")) refl where
  at : (q : Bool) → bytes_eq a.0 (codes "grain") ≡ q →
      Gives (kind_if (line_of b a.0) a.1) (header_number (cond q (Some a.1) None))
  at true e = subst (λ (l : Option Line). Gives (kind_if l a.1) (header_number (Some a.1)))
      (sym (is_header b a.0 e)) (end_gives (after_name (codes "1") a.1))
  at false e = tt

section_gives : (s : Section) (n : ℕ) (cs : List ℕ) (before : List Statement) →
    Gives (line_kind (in_block before) cs) (in_section s n cs before)
section_gives sections.Start n cs before = header_gives (in_block before) (next_word cs)
section_gives sections.Pools n cs before = begun_gives (next_word cs) n before
section_gives sections.Block n cs before = begun_gives (next_word cs) n before
section_gives sections.After n cs before = begun_gives (next_word cs) n before

all_gives : (n : ℕ) (cs : List ℕ) (before : List Statement) →
    Gives (line_kind (in_block before) cs) (says n cs before)
all_gives n cs before = at (is_over cs) (λ e. no_word cs e) where
  at : (b : Bool) → (b ≡ true → next_word cs ≡ None) →
      Gives (kind_begun (in_block before) (next_word cs))
      (cond b (Ok blank) (in_section (section before) n cs before))
  at true over = sym (ap (λ (o : Option (List ℕ × List ℕ)). kind_begun (in_block before) o)
      (over refl))
  at false over = section_gives (section before) n cs before

-- a line that is read gives what its words give, in a block or outside of one
pub gives : (n : ℕ) (cs : List ℕ) (before : List Statement) (s : Statement) →
    says n cs before ≡ Ok s → kind_said s ≡ line_kind (is_some (open_block before)) cs
gives n cs before s e = subst (Gives (line_kind (in_block before) cs)) e (all_gives n cs before)
