-- No line gives more than 13 bytes of code: a tag, and three operands of up to four bytes.
use Rattle.std.proofs.Common.{◌≡◌, ℕ, ◌+◌, ◌*◌, ◌-◌, ◌^◌, ◌≤◌, Bool, true, false, cond, nat_lt, codes, is_some, List, [], ◌∷◌, ◌++◌, length, Option, Some, None, Result, Ok, Err, refl, subst, arith}
use Rattle.std.specs.Str.{encode_utf8_all}
use Rattle.grain_words.specs.Words.{is_over, next_word}
use Rattle.std.specs.Int.{w16, w32, to_le_bytes}
use Rattle.grain_fault.specs.declared.places.Position.{Position}
use Rattle.grain_program.specs.declared.code.instruction_set.Op.{Op}
use Rattle.grain_program.specs.declared.code.instruction_set.Op.TheVariants as op
use Rattle.grain_program.specs.InstructionSet.{tag_of, fields_of}
use Rattle.grain_words.specs.Numerals.{number, begins_letter}
use Rattle.grain_literals.specs.Steps.{and_then, present}
use Rattle.grain_literals.specs.Operands.{word_operand, after_name, alone, position_after, byte_of}
use Rattle.grain_literals.specs.Literals.{constant_of, text_of, token_of, entry_of}
use Rattle.grain_literals.specs.declared.reasons.Reason.{Reason}
use Rattle.grain_literals.specs.declared.reasons.Reason.TheVariants.{MissingHeader, UnknownWord, OutOfPlace, TooMany, BadOperand, LabelTwice}
use Rattle.grain_listing.specs.Settings.{capability_bits, capabilities}
use Rattle.grain_listing.specs.Flags.{flag_of}
use Rattle.grain_listing.specs.HostLines.{fail_of, stop_of}
use Rattle.grain_listing.specs.Headers.{stack_of, assign_of, header_of, is_crowded}
use Rattle.grain_listing.specs.ChainWords.{chain_of, step_of}
use Rattle.grain_listing.specs.SwitchWords.{aim_of, case_of, range_of}
use Rattle.grain_listing.specs.Instructions.{kinds_of}
use Rattle.grain_listing.specs.Table.{line_of, stands, is_block}
use Rattle.grain_listing.specs.Statements.{Piece, Byte, Goto, Statement, blank, header, caps_line, source_line, limit_line, flag_line, fail_line, stop_line, const_line, name_line, op_line, assign_line, chain_line, step_line, switch_line, case_line, range_line, scope_line, main_line, fn_line, end_line, code_line, label_line, section, caps, source, limits, consts, names, tokens, assigns, chains, last_steps, switches, last_cases, last_ranges, is_chain_open, is_switch_open, functions, labels, label_address, pieces, width, address, open_block}
use Rattle.grain_listing.specs.LineMeanings.{bytes, operand, code_operand, operands, limit_set, statement, before_colon, labelled, known, header_end, header_number, begun_by, in_section, says}
use Rattle.grain_listing.specs.declared.table.Line.{Line}
use Rattle.grain_listing.specs.declared.table.Line.TheVariants as lines
use Rattle.grain_listing.specs.declared.table.OperandKind.{OperandKind}
use Rattle.grain_listing.specs.declared.table.OperandKind.TheVariants as kinds
use Rattle.grain_listing.specs.declared.table.Section.{Section}
use Rattle.grain_listing.specs.declared.table.Section.TheVariants as sections
use Rattle.grain_listing.proofs.Assembled.{width-append}

-- an instruction has at most three operands
few : (o : Op) → length (kinds_of (fields_of o)) ≤ 3
few op.Unit = omega arith
few _ = omega arith

-- a statement, if there is one, gives at most 13 bytes
abbrev IsNarrow : Statement → Type 0
IsNarrow (code_line p ps at) = width (p ∷ ps) ≤ 13
IsNarrow s = Unit {0}

abbrev AreNarrow : Result Statement Reason → Type 0
AreNarrow (Ok s) = IsNarrow s
AreNarrow (Err e) = Unit {0}

either_narrow : (b : Bool) (x y : Result Statement Reason) → AreNarrow x → AreNarrow y →
    AreNarrow (cond b x y)
either_narrow true x y hx hy = hx
either_narrow false x y hx hy = hy

step_narrow : {A : Type 0} (r : Result A Reason) (say : A → Statement) →
    ((x : A) → r ≡ Ok x → IsNarrow (say x)) → AreNarrow (and_then r (λ x. Ok (say x)))
step_narrow (Ok x) say h = h x refl
step_narrow (Err e) say h = tt

alone_narrow : (cs : List ℕ) (s : Statement) → IsNarrow s → AreNarrow (alone cs s)
alone_narrow cs s h = either_narrow (is_over cs) (Ok s) (Err BadOperand) h tt

-- operands of up to four bytes each
width_bytes : (bs : List ℕ) → width (bytes bs) ≡ length bs
width_bytes [] = refl
width_bytes (b ∷ bs) = let h = width_bytes bs in omega (arith, h)

abbrev AreWithin : ℕ → Result (List Piece) Reason → Type 0
AreWithin k (Ok ps) = width ps ≤ k
AreWithin k (Err e) = Unit {0}

number_within : (most : ℕ) (w : List ℕ) (spelled : ℕ → List ℕ) →
    ((x : ℕ) → length (spelled x) ≤ 4) →
    AreWithin 4 (and_then (present BadOperand (number most w)) (λ x. Ok (bytes (spelled x))))
number_within most w spelled four = at (number most w) where
  at : (o : Option ℕ) → AreWithin 4 (and_then (present BadOperand o) (λ x. Ok (bytes (spelled x))))
  at None = tt
  at (Some x) = omega (arith, width_bytes (spelled x), four x)

target_within : (b : Bool) (line : ℕ) (w : List ℕ) →
    AreWithin 4 (cond b (Ok (Goto line (encode_utf8_all w) ∷ []))
    (and_then (present BadOperand (number (2 ^ 32 - 1) w)) (λ x. Ok (bytes (to_le_bytes w32 x)))))
target_within true line w = omega arith
target_within false line w = number_within (2 ^ 32 - 1) w (λ x. to_le_bytes w32 x)
    (λ x. let four : length (to_le_bytes w32 x) ≡ 4 = refl in omega (arith, four))

bare_within : (line : ℕ) (k : OperandKind) (w : List ℕ) → AreWithin 4 (operand line k w)
bare_within line kinds.Byte w = number_within 255 w (λ x. x ∷ []) (λ x. omega arith)
bare_within line kinds.Index w =
    number_within 65535 w (λ x. to_le_bytes w16 x) (λ x. let two : length (to_le_bytes w16 x) ≡ 2 =
    refl in omega (arith, two))
bare_within line kinds.Target w = target_within (begins_letter w) line w

abbrev AreWithinFirst : ℕ → Result (List Piece × List ℕ) Reason → Type 0
AreWithinFirst k (Ok x) = width x.0 ≤ k
AreWithinFirst k (Err e) = Unit {0}

word_within : (line : ℕ) (k : OperandKind) (cs : List ℕ) → AreWithinFirst 4 (code_operand line k cs)
word_within line k cs = at (word_operand cs) where
  within : (rest : List ℕ) (r : Result (List Piece) Reason) → AreWithin 4 r →
      AreWithinFirst 4 (and_then r (λ ps. Ok (ps, rest)))
  within rest (Ok ps) h = h
  within rest (Err e) h = tt

  at : (r : Result (List ℕ × List ℕ) Reason) → AreWithinFirst 4
      (and_then r (λ a. and_then (operand line k a.0) (λ ps. Ok (ps, a.1))))
  at (Ok a) = within a.1 (operand line k a.0) (bare_within line k a.0)
  at (Err e) = tt

abbrev Operands : Type 0
Operands = Result (List Piece × Option Position) Reason

abbrev AreUpTo : ℕ → Operands → Type 0
AreUpTo k (Ok x) = width x.0 ≤ k
AreUpTo k (Err e) = Unit {0}

wider : (j k : ℕ) (r : Operands) → j ≤ k → AreUpTo j r → AreUpTo k r
wider j k (Ok x) l h = omega (arith, h)
wider j k (Err e) l h = tt

none_up_to : (r : Result (Option Position) Reason) → AreUpTo 0 (and_then r (λ p. Ok ([], p)))
none_up_to (Ok p) = omega arith
none_up_to (Err e) = tt

both_up_to : (k : ℕ) (first : Result (List Piece × List ℕ) Reason) (others : List ℕ → Operands) →
    AreWithinFirst 4 first → ((rest : List ℕ) → AreUpTo k (others rest)) → AreUpTo (k + 4)
    (and_then first (λ a. and_then (others a.1) (λ o. Ok (a.0 ++ o.0, o.1))))
both_up_to k (Ok a) others hf ho = at (others a.1) (ho a.1) where
  at : (r : Operands) → AreUpTo k r →
      AreUpTo (k + 4) (and_then r (λ o. Ok (a.0 ++ o.0, o.1)))
  at (Ok o) h = omega (arith, width-append a.0 o.0, hf, h)
  at (Err e) h = tt
both_up_to k (Err e) others hf ho = tt

up_to : (line : ℕ) (ks : List OperandKind) (cs : List ℕ) →
    AreUpTo (4 * length ks) (operands line ks cs)
up_to line [] cs = wider 0 (4 * length {A = OperandKind} [])
    (and_then (position_after cs) (λ p. Ok ([], p))) (omega arith) (none_up_to (position_after cs))
up_to line (k ∷ ks) cs =
    wider (4 * length ks + 4) (4 * length (k ∷ ks)) (operands line (k ∷ ks) cs)
    (omega arith)
    (both_up_to (4 * length ks) (code_operand line k cs) (λ rest. operands line ks rest)
    (word_within line k cs) (λ rest. up_to line ks rest))

instruction_narrow : (i : Op) (n : ℕ) (cs : List ℕ) →
    AreNarrow (and_then (operands n (kinds_of (fields_of i)) cs)
    (λ o. Ok (code_line (Byte (tag_of i)) o.0 o.1)))
instruction_narrow i n cs =
    at (operands n (kinds_of (fields_of i)) cs) (up_to n (kinds_of (fields_of i)) cs) where
      at : (r : Operands) → AreUpTo (4 * length (kinds_of (fields_of i))) r →
          AreNarrow (and_then r (λ o. Ok (code_line (Byte (tag_of i)) o.0 o.1)))
      at (Ok x) h = omega (arith, h, few i)
      at (Err m) h = tt

line_narrow : (l : Line) (n : ℕ) (cs : List ℕ) (before : List Statement) →
    AreNarrow (statement l n cs before)
line_narrow lines.Header n cs before = tt
line_narrow lines.Capabilities n cs before =
    either_narrow (is_some (caps before)) (Err OutOfPlace)
    (and_then (capabilities capability_bits cs) (λ bits. Ok (caps_line bits))) tt
    (step_narrow (capabilities capability_bits cs) (λ bits. caps_line bits) (λ x e. tt))
line_narrow lines.Source n cs before =
    either_narrow (is_some (source before)) (Err OutOfPlace)
    (and_then (text_of cs) (λ t. Ok (source_line t))) tt
    (step_narrow (text_of cs) (λ t. source_line t) (λ x e. tt))
line_narrow lines.Limit n cs before =
    step_narrow (limit_set cs (limits before)) (λ l. limit_line l) (λ x e. tt)
line_narrow lines.Constant n cs before =
    either_narrow (nat_lt (length (consts before)) 65536)
    (and_then (constant_of cs) (λ v. Ok (const_line v))) (Err TooMany)
    (step_narrow (constant_of cs) (λ v. const_line v) (λ x e. tt)) tt
line_narrow lines.Name n cs before =
    either_narrow (nat_lt (length (names before)) 65536)
    (and_then (text_of cs) (λ t. Ok (name_line t))) (Err TooMany)
    (step_narrow (text_of cs) (λ t. name_line t) (λ x e. tt)) tt
line_narrow lines.Operator n cs before =
    either_narrow (nat_lt (length (tokens before)) 65536)
    (and_then (token_of cs) (λ t. Ok (op_line t))) (Err TooMany)
    (step_narrow (token_of cs) (λ t. op_line t) (λ x e. tt)) tt
line_narrow lines.Assign n cs before =
    either_narrow (nat_lt (length (assigns before)) 65536)
    (and_then (assign_of n cs) (λ a. Ok (assign_line a))) (Err TooMany)
    (step_narrow (assign_of n cs) (λ a. assign_line a) (λ x e. tt)) tt
line_narrow lines.Chain n cs before =
    either_narrow (nat_lt (length (chains before)) 65536)
    (and_then (chain_of cs) (λ c. Ok (chain_line c))) (Err TooMany)
    (step_narrow (chain_of cs) (λ c. chain_line c) (λ x e. tt)) tt
line_narrow lines.Step n cs before =
    let read : Result Statement Reason = and_then (step_of cs) (λ s. Ok (step_line s)) in
    let room : Bool = nat_lt (length (last_steps (chains before))) 65536 in
    either_narrow (is_chain_open before) (cond room read (Err TooMany)) (Err OutOfPlace)
    (either_narrow room read (Err TooMany)
    (step_narrow (step_of cs) (λ s. step_line s) (λ x e. tt)) tt) tt
line_narrow lines.Switch n cs before =
    either_narrow (nat_lt (length (switches before)) 65536)
    (and_then (aim_of n cs) (λ a. Ok (switch_line a))) (Err TooMany)
    (step_narrow (aim_of n cs) (λ a. switch_line a) (λ x e. tt)) tt
line_narrow lines.Case n cs before =
    let read : Result Statement Reason = and_then (case_of n cs) (λ c. Ok (case_line c)) in
    let room : Bool = nat_lt (length (last_cases (switches before))) 65536 in
    either_narrow (is_switch_open before) (cond room read (Err TooMany)) (Err OutOfPlace)
    (either_narrow room read (Err TooMany)
    (step_narrow (case_of n cs) (λ c. case_line c) (λ x e. tt)) tt) tt
line_narrow (lines.Range inclusive) n cs before =
    let read : Result Statement Reason =
    and_then (range_of inclusive n cs) (λ r. Ok (range_line r)) in
    let room : Bool = nat_lt (length (last_ranges (switches before))) 65536 in
    either_narrow (is_switch_open before) (cond room read (Err TooMany)) (Err OutOfPlace)
    (either_narrow room read (Err TooMany)
    (step_narrow (range_of inclusive n cs) (λ r. range_line r) (λ x e. tt)) tt) tt
line_narrow lines.Entry n cs before = step_narrow (entry_of cs) (λ x. scope_line x) (λ x e. tt)
line_narrow lines.Flag n cs before = step_narrow (flag_of cs) (λ x. flag_line x) (λ x e. tt)
line_narrow lines.Fail n cs before = step_narrow (fail_of cs) (λ x. fail_line x) (λ x e. tt)
line_narrow lines.Stop n cs before = step_narrow (stop_of cs) (λ x. stop_line x) (λ x e. tt)
line_narrow lines.Main n cs before = step_narrow (stack_of cs) (λ m. main_line m) (λ x e. tt)
line_narrow lines.Function n cs before =
    let read : Result Statement Reason = and_then (header_of cs) (λ x. Ok (fn_line x)) in
    either_narrow (nat_lt (length (functions before)) 65536)
    (cond (is_crowded cs) (Err TooMany) read) (Err TooMany)
    (either_narrow (is_crowded cs) (Err TooMany) read tt
    (step_narrow (header_of cs) (λ x. fn_line x) (λ x e. tt))) tt
line_narrow lines.Byte n cs before =
    step_narrow (byte_of cs) (λ b. code_line (Byte b.0) [] b.1) (λ x e. omega arith)
line_narrow lines.End n cs before = alone_narrow cs end_line tt
line_narrow (lines.Instruction i) n cs before = instruction_narrow i n cs
line_narrow lines.Later n cs before = tt

label_narrow : (t : Option (List ℕ)) (cs : List ℕ) (before : List Statement) →
    AreNarrow (labelled t cs before)
label_narrow None cs before = tt
label_narrow (Some t) cs before =
    let inside : Result Statement Reason =
    cond (is_some (label_address (encode_utf8_all t) (labels before))) (Err LabelTwice)
    (alone cs (label_line (encode_utf8_all t))) in
    either_narrow (begins_letter t) (cond (is_block (section before)) inside (Err OutOfPlace))
    (Err UnknownWord)
    (either_narrow (is_block (section before)) inside (Err OutOfPlace)
    (either_narrow (is_some (label_address (encode_utf8_all t) (labels before))) (Err LabelTwice)
    (alone cs (label_line (encode_utf8_all t))) tt
    (alone_narrow cs (label_line (encode_utf8_all t)) tt)) tt) tt

known_narrow : (l : Option Line) (n : ℕ) (w : List ℕ) (cs : List ℕ) (before : List Statement) →
    AreNarrow (known l n w cs before)
known_narrow None n w cs before = label_narrow (before_colon w) cs before
known_narrow (Some l) n w cs before =
    either_narrow (stands l (section before)) (statement l n cs before) (Err OutOfPlace)
    (line_narrow l n cs before) tt

begun_narrow : (o : Option (List ℕ × List ℕ)) (n : ℕ) (before : List Statement) →
    AreNarrow (begun_by o n before)
begun_narrow None n before = tt
begun_narrow (Some a) n before =
    known_narrow (line_of (is_some (open_block before)) a.0) n a.0 a.1 before

end_narrow : (o : Option (List ℕ)) → AreNarrow (header_end o)
end_narrow None = tt
end_narrow (Some cs) = either_narrow (is_over cs) (Ok header) (Err MissingHeader) tt tt

number_narrow : (o : Option (List ℕ)) → AreNarrow (header_number o)
number_narrow None = tt
number_narrow (Some cs) = end_narrow (after_name (codes "1") cs)

section_narrow : (s : Section) (n : ℕ) (cs : List ℕ) (before : List Statement) →
    AreNarrow (in_section s n cs before)
section_narrow sections.Start n cs before = number_narrow (after_name (codes "grain") cs)
section_narrow sections.Pools n cs before = begun_narrow (next_word cs) n before
section_narrow sections.Block n cs before = begun_narrow (next_word cs) n before
section_narrow sections.After n cs before = begun_narrow (next_word cs) n before

all_narrow : (n : ℕ) (cs : List ℕ) (before : List Statement) → AreNarrow (says n cs before)
all_narrow n cs before =
    either_narrow (is_over cs) (Ok blank) (in_section (section before) n cs before) tt
    (section_narrow (section before) n cs before)

grown : (s : Statement) (before : List Statement) → IsNarrow s →
    address (s ∷ before) ≤ address before + 13
grown (code_line p ps at) before h = omega (arith, width-append (pieces before) (p ∷ ps), h)
grown s before h = omega arith

-- one more line gives at most 13 bytes
pub narrow : (n : ℕ) (cs : List ℕ) (before : List Statement) (s : Statement) →
    says n cs before ≡ Ok s → address (s ∷ before) ≤ address before + 13
narrow n cs before s e = grown s before (subst AreNarrow e (all_narrow n cs before))
