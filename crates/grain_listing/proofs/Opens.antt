-- The first word of a line decides what may follow it.
use Rattle.std.proofs.Common.{◌≡◌, ℕ, Bool, true, false, cond, nat_lt, is_some, List, [], ◌∷◌, length, Option, Some, None, Result, Ok, Err, refl}
use Rattle.std.specs.Str.{encode_utf8_all}
use Rattle.grain_program.specs.InstructionSet.{tag_of, fields_of}
use Rattle.grain_words.specs.Words.{is_over}
use Rattle.grain_words.specs.Numerals.{begins_letter}
use Rattle.grain_literals.specs.Steps.{and_then}
use Rattle.grain_literals.specs.Operands.{alone, byte_of}
use Rattle.grain_literals.specs.Literals.{constant_of, text_of, token_of, entry_of}
use Rattle.grain_literals.specs.declared.reasons.Reason.{Reason}
use Rattle.grain_literals.specs.declared.reasons.Reason.TheVariants.{UnknownWord, OutOfPlace, TooMany, BadOperand, LabelTwice}
use Rattle.grain_listing.specs.Settings.{capability_bits, capabilities}
use Rattle.grain_listing.specs.Flags.{flag_of}
use Rattle.grain_listing.specs.HostLines.{fail_of, stop_of}
use Rattle.grain_listing.specs.Headers.{stack_of, assign_of, header_of, is_crowded}
use Rattle.grain_listing.specs.ChainWords.{chain_of, step_of}
use Rattle.grain_listing.specs.SwitchWords.{aim_of, case_of, range_of}
use Rattle.grain_listing.specs.Instructions.{kinds_of}
use Rattle.grain_listing.specs.Table.{stands, is_block, opened_by}
use Rattle.grain_listing.specs.Statements.{Byte, Statement, caps_line, source_line, limit_line, flag_line, fail_line, stop_line, const_line, name_line, op_line, assign_line, chain_line, step_line, switch_line, case_line, range_line, scope_line, main_line, fn_line, end_line, code_line, label_line, section, caps, source, limits, consts, names, tokens, assigns, chains, last_steps, switches, last_cases, last_ranges, open_entry, is_chain_open, is_switch_open, functions, labels, label_address}
use Rattle.grain_listing.specs.LineMeanings.{operands, limit_set, statement, before_colon, labelled, known}
use Rattle.grain_listing.specs.declared.table.Follows.{Follows}
use Rattle.grain_listing.specs.declared.table.Follows.TheVariants as may
use Rattle.grain_listing.specs.declared.table.Line.{Line}
use Rattle.grain_listing.specs.declared.table.Line.TheVariants as lines

-- after what is said, if anything is, this may follow
abbrev pub Opens : List Statement → Follows → Result Statement Reason → Type 0
Opens before b (Ok s) = open_entry (s ∷ before) ≡ b
Opens before b (Err e) = Unit {0}

module _ (before : List Statement) where
  either : (b : Follows) (q : Bool) (x y : Result Statement Reason) → Opens before b x → Opens before b y →
      Opens before b (cond q x y)
  either b true x y hx hy = hx
  either b false x y hx hy = hy

  step : {A : Type 0} (b : Follows) (r : Result A Reason) (say : A → Statement) →
      ((x : A) → open_entry (say x ∷ before) ≡ b) →
      Opens before b (and_then r (λ x. Ok (say x)))
  step b (Ok x) say h = h x
  step b (Err e) say h = tt

  alone_opens : (cs : List ℕ) (s : Statement) → open_entry (s ∷ before) ≡ may.Nothing →
      Opens before may.Nothing (alone cs s)
  alone_opens cs s h = either may.Nothing (is_over cs) (Ok s) (Err BadOperand) h tt

  in_room : (b : Follows) (q : Bool) (x : Result Statement Reason) → Opens before b x →
      Opens before b (cond q x (Err TooMany))
  in_room b q x h = either b q x (Err TooMany) h tt

  line_opens : (l : Line) (n : ℕ) (cs : List ℕ) →
      Opens before (opened_by (Some l)) (statement l n cs before)
  line_opens lines.Header n cs = tt
  line_opens lines.Capabilities n cs =
      either may.Nothing (is_some (caps before)) (Err OutOfPlace)
      (and_then (capabilities capability_bits cs) (λ bits. Ok (caps_line bits))) tt
      (step may.Nothing (capabilities capability_bits cs) (λ bits. caps_line bits) (λ x. refl))
  line_opens lines.Source n cs =
      either may.Nothing (is_some (source before)) (Err OutOfPlace)
      (and_then (text_of cs) (λ t. Ok (source_line t))) tt
      (step may.Nothing (text_of cs) (λ t. source_line t) (λ x. refl))
  line_opens lines.Limit n cs =
      step may.Nothing (limit_set cs (limits before)) (λ l. limit_line l) (λ x. refl)
  line_opens lines.Constant n cs =
      in_room may.Nothing (nat_lt (length (consts before)) 65536)
      (and_then (constant_of cs) (λ v. Ok (const_line v)))
      (step may.Nothing (constant_of cs) (λ v. const_line v) (λ x. refl))
  line_opens lines.Name n cs =
      in_room may.Nothing (nat_lt (length (names before)) 65536)
      (and_then (text_of cs) (λ t. Ok (name_line t)))
      (step may.Nothing (text_of cs) (λ t. name_line t) (λ x. refl))
  line_opens lines.Operator n cs =
      in_room may.Nothing (nat_lt (length (tokens before)) 65536)
      (and_then (token_of cs) (λ t. Ok (op_line t)))
      (step may.Nothing (token_of cs) (λ t. op_line t) (λ x. refl))
  line_opens lines.Assign n cs =
      in_room may.Nothing (nat_lt (length (assigns before)) 65536)
      (and_then (assign_of n cs) (λ a. Ok (assign_line a)))
      (step may.Nothing (assign_of n cs) (λ a. assign_line a) (λ x. refl))
  line_opens lines.Chain n cs =
      in_room may.Steps (nat_lt (length (chains before)) 65536)
      (and_then (chain_of cs) (λ c. Ok (chain_line c)))
      (step may.Steps (chain_of cs) (λ c. chain_line c) (λ x. refl))
  line_opens lines.Step n cs =
      let read : Result Statement Reason = and_then (step_of cs) (λ s. Ok (step_line s)) in
      let room : Bool = nat_lt (length (last_steps (chains before))) 65536 in
      either may.Steps (is_chain_open before) (cond room read (Err TooMany)) (Err OutOfPlace)
      (in_room may.Steps room read (step may.Steps (step_of cs) (λ s. step_line s) (λ x. refl))) tt
  line_opens lines.Switch n cs =
      in_room may.Cases (nat_lt (length (switches before)) 65536)
      (and_then (aim_of n cs) (λ a. Ok (switch_line a)))
      (step may.Cases (aim_of n cs) (λ a. switch_line a) (λ x. refl))
  line_opens lines.Case n cs =
      let read : Result Statement Reason = and_then (case_of n cs) (λ c. Ok (case_line c)) in
      let room : Bool = nat_lt (length (last_cases (switches before))) 65536 in
      either may.Cases (is_switch_open before) (cond room read (Err TooMany)) (Err OutOfPlace)
      (in_room may.Cases room read (step may.Cases (case_of n cs) (λ c. case_line c) (λ x. refl)))
      tt
  line_opens (lines.Range inclusive) n cs =
      let read : Result Statement Reason =
      and_then (range_of inclusive n cs) (λ r. Ok (range_line r)) in
      let room : Bool = nat_lt (length (last_ranges (switches before))) 65536 in
      either may.Cases (is_switch_open before) (cond room read (Err TooMany)) (Err OutOfPlace)
      (in_room may.Cases room read
      (step may.Cases (range_of inclusive n cs) (λ r. range_line r) (λ x. refl))) tt
  line_opens lines.Entry n cs = step may.Nothing (entry_of cs) (λ x. scope_line x) (λ x. refl)
  line_opens lines.Flag n cs = step may.Nothing (flag_of cs) (λ x. flag_line x) (λ x. refl)
  line_opens lines.Fail n cs = step may.Nothing (fail_of cs) (λ x. fail_line x) (λ x. refl)
  line_opens lines.Stop n cs = step may.Nothing (stop_of cs) (λ x. stop_line x) (λ x. refl)
  line_opens lines.Main n cs = step may.Nothing (stack_of cs) (λ m. main_line m) (λ x. refl)
  line_opens lines.Function n cs =
      let read : Result Statement Reason = and_then (header_of cs) (λ x. Ok (fn_line x)) in
      in_room may.Nothing (nat_lt (length (functions before)) 65536)
      (cond (is_crowded cs) (Err TooMany) read)
      (either may.Nothing (is_crowded cs) (Err TooMany) read tt
      (step may.Nothing (header_of cs) (λ x. fn_line x) (λ x. refl)))
  line_opens lines.Byte n cs =
      step may.Nothing (byte_of cs) (λ b. code_line (Byte b.0) [] b.1) (λ x. refl)
  line_opens lines.End n cs = alone_opens cs end_line refl
  line_opens (lines.Instruction i) n cs =
      step may.Nothing (operands n (kinds_of (fields_of i)) cs)
      (λ x. code_line (Byte (tag_of i)) x.0 x.1) (λ x. refl)
  line_opens lines.Later n cs = tt

  label_opens : (t : Option (List ℕ)) (cs : List ℕ) → Opens before may.Nothing (labelled t cs before)
  label_opens None cs = tt
  label_opens (Some t) cs =
      let inside : Result Statement Reason =
      cond (is_some (label_address (encode_utf8_all t) (labels before))) (Err LabelTwice)
      (alone cs (label_line (encode_utf8_all t))) in
      either may.Nothing (begins_letter t) (cond (is_block (section before)) inside (Err OutOfPlace))
      (Err UnknownWord)
      (either may.Nothing (is_block (section before)) inside (Err OutOfPlace)
      (either may.Nothing (is_some (label_address (encode_utf8_all t) (labels before))) (Err LabelTwice)
      (alone cs (label_line (encode_utf8_all t))) tt
      (alone_opens cs (label_line (encode_utf8_all t)) refl)) tt) tt

pub known_opens : (l : Option Line) (n : ℕ) (w : List ℕ) (cs : List ℕ) (before : List Statement) →
    Opens before (opened_by l) (known l n w cs before)
known_opens None n w cs before = label_opens before (before_colon w) cs
known_opens (Some l) n w cs before =
    either before (opened_by (Some l)) (stands l (section before)) (statement l n cs before)
    (Err OutOfPlace) (line_opens before l n cs) tt
