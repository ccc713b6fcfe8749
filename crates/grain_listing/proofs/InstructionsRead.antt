-- The lines of instructions are read as those instructions.
use Rattle.std.proofs.Common.{◌≡◌, ℕ, suc, ◌+◌, ◌-◌, ◌^◌, ◌<◌, ◌≤◌, true, false, ◌&&◌, cond, is_some, List, [], ◌∷◌, ◌++◌, map, Option, Some, None, option_map, Result, Ok, Err, refl, sym, ap, ◌∙◌, arith, append_assoc, append-nil}
use Rattle.std.specs.List.{flat_map, list_all, All, AllByRecursion}
use Rattle.std.specs.Str.{encode_utf8_all}
use Rattle.std.specs.Fmt.{decimal}
use Rattle.std.specs.Int.{w16, w32, to_le_bytes}
use Rattle.grain_fault.specs.declared.places.Position.{Position}
use Rattle.grain_program.specs.declared.code.instruction_set.Op.{Op}
use Rattle.grain_program.specs.declared.code.instruction_set.Op.TheVariants as op
use Rattle.grain_program.specs.declared.code.fields.Field.{Field}
use Rattle.grain_program.specs.Fields.{Size, one, two, four, size_of, number_of, NumberFits, FieldFits}
use Rattle.grain_program.specs.InstructionSet.{tag_of, fields_of}
use Rattle.grain_program.specs.Spelling.{spelled, fields_spelled, spelling, OpFits}
use Rattle.grain_words.specs.Lines.{lines_of}
use Rattle.grain_words.specs.Words.{next_word, is_over}
use Rattle.grain_words.specs.Numerals.{number, begins_letter}
use Rattle.grain_words.specs.Spelled.{is_plain_word, after_words, spaced, is_inside, text_of}
use Rattle.grain_literals.specs.Steps.{and_then, present}
use Rattle.grain_literals.specs.declared.reasons.Reason.{Reason}
use Rattle.grain_literals.specs.declared.reasons.Reason.TheVariants.{BadOperand, OutOfPlace}
use Rattle.grain_listing.specs.Instructions.{word_of, kind_of, kinds_of, encoding_of, op_named}
use Rattle.grain_listing.specs.InstructionLines.{numbers_of, instruction_line, instruction_text}
use Rattle.grain_listing.specs.Table.{is_block, line_of, own_line, pool_line, instruction_line_of, later_line, or_else}
use Rattle.grain_listing.specs.Statements.{Piece, Byte, Goto, Statement, blank, header, main_line, fn_line, end_line, code_line, section, open_block, pieces}
use Rattle.grain_listing.specs.LineMeanings.{bytes, operand, operands, known, begun_by, in_section, says, at_line, statements}
use Rattle.grain_listing.specs.declared.table.Line.{Line}
use Rattle.grain_listing.specs.declared.table.Line.TheVariants as lines
use Rattle.grain_listing.specs.declared.table.OperandKind.{OperandKind}
use Rattle.grain_listing.specs.declared.table.Section.TheVariants as sections
use Rattle.grain_listing.specs.declared.reasons.BadLine.{BadLine}
use Rattle.grain_listing.proofs.Spelled.{in_table}

-- a block is open where the next line stands in one
opened_in_block : (before : List Statement) → section before ≡ sections.Block →
    is_some (open_block before) ≡ true
opened_in_block [] e = absurd cc
opened_in_block (header ∷ before) e = absurd cc
opened_in_block (main_line n ∷ before) e = refl
opened_in_block (fn_line h ∷ before) e = refl
opened_in_block (end_line ∷ before) e = absurd cc
opened_in_block (s ∷ before) e = opened_in_block before e

-- no instruction's word begins another line
other_line : (o : Op) → own_line (word_of o) ≡ None
unfolding own_line
other_line op.Unit = refl
other_line _ = refl

plain_word : (o : Op) → is_plain_word (word_of o) ≡ true
plain_word op.Unit = refl
plain_word _ = refl

-- what is found has the same tag and operands
abbrev IsFound : Op → Op → Type 0
IsFound o i =
    (line_of true (word_of o) ≡ Some (lines.Instruction i)) × (encoding_of i ≡ encoding_of o)

found : (r : Option Op) (x : ℕ × List OperandKind) → option_map encoding_of r ≡ Some x →
    (i : Op) × ((r ≡ Some i) × (encoding_of i ≡ x))
found None x e = absurd cc
found (Some i) x e = (i, (refl, cc))

its_line : (o : Op) → (i : Op) × IsFound o i
unfolding line_of pool_line
its_line o =
    let it = found (op_named (word_of o)) (encoding_of o) (in_table o) in (
      it.0,
      (
        ap (λ (l : Option Line). or_else l
            (or_else (instruction_line_of (op_named (word_of o))) (later_line (word_of o))))
            (other_line o) ∙
            ap (λ e. or_else (instruction_line_of e) (later_line (word_of o))) it.1.0,
        it.1.1,
      ),
    )

-- what is taken from the laws of numbers and words
pub record Laws : Type 0 where
  pub numbers : (most n : ℕ) → n ≤ most → n < 2 ^ 64 → number most (decimal n) ≡ Some n
  pub plain : (n : ℕ) → n < 2 ^ 64 → is_plain_word (decimal n) ≡ true
  pub letterless : (n : ℕ) → n < 2 ^ 64 → begins_letter (decimal n) ≡ false
  pub first : (w : List ℕ) (ws : List (List ℕ)) → is_plain_word w ≡ true →
      next_word (spaced w ws) ≡ Some (w, after_words ws)
  pub next : (w : List ℕ) (ws : List (List ℕ)) → is_plain_word w ≡ true →
      next_word (after_words (w ∷ ws)) ≡ Some (w, after_words ws)
  pub over : (w : List ℕ) (ws : List (List ℕ)) → is_plain_word w ≡ true →
      is_over (after_words (w ∷ ws)) ≡ false
  pub inside : (w : List ℕ) (ws : List (List ℕ)) → is_plain_word w ≡ true →
      list_all is_plain_word ws ≡ true → list_all is_inside (spaced w ws) ≡ true
  pub lines : (ls : List (List ℕ)) → list_all (list_all is_inside) ls ≡ true →
      lines_of (text_of ls) ≡ ls

small : (a : Size) (n : ℕ) → NumberFits a n → n < 2 ^ 64
small one n h = omega arith
small two n h = omega arith
small four n h = omega arith

-- the word of a number is read as its bytes
field_read : Laws → (line : ℕ) (a : Size) (n : ℕ) → NumberFits a n →
    operand line (kind_of a) (decimal n) ≡ Ok (bytes (spelled a n))
field_read laws line one n h = ap (λ o. and_then (present BadOperand o) (λ k. Ok (bytes (k ∷ []))))
    (laws.numbers 255 n (omega arith) (omega arith))
field_read laws line two n h = ap
    (λ o. and_then (present BadOperand o) (λ k. Ok (bytes (to_le_bytes w16 k))))
    (laws.numbers 65535 n (omega arith) (omega arith))
field_read laws line four n h =
    ap (λ b. cond b (Ok (Goto line (encode_utf8_all (decimal n)) ∷ []))
    (and_then (present BadOperand (number (2 ^ 32 - 1) (decimal n)))
    (λ k. Ok (bytes (to_le_bytes w32 k))))) (laws.letterless n (omega arith)) ∙
    ap (λ o. and_then (present BadOperand o) (λ k. Ok (bytes (to_le_bytes w32 k))))
    (laws.numbers (2 ^ 32 - 1) n (omega arith) (omega arith))

abbrev Operands : Type 0
Operands = Result (List Piece × Option Position) Reason

pub bytes-append : (xs ys : List ℕ) → bytes (xs ++ ys) ≡ bytes xs ++ bytes ys
bytes-append [] ys = refl
bytes-append (x ∷ xs) ys = ap (λ l. Byte x ∷ l) (bytes-append xs ys)

-- one more operand before the others
first_read : Laws → (line : ℕ) (f : Field) (fs : List Field) (ks : List OperandKind) →
    NumberFits (size_of f) (number_of f) →
    operands line ks (after_words (numbers_of fs)) ≡ Ok (bytes (fields_spelled fs), None) →
    operands line (kind_of (size_of f) ∷ ks) (after_words (numbers_of (f ∷ fs))) ≡
    Ok (bytes (fields_spelled (f ∷ fs)), None)
first_read laws line f fs ks fits rest =
    let more : (List Piece × List ℕ) → Operands =
    λ a. and_then (operands line ks a.1) (λ o. Ok (a.0 ++ o.0, o.1)) in
    ap (λ (o : Option (List ℕ × List ℕ)). and_then (and_then (present BadOperand o)
    (λ a. and_then (operand line (kind_of (size_of f)) a.0) (λ ps. Ok (ps, a.1)))) more)
    (laws.next (decimal (number_of f)) (numbers_of fs)
    (laws.plain (number_of f) (small (size_of f) (number_of f) fits))) ∙
    ap (λ (r : Result (List Piece) Reason).
    and_then (and_then r (λ ps. Ok (ps, after_words (numbers_of fs)))) more)
    (field_read laws line (size_of f) (number_of f) fits) ∙
    ap (λ (r : Operands). and_then r
    (λ o. Ok (bytes (spelled (size_of f) (number_of f)) ++ o.0, o.1)))
    rest ∙
    ap (λ (ps : List Piece). Ok (ps, None))
    (sym (bytes-append (spelled (size_of f) (number_of f)) (fields_spelled fs)))

fields_read : Laws → (line : ℕ) (fs : List Field) → AllByRecursion FieldFits fs →
    operands line (kinds_of fs) (after_words (numbers_of fs)) ≡
    Ok (bytes (fields_spelled fs), None)
fields_read laws line [] fit = refl
fields_read laws line (f ∷ fs) fit =
    first_read laws line f fs (kinds_of fs) fit.0 (fields_read laws line fs fit.1)

plain_numbers : Laws → (fs : List Field) → AllByRecursion FieldFits fs →
    list_all is_plain_word (numbers_of fs) ≡
    true
plain_numbers laws [] fit = refl
plain_numbers laws (f ∷ fs) fit =
    ap (λ b. b && list_all is_plain_word (numbers_of fs))
    (laws.plain (number_of f) (small (size_of f) (number_of f) fit.0)) ∙ plain_numbers laws fs fit.1

-- what the line of the instruction says
abbrev instruction_said : Op → Statement
instruction_said o = code_line (Byte (tag_of o)) (bytes (fields_spelled (fields_of o))) None

one_read : Laws → (n : ℕ) (o : Op) (before : List Statement) → OpFits o →
    section before ≡ sections.Block →
    says n (instruction_line o) before ≡ Ok (instruction_said o)
one_read laws n o before fits block =
    let cs : List ℕ = after_words (numbers_of (fields_of o)) in
    let it = its_line o in
    let with_encoding : ℕ × List OperandKind → Result Statement Reason =
    λ e. and_then (operands n e.1 cs) (λ x. Ok (code_line (Byte e.0) x.0 x.1)) in
    ap (λ b. cond b (Ok blank) (in_section (section before) n (instruction_line o) before))
    (laws.over (word_of o) (numbers_of (fields_of o)) (plain_word o)) ∙
    ap (λ s. in_section s n (instruction_line o) before) block ∙
    ap (λ a. begun_by a n before)
    (laws.first (word_of o) (numbers_of (fields_of o)) (plain_word o)) ∙
    ap (λ b. known (line_of b (word_of o)) n (word_of o) cs before) (opened_in_block before block) ∙
    ap (λ l. known l n (word_of o) cs before) it.1.0 ∙
    ap (λ s. cond (is_block s) (with_encoding (encoding_of it.0)) (Err OutOfPlace)) block ∙
    ap with_encoding it.1.1 ∙
    ap (λ (r : Operands). and_then r (λ x. Ok (code_line (Byte (tag_of o)) x.0 x.1)))
    (fields_read laws n (fields_of o) fits)

first_fits : (o : Op) (os : List Op) → All OpFits (o ∷ os) → OpFits o
first_fits o os fit = fit 0 o (omega arith)

others_fit : (o : Op) (os : List Op) → All OpFits (o ∷ os) → All OpFits os
others_fit o os fit = λ k d h. fit (suc k) d (omega arith)

abbrev Pieces : Type 0
Pieces = Result (List Piece) BadLine

abbrev pieces_read : Result (List Statement) BadLine → Pieces
pieces_read r = and_then r (λ said. Ok (pieces said))

lines_read : Laws → (n : ℕ) (before : List Statement) (ops : List Op) →
    section before ≡ sections.Block → All OpFits ops →
    pieces_read (statements n before (map instruction_line ops)) ≡
    Ok (pieces before ++ bytes (flat_map spelling ops))
lines_read laws n before [] block fit =
    ap (λ (ps : List Piece). Ok ps) (sym (append-nil (pieces before)))
lines_read laws n before (o ∷ os) block fit =
    let here : List Statement = instruction_said o ∷ before in
    let first : says (n + 1) (instruction_line o) before ≡ Ok (instruction_said o) =
    one_read laws (n + 1) o before (first_fits o os fit) block in
    ap (λ (r : Result Statement Reason).
    pieces_read (and_then (at_line (n + 1) r)
    (λ s. statements (n + 1) (s ∷ before) (map instruction_line os)))) first ∙
    lines_read laws (n + 1) here os block (others_fit o os fit) ∙
    ap (λ (ps : List Piece). Ok ps)
    (append_assoc (pieces before) (bytes (spelling o)) (bytes (flat_map spelling os)) ∙
    ap (λ l. pieces before ++ l) (sym (bytes-append (spelling o) (flat_map spelling os))))

inside_all : Laws → (ops : List Op) → All OpFits ops →
    list_all (list_all is_inside) (map instruction_line ops) ≡ true
inside_all laws [] fit = refl
inside_all laws (o ∷ os) fit =
    ap (λ b. b && list_all (list_all is_inside) (map instruction_line os))
    (laws.inside (word_of o) (numbers_of (fields_of o)) (plain_word o)
    (plain_numbers laws (fields_of o) (first_fits o os fit))) ∙
    inside_all laws os (others_fit o os fit)

pub instructions_read : Laws → (n : ℕ) (before : List Statement) (ops : List Op) →
    section before ≡ sections.Block → All OpFits ops →
    and_then (statements n before (lines_of (instruction_text ops))) (λ said. Ok (pieces said)) ≡
    Ok (pieces before ++ bytes (flat_map spelling ops))
instructions_read laws n before ops block fit =
    ap (λ ls. pieces_read (statements n before ls))
    (laws.lines (map instruction_line ops) (inside_all laws ops fit)) ∙
    lines_read laws n before ops block fit
