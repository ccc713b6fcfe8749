-- What an assembler has after lines that have said this.
use Rattle.std.proofs.Common.{◌≡◌, ℕ, ◌+◌, List, [], ◌∷◌, ◌++◌, length, refl, sym, ap, ◌∙◌, arith, append_assoc, append-nil, length-append}
use Rattle.grain_words.specs.Labels.{Addresses, with_label}
use Rattle.grain_listing.specs.Statements.{Piece, Byte, Goto, Statement, code_line, label_line, section, caps, source, limits, flags, host, consts, names, tokens, assigns, chains, switches, aims, open_entry, scope, pieces, width, address, positions, open_block, main_chunk, functions}
use Rattle.grain_listing.specs.LineMeanings.{bytes}
use Rattle.grain_listing.specs.views.Assembling.{AssemblerView}
use Rattle.grain_listing.specs.declared.assembler.Fixup.{Fixup}

-- the code of pieces before their labels are looked up
abbrev pub blanks : List Piece → List ℕ
blanks [] = []
blanks (Byte b ∷ ps) = b ∷ blanks ps
blanks (Goto line label ∷ ps) = 0 ∷ 0 ∷ 0 ∷ 0 ∷ blanks ps

-- the labels in pieces that begin at the address
abbrev pub fixups_from : ℕ → List Piece → List Fixup
fixups_from a [] = []
fixups_from a (Byte b ∷ ps) = fixups_from (a + 1) ps
fixups_from a (Goto line label ∷ ps) =
    record { line = line; at = a; label = label } ∷ fixups_from (a + 4) ps

abbrev pub blank_code : List Statement → List ℕ
blank_code [] = []
blank_code (code_line p ps at ∷ before) = blank_code before ++ blanks (p ∷ ps)
blank_code (s ∷ before) = blank_code before

abbrev pub fixups : List Statement → List Fixup
fixups [] = []
fixups (code_line p ps at ∷ before) =
    fixups before ++ fixups_from (length (blank_code before)) (p ∷ ps)
fixups (s ∷ before) = fixups before

abbrev pub label_map : List Statement → Addresses
label_map [] = []
label_map (label_line t ∷ before) = with_label t (address before) (label_map before)
label_map (s ∷ before) = label_map before

-- while the line of the number is read
abbrev pub assembled : ℕ → List Statement → AssemblerView
assembled line said =
    record {
      line = line;
      section = section said;
      caps = caps said;
      source = source said;
      limits = limits said;
      flags = flags said;
      host = host said;
      scope = scope said;
      consts = consts said;
      names = names said;
      tokens = tokens said;
      assigns = assigns said;
      chains = chains said;
      switches = switches said;
      aims = aims said;
      follows = open_entry said;
      block = open_block said;
      main = main_chunk said;
      functions = functions said;
      code = blank_code said;
      positions = positions said;
      labels = label_map said;
      fixups = fixups said;
    }

pub width-append : (ps qs : List Piece) → width (ps ++ qs) ≡ width ps + width qs
width-append [] qs = omega arith
width-append (Byte b ∷ ps) qs = let h = width-append ps qs in omega (arith, h)
width-append (Goto line label ∷ ps) qs = let h = width-append ps qs in omega (arith, h)

pub length-blanks : (ps : List Piece) → length (blanks ps) ≡ width ps
length-blanks [] = refl
length-blanks (Byte b ∷ ps) = let h = length-blanks ps in omega (arith, h)
length-blanks (Goto line label ∷ ps) = let h = length-blanks ps in omega (arith, h)

pub blanks-append : (ps qs : List Piece) → blanks (ps ++ qs) ≡ blanks ps ++ blanks qs
blanks-append [] qs = refl
blanks-append (Byte b ∷ ps) qs = ap (λ l. b ∷ l) (blanks-append ps qs)
blanks-append (Goto line label ∷ ps) qs = ap (λ l. 0 ∷ 0 ∷ 0 ∷ 0 ∷ l) (blanks-append ps qs)

pub fixups-append : (a : ℕ) (ps qs : List Piece) →
    fixups_from a (ps ++ qs) ≡ fixups_from a ps ++ fixups_from (a + width ps) qs
fixups-append a [] qs = let e : a ≡ a + 0 = omega arith in ap (λ n. fixups_from n qs) e
fixups-append a (Byte b ∷ ps) qs =
    let e : a + 1 + width ps ≡ a + (1 + width ps) = omega arith in
    fixups-append (a + 1) ps qs ∙ ap (λ n. fixups_from (a + 1) ps ++ fixups_from n qs) e
fixups-append a (Goto line label ∷ ps) qs =
    let e : a + 4 + width ps ≡ a + (4 + width ps) = omega arith in
    let first : Fixup = record { line = line; at = a; label = label } in
    ap (λ l. first ∷ l) (fixups-append (a + 4) ps qs ∙
    ap (λ n. fixups_from (a + 4) ps ++ fixups_from n qs) e)

pub blanks-bytes : (bs : List ℕ) → blanks (bytes bs) ≡ bs
blanks-bytes [] = refl
blanks-bytes (b ∷ bs) = ap (λ l. b ∷ l) (blanks-bytes bs)

pub fixups-bytes : (a : ℕ) (bs : List ℕ) → fixups_from a (bytes bs) ≡ []
fixups-bytes a [] = refl
fixups-bytes a (b ∷ bs) = fixups-bytes (a + 1) bs

-- the code of the lines is that of their pieces
pub code_is : (said : List Statement) → blank_code said ≡ blanks (pieces said)
code_is [] = refl
code_is (code_line p ps at ∷ before) = ap (λ l. l ++ blanks (p ∷ ps)) (code_is before) ∙
    sym (blanks-append (pieces before) (p ∷ ps))
code_is (s ∷ before) = code_is before

pub sized : (said : List Statement) → length (blank_code said) ≡ address said
sized said = ap length (code_is said) ∙ length-blanks (pieces said)

pub fixups_are : (said : List Statement) → fixups said ≡ fixups_from 0 (pieces said)
fixups_are [] = refl
fixups_are (code_line p ps at ∷ before) =
    let e : length (blank_code before) ≡ 0 + width (pieces before) = let h = sized before in
    omega (arith, h) in
    ap (λ l. l ++ fixups_from (length (blank_code before)) (p ∷ ps)) (fixups_are before) ∙
    ap (λ n. fixups_from 0 (pieces before) ++ fixups_from n (p ∷ ps)) e ∙
    sym (fixups-append 0 (pieces before) (p ∷ ps))
fixups_are (s ∷ before) = fixups_are before

-- pieces at the end of the code
abbrev pub with_pieces : List Piece → AssemblerView → AssemblerView
with_pieces ps v = record v {
  code = v.code ++ blanks ps;
  fixups =
      v.fixups ++ fixups_from (length v.code) ps;
}

abbrev coded : AssemblerView → List ℕ → List Fixup → AssemblerView
coded v code fixups = record v { code = code; fixups = fixups }

pub bytes_put : (bs : List ℕ) (v : AssemblerView) →
    record v { code = v.code ++ bs } ≡ with_pieces (bytes bs) v
bytes_put bs v =
    ap (λ c. coded v (v.code ++ c) v.fixups) (sym (blanks-bytes bs)) ∙
    ap (λ f. coded v (v.code ++ blanks (bytes bs)) f) (sym (append-nil v.fixups)) ∙
    ap (λ f. coded v (v.code ++ blanks (bytes bs)) (v.fixups ++ f))
    (sym (fixups-bytes (length v.code) bs))

-- one after the other, or both at once
pub put_twice : (ps qs : List Piece) (v : AssemblerView) →
    with_pieces qs (with_pieces ps v) ≡ with_pieces (ps ++ qs) v
put_twice ps qs v =
    let e : length (v.code ++ blanks ps) ≡ length v.code + width ps =
    length-append v.code (blanks ps) ∙ ap (λ n. length v.code + n) (length-blanks ps) in
    let code : (v.code ++ blanks ps) ++ blanks qs ≡ v.code ++ blanks (ps ++ qs) =
    append_assoc v.code (blanks ps) (blanks qs) ∙
    ap (λ l. v.code ++ l) (sym (blanks-append ps qs)) in
    let labels : (v.fixups ++ fixups_from (length v.code) ps) ++
    fixups_from (length (v.code ++ blanks ps)) qs ≡
    v.fixups ++ fixups_from (length v.code) (ps ++ qs) =
    append_assoc v.fixups (fixups_from (length v.code) ps)
    (fixups_from (length (v.code ++ blanks ps)) qs) ∙
    ap (λ n. v.fixups ++ (fixups_from (length v.code) ps ++ fixups_from n qs)) e ∙
    ap (λ l. v.fixups ++ l) (sym (fixups-append (length v.code) ps qs)) in
    ap (λ c. coded v c ((v.fixups ++ fixups_from (length v.code) ps) ++
    fixups_from (length (v.code ++ blanks ps)) qs)) code ∙
    ap (λ f. coded v (v.code ++ blanks (ps ++ qs)) f) labels
