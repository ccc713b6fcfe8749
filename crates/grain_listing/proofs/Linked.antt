-- The code of an assembler with its labels is the code of the pieces.
use Rattle.std.proofs.Common.{◌≡◌, ℕ, ◌+◌, ◌<◌, ◌≤◌, suc, List, [], ◌∷◌, ◌++◌, length, map, Option, Some, None, Result, Ok, Err, refl, sym, ap, ◌∙◌, subst, arith, append_assoc, length-append, slice_set}
use Rattle.std.proofs.Math.Path.{fun_ext}
use Rattle.std.proofs.Math.Seq.{set-append_seam}
use Rattle.std.specs.Int.{w32, to_le_bytes}
use Rattle.grain_fault.specs.declared.places.Position.{Position}
use Rattle.grain_program.specs.Recorded.{Ascends}
use Rattle.grain_program.specs.declared.code.parts.AssignOp.{AssignOp}
use Rattle.grain_program.specs.declared.code.parts.PositionEntry.{PositionEntry}
use Rattle.grain_words.specs.Labels.{Addresses, address_of}
use Rattle.grain_literals.specs.Steps.{and_then, present}
use Rattle.grain_literals.specs.declared.reasons.Reason.TheVariants.{UnknownLabel}
use Rattle.grain_listing.specs.Statements.{Piece, Byte, Goto, Statement, code_line, section, tokens, assigns, switches, aims, pieces, width, address, labels, label_address, positions, code_of, bad_line}
use Rattle.grain_listing.specs.Reading
use Rattle.grain_listing.specs.Reading.{ListingView, assign_ops_of, look_up, complete, set_up_of}
use Rattle.grain_listing.specs.SwitchTargets.{all_known, linked_switch}
use Rattle.grain_listing.specs.views.Linking.{write_on, write_at, fill, ending}
use Rattle.grain_listing.specs.views.Ordered.{IsOrdered}
use Rattle.grain_listing.specs.declared.reasons.BadLine.{BadLine}
use Rattle.grain_listing.proofs.Assembled.{blanks, fixups_from, blank_code, fixups, label_map, assembled, width-append, code_is, fixups_are, sized}
use Rattle.grain_listing.proofs.FoundLabels.{found}

-- bytes are written over as many others
wrote : (bs over rest front : List ℕ) (at i : ℕ) → length bs ≡ length over → length front ≡ at + i →
    write_on at i bs (front ++ (over ++ rest)) ≡ front ++ (bs ++ rest)
wrote [] [] rest front at i same is = refl
wrote [] (z ∷ zs) rest front at i same is = absurd (omega arith)
wrote (b ∷ bs) [] rest front at i same is = absurd (omega arith)
wrote (b ∷ bs) (z ∷ zs) rest front at i same is =
    let here : slice_set (front ++ (z ∷ (zs ++ rest))) (at + i) b ≡ front ++ (b ∷ (zs ++ rest)) =
    ap (λ k. slice_set (front ++ (z ∷ (zs ++ rest))) k b) (sym is) ∙
    set-append_seam front z (zs ++ rest) b in
    let longer : length (front ++ (b ∷ [])) ≡ at + (i + 1) =
    omega (arith, length-append front (b ∷ []), is) in
    ap (write_on at (i + 1) bs) (here ∙ sym (append_assoc front (b ∷ []) (zs ++ rest))) ∙
    wrote bs zs rest (front ++ (b ∷ [])) at (i + 1) (omega arith) longer ∙
    append_assoc front (b ∷ []) (bs ++ rest)

-- what the lines say, with this way to look a label up
abbrev linked_up : List Statement → List AssignOp → (List ℕ → Option ℕ) → List ℕ → ListingView
linked_up said assign_ops look code =
    let v : ListingView = Reading.set_up said assign_ops code in
    record v {
      parts = record v.parts { switches = map (linked_switch look) (switches said) };
    }

abbrev Code : Type 0
Code = Result (List ℕ) BadLine

moved : (front bs : List ℕ) (r : Code) → and_then r (λ code. Ok ((front ++ bs) ++ code)) ≡
    and_then (and_then r (λ code. Ok (bs ++ code))) (λ code. Ok (front ++ code))
moved front bs (Ok code) = ap (λ (l : List ℕ). Ok l) (append_assoc front bs code)
moved front bs (Err e) = refl

linked : (map : Addresses) (table : List (List ℕ × ℕ)) →
    ((t : List ℕ) → address_of t map ≡ label_address t table) → (ps : List Piece) (front : List ℕ) →
    fill map (fixups_from (length front) ps) (front ++ blanks ps) ≡
    and_then (code_of table ps) (λ code. Ok (front ++ code))
linked map table same [] front = refl
linked map table same (Byte b ∷ ps) front =
    let more : length front + 1 ≡ length (front ++ (b ∷ [])) =
    omega (arith, length-append front (b ∷ [])) in
    ap (λ n. fill map (fixups_from n ps) (front ++ (b ∷ blanks ps))) more ∙
    ap (fill map (fixups_from (length (front ++ (b ∷ []))) ps))
    (sym (append_assoc front (b ∷ []) (blanks ps))) ∙
    linked map table same ps (front ++ (b ∷ [])) ∙ moved front (b ∷ []) (code_of table ps)
linked map table same (Goto line label ∷ ps) front =
    ap (λ o. and_then (present (bad_line line UnknownLabel) o)
    (λ a. fill map (fixups_from (length front + 4) ps)
    (write_at (length front) (to_le_bytes w32 a) (front ++ (0 ∷ 0 ∷ 0 ∷ 0 ∷ blanks ps)))))
    (same label) ∙
    at (label_address label table) (λ a. linked map table same ps (front ++ to_le_bytes w32 a))
  where
    at : (o : Option ℕ) → ((a : ℕ) →
        fill map (fixups_from (length (front ++ to_le_bytes w32 a)) ps)
        ((front ++ to_le_bytes w32 a) ++ blanks ps) ≡
        and_then (code_of table ps) (λ code. Ok ((front ++ to_le_bytes w32 a) ++ code))) →
        and_then (present (bad_line line UnknownLabel) o)
        (λ a. fill map (fixups_from (length front + 4) ps)
        (write_at (length front) (to_le_bytes w32 a) (front ++ (0 ∷ 0 ∷ 0 ∷ 0 ∷ blanks ps)))) ≡
        and_then (and_then (present (bad_line line UnknownLabel) o)
        (λ a. and_then (code_of table ps) (λ code. Ok (to_le_bytes w32 a ++ code))))
        (λ code. Ok (front ++ code))
    at None later = refl
    at (Some a) later =
        let four : length (to_le_bytes w32 a) ≡ 4 = refl in
        let more : length front + 4 ≡ length (front ++ to_le_bytes w32 a) =
        omega (arith, length-append front (to_le_bytes w32 a), four) in
        let written : write_at (length front) (to_le_bytes w32 a)
        (front ++ (0 ∷ 0 ∷ 0 ∷ 0 ∷ blanks ps)) ≡ front ++ (to_le_bytes w32 a ++ blanks ps) =
        wrote (to_le_bytes w32 a) (0 ∷ 0 ∷ 0 ∷ 0 ∷ []) (blanks ps) front (length front) 0 refl
        (omega arith) in
        ap (λ n. fill map (fixups_from n ps)
        (write_at (length front) (to_le_bytes w32 a) (front ++ (0 ∷ 0 ∷ 0 ∷ 0 ∷ blanks ps)))) more ∙
        ap (fill map (fixups_from (length (front ++ to_le_bytes w32 a)) ps)) (written ∙
        sym (append_assoc front (to_le_bytes w32 a) (blanks ps))) ∙
        later a ∙ moved front (to_le_bytes w32 a) (code_of table ps)

alone : (r : Code) → and_then r (λ code. Ok ([] ++ code)) ≡ r
alone (Ok code) = refl
alone (Err e) = refl

filled : (said : List Statement) → fill (label_map said) (fixups said) (blank_code said) ≡
    code_of (labels said) (pieces said)
filled said =
    ap (λ f. fill (label_map said) f (blank_code said)) (fixups_are said) ∙
    ap (fill (label_map said) (fixups_from 0 (pieces said))) (code_is said) ∙
    linked (label_map said) (labels said) (λ t. found t said) (pieces said) [] ∙
    alone (code_of (labels said) (pieces said))

-- both ways of looking labels up find the same
same_look : (said : List Statement) → (λ t. address_of t (label_map said)) ≡ look_up said
same_look said = fun_ext (λ t. found t said)

abbrev Labels : Type 0
Labels = List ℕ → Option ℕ

-- what the assembler has, with this way to look a label up, and this code
abbrev with_look : ℕ → List Statement → List AssignOp → Labels → Code → Result ListingView BadLine
with_look n said assign_ops look r =
    complete n (section said) (and_then (all_known look (aims said)) (λ _. and_then r
    (λ code. Ok (linked_up said assign_ops look code))))

-- after the nth line, which is the last one
pub ended : (m n : ℕ) (said : List Statement) → ending n (assembled m said) ≡ set_up_of n said
ended m n said =
    ap (λ (r : Code). and_then (assign_ops_of (tokens said) (assigns said))
    (λ (assign_ops : List AssignOp).
    with_look n said assign_ops (λ t. address_of t (label_map said)) r)) (filled said)
    ∙ ap (λ (look : Labels). and_then (assign_ops_of (tokens said) (assigns said))
    (λ (assign_ops : List AssignOp).
    with_look n said assign_ops look (code_of (labels said) (pieces said)))) (same_look said)

-- positions come by ascending address
longer : (low end more : ℕ) (es : List PositionEntry) → end ≤ more → Ascends low end es →
    Ascends low more es
longer low end more [] l h = tt
longer low end more (e ∷ es) l h =
    (h.0, omega (arith, h.1), longer (suc e.address) end more es l h.2)

one_more : (low address end : ℕ) (es : List PositionEntry) (p : Position) → Ascends low address es →
    low ≤ address → address < end →
    Ascends low end (es ++ record { address = address; position = p } ∷ [])
one_more low address end [] p h l e = (l, e, tt)
one_more low address end (x ∷ xs) p h l e =
    (h.0, omega (arith, h.1), one_more (suc x.address) address end xs p h.2 (omega (arith, h.1)) e)

some : (p : Piece) (ps : List Piece) → 0 < width (p ∷ ps)
some (Byte b) ps = omega arith
some (Goto line label) ps = omega arith

in_order : (said : List Statement) → Ascends 0 (address said) (positions said)
in_order [] = tt
in_order (code_line p ps None ∷ before) =
    longer 0 (address before) (address (code_line p ps None ∷ before)) (positions before)
    (omega (arith, width-append (pieces before) (p ∷ ps))) (in_order before)
in_order (code_line p ps (Some at) ∷ before) =
    one_more 0 (address before) (address (code_line p ps (Some at) ∷ before)) (positions before) at
    (in_order before) (omega arith)
    (omega (arith, width-append (pieces before) (p ∷ ps), some p ps))
in_order (s ∷ before) = in_order before

pub ordered : (n : ℕ) (said : List Statement) → IsOrdered (assembled n said)
ordered n said = subst (λ k. Ascends 0 k (positions said)) (sym (sized said)) (in_order said)
