-- Each byte of a listing's code is given by a line, and no byte past it.
use Rattle.std.proofs.Common.{◌≡◌, ◌⊎◌, ◌<◌, ◌≤◌, inl, inr, ℕ, ◌+◌, true, nat_lt, List, [], ◌∷◌, ◌++◌, length, Option, Some, None, IsSome, Result, Ok, Err, chars, refl, sym, ap, ◌∙◌, subst, arith, length-append}
use Rattle.std.proofs.lemmas.Bool.{cases_lt}
use Rattle.std.proofs.lemmas.Bool.Decides.{nat_tests}
use Rattle.std.specs.Int.{w32, to_le_bytes}
use Rattle.std.specs.Str.{is_utf8}
use Rattle.grain_fault.specs.declared.places.Position.{Position}
use Rattle.grain_words.specs.Lines.{lines_of}
use Rattle.grain_program.specs.declared.code.parts.AssignOp.{AssignOp}
use Rattle.grain_literals.specs.Steps.{and_then, present}
use Rattle.grain_literals.specs.declared.reasons.Reason.TheVariants.{UnknownLabel}
use Rattle.grain_listing.specs.Statements
use Rattle.grain_listing.specs.Statements.{Piece, Byte, Goto, Statement, section, labels, aims, pieces, width, address, assigns, label_address, code_of}
use Rattle.grain_listing.specs.SwitchTargets.{all_known}
use Rattle.grain_listing.specs.LineMeanings.{statements}
use Rattle.grain_listing.specs.Reading.{ListingView, look_up, set_up, set_up_of, complete, assign_ops_of, reads, meaning, most_bytes}
use Rattle.grain_listing.specs.declared.reasons.BadLine.{BadLine}
use Rattle.grain_listing.specs.declared.table.Section.{Section}
use Rattle.grain_listing.specs.declared.table.Section.TheVariants as sections
use Rattle.grain_addresses.specs.Places.{Place, places_of}
use Rattle.grain_addresses.specs.Finding.{holds, found}
use Rattle.grain_addresses.specs.Kinds.{line_kind}
use Rattle.grain_addresses.specs.Walks.{start, stepped, place_in, walked}
use Rattle.grain_addresses.specs.declared.kinds.LineKind.{LineKind}
use Rattle.grain_addresses.specs.declared.kinds.LineKind.TheVariants as kinds
use Rattle.grain_addresses.specs.declared.walks.Walk.{Walk}
use Rattle.grain_addresses.proofs.Cuts.{past}
use Rattle.grain_addresses.proofs.ChainsFirst.{HasChain, none_open}
use Rattle.grain_addresses.proofs.Walked.{walk_after, line_read}
use Rattle.grain_addresses.proofs.Readings.{tested, said_first, finds}

-- where a walk ends
abbrev last : Walk → List (List ℕ) → Walk
last w [] = w
last w (l ∷ ls) = last (stepped (line_kind w.in_block l) w) ls

-- a line holds its own bytes
own : (a : ℕ) (p : Place) → p.address ≤ a → a < p.address + p.width → holds a p ≡ true
own a p low high = grind (arith, nat_tests)

-- the line of code that a walk is at
abbrev code_at : Walk → ℕ → Option Position → List ℕ → Place
code_at w width position l = record {
  line = w.lines + 1;
  address = w.address;
  width = width;
  block = w.block;
  position = position;
  text = l;
}

one_held : (k : LineKind) (w : Walk) (l : List ℕ) (rest : List Place) (a : ℕ) → w.address ≤ a →
    ((stepped k w).address ≤ a → IsSome (found a rest)) → IsSome (found a (place_in l w k ++ rest))
one_held (kinds.Code width position) w l rest a low more =
    at (cases_lt a (w.address + width)) where
      at : ((a < w.address + width) ⊎ (w.address + width ≤ a)) →
          IsSome (found a (code_at w width position l ∷ rest))
      at (inl h) =
          let yes = own a (code_at w width position l) low h in
          rw yes refl
      at (inr h) =
          let misses = past a (code_at w width position l) h in
          rw misses (more h)
one_held kinds.Main w l rest a low more = more low
one_held kinds.Function w l rest a low more = more low
one_held kinds.End w l rest a low more = more low
one_held (kinds.Chain slots) w l rest a low more = more low
one_held (kinds.Step slots) w l rest a low more = more low
one_held kinds.Other w l rest a low more = more low

held : (w : Walk) (ls : List (List ℕ)) (a : ℕ) → w.address ≤ a → a < (last w ls).address →
    IsSome (found a (walked w ls))
held w [] a low high = absurd (omega arith)
held w (l ∷ ls) a low high =
    one_held (line_kind w.in_block l) w l (walked (stepped (line_kind w.in_block l) w) ls) a low
    (λ here. held (stepped (line_kind w.in_block l) w) ls a here high)

rises : (k : LineKind) (w : Walk) → w.address ≤ (stepped k w).address
rises (kinds.Code width position) w = omega arith
rises kinds.Main w = omega arith
rises kinds.Function w = omega arith
rises kinds.End w = omega arith
rises (kinds.Chain slots) w = omega arith
rises (kinds.Step slots) w = omega arith
rises kinds.Other w = omega arith

grows : (w : Walk) (ls : List (List ℕ)) → w.address ≤ (last w ls).address
grows w [] = omega arith
grows w (l ∷ ls) =
    let one = rises (line_kind w.in_block l) w in
    let others = grows (stepped (line_kind w.in_block l) w) ls in
    omega (arith, one, others)

one_past : (k : LineKind) (w : Walk) (l : List ℕ) (rest : List Place) (a : ℕ) →
    (stepped k w).address ≤ a → found a rest ≡ None → found a (place_in l w k ++ rest) ≡ None
one_past (kinds.Code width position) w l rest a h none =
    let misses = past a (code_at w width position l) h in
    rw misses none
one_past kinds.Main w l rest a h none = none
one_past kinds.Function w l rest a h none = none
one_past kinds.End w l rest a h none = none
one_past (kinds.Chain slots) w l rest a h none = none
one_past (kinds.Step slots) w l rest a h none = none
one_past kinds.Other w l rest a h none = none

none_past : (w : Walk) (ls : List (List ℕ)) (a : ℕ) → (last w ls).address ≤ a →
    found a (walked w ls) ≡ None
none_past w [] a h = refl
none_past w (l ∷ ls) a h =
    let others = grows (stepped (line_kind w.in_block l) w) ls in
    one_past (line_kind w.in_block l) w l (walked (stepped (line_kind w.in_block l) w) ls) a
    (omega (arith, others, h))
    (none_past (stepped (line_kind w.in_block l) w) ls a h)

-- a walk ends after all that the lines have said
ends : (before : List Statement) (ls : List (List ℕ)) (all : List Statement) → HasChain before →
    statements (length before) before ls ≡ Ok all → last (walk_after before) ls ≡ walk_after all
ends before [] all has e = let is : before ≡ all = cc in ap walk_after is
ends before (l ∷ ls) all has e =
    let t = line_read before l ls all has e in
    ap (λ (k : LineKind). last (stepped k (walk_after before)) ls) (sym t.kind) ∙
    ap (λ (w : Walk). last w ls) t.onward ∙ ends (t.said ∷ before) ls all t.has t.rest

-- the code has as many bytes as its pieces
abbrev HasLength : ℕ → Result (List ℕ) BadLine → Type 0
HasLength n (Ok code) = length code ≡ n
HasLength n (Err e) = Unit {0}

byte_more : (b n : ℕ) (r : Result (List ℕ) BadLine) → HasLength n r →
    HasLength (1 + n) (and_then r (λ code. Ok (b ∷ code)))
byte_more b n (Ok code) h = omega (arith, h)
byte_more b n (Err e) h = tt

goto_more : (a n : ℕ) (r : Result (List ℕ) BadLine) → HasLength n r →
    HasLength (4 + n) (and_then r (λ code. Ok (to_le_bytes w32 a ++ code)))
goto_more a n (Ok code) h =
    let four : length (to_le_bytes w32 a) ≡ 4 = refl in
    omega (arith, length-append (to_le_bytes w32 a) code, four, h)
goto_more a n (Err e) h = tt

goto_there : (line n : ℕ) (o : Option ℕ) (r : Result (List ℕ) BadLine) → HasLength n r →
    HasLength (4 + n) (and_then (present (Statements.bad_line line UnknownLabel) o)
    (λ a. and_then r (λ code. Ok (to_le_bytes w32 a ++ code))))
goto_there line n None r h = tt
goto_there line n (Some a) r h = goto_more a n r h

sized : (ls : List (List ℕ × ℕ)) (ps : List Piece) → HasLength (width ps) (code_of ls ps)
sized ls [] = refl
sized ls (Byte b ∷ ps) = byte_more b (width ps) (code_of ls ps) (sized ls ps)
sized ls (Goto line label ∷ ps) =
    goto_there line (width ps) (label_address label ls) (code_of ls ps) (sized ls ps)

finished : (n : ℕ) (at : Section) (r : Result ListingView BadLine) (s : ListingView) →
    complete n at r ≡ Ok s → r ≡ Ok s
finished n sections.Start r s e = absurd cc
finished n sections.Pools r s e = absurd cc
finished n sections.Block r s e = absurd cc
finished n sections.After r s e = e

-- what the lines have said together is what the listing says
abbrev AreSaid : List Statement → ListingView → Type 0
AreSaid all s = (length s.parts.code ≡ address all) × (s.parts.chains ≡ Statements.chains all)

coded : (all : List Statement) (ops : List AssignOp) (r : Result (List ℕ) BadLine)
    (s : ListingView) → HasLength (address all) r →
    and_then r (λ code. Ok (set_up all ops code)) ≡ Ok s → AreSaid all s
coded all ops (Ok code) s h e =
    let is : set_up all ops code ≡ s = cc in (
      sym (ap (λ (x : ListingView). length x.parts.code) is) ∙ h,
      sym (ap (λ (x : ListingView). x.parts.chains) is),
    )
coded all ops (Err x) s h e = absurd cc

-- what comes after a test that has to be passed
after_check : (known : Result (Unit {0}) BadLine) (r : Result ListingView BadLine)
    (s : ListingView) → and_then known (λ _. r) ≡ Ok s → r ≡ Ok s
after_check (Ok x) r s e = e
after_check (Err x) r s e = absurd cc

linked : (n : ℕ) (all : List Statement) (r : Result (List AssignOp) BadLine) (s : ListingView) →
    and_then r (λ ops. complete n (section all)
    (and_then (all_known (look_up all) (aims all)) (λ _.
    and_then (code_of (labels all) (pieces all)) (λ code. Ok (set_up all ops code))))) ≡ Ok s →
    AreSaid all s
linked n all (Ok ops) s e =
    let known : Result (Unit {0}) BadLine = all_known (look_up all) (aims all) in
    let coded_so : Result ListingView BadLine =
    and_then (code_of (labels all) (pieces all)) (λ code. Ok (set_up all ops code)) in
    coded all ops (code_of (labels all) (pieces all)) s
    (sized (labels all) (pieces all))
    (after_check known coded_so s
    (finished n (section all) (and_then known (λ _. coded_so)) s e))
linked n all (Err x) s e = absurd cc

-- what the lines have said together, how long the code is, and what the chains are
pub record Read (bytes : List ℕ) (s : ListingView) : Type 0 where
  pub all : List Statement
  pub said : statements 0 [] (lines_of (chars bytes)) ≡ Ok all
  pub long : length s.parts.code ≡ address all
  pub chains : s.parts.chains ≡ Statements.chains all

onto : (n : ℕ) (r : Result (List Statement) BadLine) (all : List Statement) (s : ListingView) →
    r ≡ Ok all → and_then r (λ a. set_up_of n a) ≡ Ok s → set_up_of n all ≡ Ok s
onto n r all s is e =
    sym (ap (λ (x : Result (List Statement) BadLine). and_then x (λ a. set_up_of n a)) is) ∙ e

pub read_of : (bytes : List ℕ) (s : ListingView) → reads bytes ≡ Ok s → Read bytes s
read_of bytes s e =
    let lines = lines_of (chars bytes) in
    let means : meaning lines ≡ Ok s =
    (tested (nat_lt most_bytes (length bytes)) (is_utf8 bytes) _ _ (meaning lines) s e).2 in
    let said = said_first (statements 0 [] lines) (λ all. set_up_of (length lines) all) s means in
    let is =
    linked (length lines) said.0 (assign_ops_of (Statements.tokens said.0) (assigns said.0)) s
    (onto (length lines) (statements 0 [] lines) said.0 s said.1 means) in
    record { all = said.0; said = said.1; long = is.0; chains = is.1 }

ends_at : (bytes : List ℕ) (s : ListingView) → reads bytes ≡ Ok s →
    (last start (lines_of (chars bytes))).address ≡ length s.parts.code
ends_at bytes s e =
    let r = read_of bytes s e in
    ap (λ (w : Walk). w.address) (ends [] (lines_of (chars bytes)) r.all none_open r.said) ∙ sym r.long

pub inside : (bytes : List ℕ) (s : ListingView) (a : ℕ) → reads bytes ≡ Ok s →
    a < length s.parts.code → IsSome (found a (places_of (lines_of (chars bytes))))
inside bytes s a e h =
    let end = ends_at bytes s e in
    subst (λ (ps : List Place). IsSome (found a ps)) (finds bytes s e)
    (held start (lines_of (chars bytes)) a (omega arith) (omega (arith, end, h)))

pub outside : (bytes : List ℕ) (s : ListingView) (a : ℕ) → reads bytes ≡ Ok s →
    length s.parts.code ≤ a → found a (places_of (lines_of (chars bytes))) ≡ None
outside bytes s a e h =
    let end = ends_at bytes s e in
    subst (λ (ps : List Place). found a ps ≡ None) (finds bytes s e)
    (none_past start (lines_of (chars bytes)) a (omega (arith, end, h)))
