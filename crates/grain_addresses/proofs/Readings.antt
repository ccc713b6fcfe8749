-- What is known of bytes that are read as a listing.
use Rattle.std.proofs.Common.{◌≡◌, ◌≤◌, ℕ, Bool, true, false, cond, List, [], length, nat_lt, chars, Result, Ok, Err, refl, sym, ap, ◌∙◌, arith}
use Rattle.std.proofs.lemmas.Bool.Decides.{nat_tests}
use Rattle.std.specs.Str.{is_utf8}
use Rattle.grain_words.specs.Lines.{lines_of}
use Rattle.grain_literals.specs.Steps.{and_then}
use Rattle.grain_listing.specs.Statements.{Statement}
use Rattle.grain_listing.specs.LineMeanings.{statements}
use Rattle.grain_listing.specs.Reading.{ListingView, reads, meaning, set_up_of, most_bytes}
use Rattle.grain_listing.specs.declared.reasons.BadLine.{BadLine}
use Rattle.grain_addresses.specs.Places.{Place, places_of}
use Rattle.grain_addresses.specs.StepLines.{StepLine, steps_of}
use Rattle.grain_addresses.specs.Replies.{Stock, stock_of, stock_in, are_begun, status_of, listed_text, explained_status, explained_text, status_due, text_due}
use Rattle.grain_addresses.specs.declared.queries.Query.{Query}
use Rattle.grain_addresses.specs.Walks.{start, walked, walked_steps}
use Rattle.grain_addresses.proofs.ChainsFirst.{none_open}
use Rattle.grain_addresses.proofs.Walked.{found_in_order, steps_in_order}

pub tested : (b c : Bool) (x y : BadLine) (m : Result ListingView BadLine) (s : ListingView) →
    cond b (Err x) (cond c m (Err y)) ≡ Ok s → (b ≡ false) × (c ≡ true) × (m ≡ Ok s)
tested true c x y m s e = absurd cc
tested false true x y m s e = (refl, refl, e)
tested false false x y m s e = absurd cc

within : (n : ℕ) → nat_lt most_bytes n ≡ false → n ≤ 16777216
within n h = grind (arith, nat_tests)

pub is_short : (bytes : List ℕ) (s : ListingView) → reads bytes ≡ Ok s → length bytes ≤ 16777216
is_short bytes s e =
    within (length bytes)
    (tested (nat_lt most_bytes (length bytes)) (is_utf8 bytes) _ _ (meaning (lines_of (chars bytes)))
    s e).0

pub is_text : (bytes : List ℕ) (s : ListingView) → reads bytes ≡ Ok s → is_utf8 bytes ≡ true
is_text bytes s e =
    (tested (nat_lt most_bytes (length bytes)) (is_utf8 bytes) _ _ (meaning (lines_of (chars bytes)))
    s e).1

pub said_first : (r : Result (List Statement) BadLine)
    (go : List Statement → Result ListingView BadLine) (s : ListingView) → and_then r go ≡ Ok s →
    (all : List Statement) × (r ≡ Ok all)
said_first (Ok all) go s e = (all, refl)
said_first (Err x) go s e = absurd cc

-- the walk finds the lines that give code in a listing
pub finds : (bytes : List ℕ) (s : ListingView) → reads bytes ≡ Ok s →
    walked start (lines_of (chars bytes)) ≡ places_of (lines_of (chars bytes))
finds bytes s e =
    let lines = lines_of (chars bytes) in
    let means : meaning lines ≡ Ok s =
    (tested (nat_lt most_bytes (length bytes)) (is_utf8 bytes) _ _ (meaning lines) s e).2 in
    let said = said_first (statements 0 [] lines) (λ all. set_up_of (length lines) all) s means in
    found_in_order [] lines said.0 none_open said.1

same_places : (bytes text : List ℕ) (s : ListingView) (places : List Place) → reads bytes ≡ Ok s →
    text ≡ chars bytes → places ≡ walked start (lines_of text) →
    places ≡ places_of (lines_of (chars bytes))
same_places bytes text s places e is found =
    found ∙ ap (λ (t : List ℕ). walked start (lines_of t)) is ∙ finds bytes s e

finds_steps : (bytes : List ℕ) (s : ListingView) → reads bytes ≡ Ok s →
    walked_steps start (lines_of (chars bytes)) ≡ steps_of (lines_of (chars bytes))
finds_steps bytes s e =
    let lines = lines_of (chars bytes) in
    let means : meaning lines ≡ Ok s =
    (tested (nat_lt most_bytes (length bytes)) (is_utf8 bytes) _ _ (meaning lines) s e).2 in
    let said = said_first (statements 0 [] lines) (λ all. set_up_of (length lines) all) s means in
    steps_in_order [] lines said.0 none_open said.1

same_steps : (bytes text : List ℕ) (s : ListingView) (steps : List StepLine) → reads bytes ≡ Ok s →
    text ≡ chars bytes → steps ≡ walked_steps start (lines_of text) →
    steps ≡ steps_of (lines_of (chars bytes))
same_steps bytes text s steps e is found =
    found ∙ ap (λ (t : List ℕ). walked_steps start (lines_of t)) is ∙ finds_steps bytes s e

same_stock : (bytes text : List ℕ) (s : ListingView) (places : List Place) (steps : List StepLine) →
    reads bytes ≡ Ok s → text ≡ chars bytes → places ≡ walked start (lines_of text) →
    steps ≡ walked_steps start (lines_of text) →
    stock_of s.parts places steps ≡ stock_in s (chars bytes)
same_stock bytes text s places steps e is found stepped =
    ap (λ (ps : List Place). stock_of s.parts ps steps) (same_places bytes text s places e is found) ∙
    ap (λ (ss : List StepLine). stock_of s.parts (places_of (lines_of (chars bytes))) ss)
    (same_steps bytes text s steps e is stepped)

-- what is answered of the lines that the walk finds is what is due
pub told_status : (bytes text : List ℕ) (s : ListingView) (places : List Place)
    (steps : List StepLine) (qs : List Query) → reads bytes ≡ Ok s → text ≡ chars bytes →
    places ≡ walked start (lines_of text) → steps ≡ walked_steps start (lines_of text) →
    status_of (are_begun (stock_of s.parts places steps) qs) ≡ status_due bytes qs
told_status bytes text s places steps qs e is found stepped =
    ap (λ (k : Stock). status_of (are_begun k qs))
    (same_stock bytes text s places steps e is found stepped) ∙
    sym (ap (λ (r : Result ListingView BadLine). explained_status r (chars bytes) qs) e)

pub told_text : (bytes text : List ℕ) (s : ListingView) (places : List Place)
    (steps : List StepLine) (qs : List Query) → reads bytes ≡ Ok s → text ≡ chars bytes →
    places ≡ walked start (lines_of text) → steps ≡ walked_steps start (lines_of text) →
    listed_text (stock_of s.parts places steps) qs ≡ text_due bytes qs
told_text bytes text s places steps qs e is found stepped =
    ap (λ (k : Stock). listed_text k qs)
    (same_stock bytes text s places steps e is found stepped) ∙
    sym (ap (λ (r : Result ListingView BadLine). explained_text r (chars bytes) qs) e)
