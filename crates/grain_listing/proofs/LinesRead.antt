-- What holds while the lines are read.
use Rattle.std.proofs.Common.{◌≡◌, ℕ, ◌+◌, ◌*◌, ◌<◌, ◌≤◌, List, [], ◌∷◌, length, Result, Ok, Err, refl, sym, ap, ◌∙◌, subst, arith}
use Rattle.grain_words.specs.Lines.{lines_of}
use Rattle.grain_literals.specs.Steps.{and_then}
use Rattle.grain_literals.specs.declared.reasons.Reason.{Reason}
use Rattle.grain_listing.specs.Statements.{Statement, address, bad_line}
use Rattle.grain_listing.specs.LineMeanings.{says, at_line, statements}
use Rattle.grain_listing.specs.Reading.{ListingView, set_up_of, meaning}
use Rattle.grain_listing.specs.views.Assembling.{AssemblerView, HasRoom, empty, take_line}
use Rattle.grain_listing.specs.views.Linking.{ending}
use Rattle.grain_listing.specs.views.Ordered.{IsOrdered}
use Rattle.grain_listing.specs.declared.reasons.BadLine.{BadLine}
use Rattle.grain_listing.proofs.Assembled.{assembled, sized}
use Rattle.grain_listing.proofs.Narrow.{narrow}
use Rattle.grain_listing.proofs.Simulates.{given, next, simulates}
use Rattle.grain_listing.proofs.Linked.{ended, ordered}

abbrev pub Read : Type 0
Read = Result ListingView BadLine

-- n lines of the text were read, and the assembler has what they have said
pub record LinesRead (text rest : List ℕ) (n : ℕ) (v : AssemblerView) : Type 0 where
  pub said : List Statement
  pub has : v ≡ assembled n said
  pub onward : and_then (statements n said (lines_of rest))
      (λ (all : List Statement). set_up_of (length (lines_of text)) all) ≡ meaning (lines_of text)
  pub count : n + length (lines_of rest) ≡ length (lines_of text)
  pub room : n + length rest ≤ length text
  pub narrow : address said ≤ 13 * n

pub none_read : (text : List ℕ) (v : AssemblerView) → v ≡ empty → LinesRead text text 0 v
none_read text v e = record {
  said = [];
  has = e;
  onward = refl;
  count = omega arith;
  room =
      omega arith;
  narrow = omega arith;
}

-- a step that went on has given something
passed : {A B E : Type 0} (r : Result A E) (go : A → Result B E) (p : B) → Ok p ≡ and_then r go →
    (x : A) × ((r ≡ Ok x) × (Ok p ≡ go x))
passed (Ok x) go p e = (x, (refl, e))
passed (Err m) go p e = absurd cc

-- a step that was refused was refused for this reason
stopped : (n : ℕ) (said : List Statement) (r : Result Statement Reason) (m : Reason) →
    Err m ≡ and_then r (next n said) → r ≡ Err m
stopped n said (Ok x) m e = absurd cc
stopped n said (Err k) m e = let is : m ≡ k = cc in ap (λ z. Err z) (sym is)

-- the line is numbered before it is read
numbered : (n : ℕ) (cs : List ℕ) (v : AssemblerView) (said : List Statement) →
    v ≡ assembled n said →
    take_line cs (record v { line = n + 1 }) ≡ and_then (says (n + 1) cs said) (next (n + 1) said)
numbered n cs v said has = ap (λ u. take_line cs (record u { line = n + 1 })) has ∙
    simulates (n + 1) cs said

here : (text rest line after : List ℕ) (n : ℕ) (v : AssemblerView)
    (read : LinesRead text rest n v) → lines_of rest ≡ line ∷ lines_of after →
    and_then (and_then (at_line (n + 1) (says (n + 1) line read.said))
    (λ s. statements (n + 1) (s ∷ read.said) (lines_of after)))
    (λ (all : List Statement). set_up_of (length (lines_of text)) all) ≡ meaning (lines_of text)
here text rest line after n v read first =
    sym (ap (λ ls. and_then (statements n read.said ls)
    (λ (all : List Statement). set_up_of (length (lines_of text)) all)) first) ∙ read.onward

pub line_read : (text rest line after : List ℕ) (n : ℕ) (v u : AssemblerView) →
    lines_of rest ≡ line ∷ lines_of after → length after < length rest →
    given u ≡ take_line line (record v { line = n + 1 }) → LinesRead text rest n v →
    LinesRead text after (n + 1) u
line_read text rest line after n v u first less took read =
    let x = passed (says (n + 1) line read.said) (next (n + 1) read.said) u (took ∙
    numbered n line v read.said read.has) in
    let is : given u ≡ given (assembled (n + 1) (x.0 ∷ read.said)) = x.1.1 in
    let many : length (lines_of rest) ≡ 1 + length (lines_of after) =
    ap (λ (ls : List (List ℕ)). length ls) first ∙ omega arith in
    record {
      said = x.0 ∷ read.said;
      has = cc;
      onward =
          sym (ap (λ (r : Result Statement Reason).
          and_then (and_then (at_line (n + 1) r)
          (λ s. statements (n + 1) (s ∷ read.said) (lines_of after)))
          (λ (all : List Statement). set_up_of (length (lines_of text)) all)) x.1.0) ∙
          here text rest line after n v read first;
      count = omega (arith, many, read.count);
      room = omega (arith, less, read.room);
      narrow = omega (arith, read.narrow, narrow (n + 1) line read.said x.0 x.1.0);
    }

abbrev pub refused_for : Reason → Result AssemblerView Reason
refused_for e = Err e

pub line_refused : (text rest line after : List ℕ) (n : ℕ) (v : AssemblerView) (e : Reason) →
    lines_of rest ≡ line ∷ lines_of after →
    refused_for e ≡ take_line line (record v { line = n + 1 }) →
    LinesRead text rest n v → Err (bad_line (n + 1) e) ≡ meaning (lines_of text)
line_refused text rest line after n v e first took read =
    let is : says (n + 1) line read.said ≡ Err e =
    stopped (n + 1) read.said (says (n + 1) line read.said) e (took ∙
    numbered n line v read.said read.has) in
    sym (ap (λ (r : Result Statement Reason).
    and_then (and_then (at_line (n + 1) r)
    (λ s. statements (n + 1) (s ∷ read.said) (lines_of after)))
    (λ (all : List Statement). set_up_of (length (lines_of text)) all)) is) ∙
    here text rest line after n v read first

pub all_read : (text rest : List ℕ) (n : ℕ) (v : AssemblerView) → length rest ≡ 0 →
    LinesRead text rest n v → ending n v ≡ meaning (lines_of text)
all_read text [] n v none read =
    let count : n ≡ length (lines_of text) = let h : n + 0 ≡ length (lines_of text) = read.count in
    omega (arith, h) in
    ap (ending n) read.has ∙ ended n n read.said ∙ ap (λ k. set_up_of k read.said) count ∙
    read.onward
all_read text (c ∷ cs) n v none read = absurd (omega arith)

pub in_order : (text rest : List ℕ) (n : ℕ) (v : AssemblerView) → LinesRead text rest n v →
    IsOrdered v
in_order text rest n v read = subst IsOrdered (sym read.has) (ordered n read.said)

pub has_room : (text rest : List ℕ) (n : ℕ) (v : AssemblerView) → length text ≤ 16777216 →
    LinesRead text rest n v → HasRoom v
has_room text rest n v few read =
    let here : HasRoom (assembled n read.said) =
    omega (arith, sized read.said, read.narrow, read.room, few) in
    subst HasRoom (sym read.has) here
