-- A chain is said without steps, and a step only after a chain.
use Rattle.std.proofs.Common.{◌≡◌, ◌<◌, ℕ, Bool, true, false, cond, nat_lt, codes, is_some, List, [], ◌∷◌, length, Option, Some, None, Result, Ok, Err, refl, sym, ap, ◌∙◌, subst, arith, length-append}
use Rattle.grain_program.specs.declared.code.chains.Step.{Step}
use Rattle.grain_program.specs.declared.code.chains.Chain.{Chain}
use Rattle.grain_words.specs.Words.{is_over, next_word}
use Rattle.grain_literals.specs.Steps.{and_then}
use Rattle.grain_literals.specs.Operands.{after_name, index}
use Rattle.grain_literals.specs.declared.reasons.Reason.{Reason}
use Rattle.grain_literals.specs.declared.reasons.Reason.TheVariants.{MissingHeader, OutOfPlace, TooMany}
use Rattle.grain_listing.specs.ChainWords.{root_operand, tail_of, chain_of, step_of}
use Rattle.grain_listing.specs.Table.{line_of, stands}
use Rattle.grain_listing.specs.Statements.{Statement, blank, header, chain_line, step_line, section, chains, with_step, last_steps, is_chain_open, open_block}
use Rattle.grain_listing.specs.LineMeanings.{statement, known, header_end, header_number, begun_by, in_section, says}
use Rattle.grain_listing.specs.declared.table.Line.{Line}
use Rattle.grain_listing.specs.declared.table.Line.TheVariants as lines
use Rattle.grain_listing.specs.declared.table.Section.{Section}
use Rattle.grain_listing.specs.declared.table.Section.TheVariants as sections
use Rattle.grain_addresses.specs.Kinds.{kind_of, kind_if, kind_begun, line_kind}
use Rattle.grain_addresses.specs.declared.kinds.LineKind.{LineKind}
use Rattle.grain_addresses.specs.declared.kinds.LineKind.TheVariants as kinds
use Rattle.grain_addresses.proofs.Said.{kind_said}
use Rattle.grain_addresses.proofs.ChainLines.{chain_with}
use Rattle.grain_addresses.proofs.Gives.{gives}

-- what is known of a chain or a step that is said after these lines
abbrev pub Follows : List Statement → Statement → Type 0
Follows before (chain_line c) = c.steps ≡ []
Follows before (step_line s) = is_chain_open before ≡ true
Follows before s = Unit {0}

-- a line that gives neither a chain nor a step
abbrev IsOther : LineKind → Type 0
IsOther (kinds.Chain slots) = ⊥
IsOther (kinds.Step slots) = ⊥
IsOther k = Unit {0}

other_said : (before : List Statement) (s : Statement) → IsOther (kind_said s) → Follows before s
other_said before (chain_line c) h = absurd h
other_said before (step_line s) h = absurd h
other_said before s h = tt

other : (before : List Statement) (s : Statement) (k : LineKind) → kind_said s ≡ k → IsOther k →
    Follows before s
other before s k is h = other_said before s (subst IsOther (sym is) h)

-- what is said after a test that has to hold
after_test : (b : Bool) (r : Result Statement Reason) (e : Reason) (s : Statement) →
    cond b r (Err e) ≡ Ok s → (b ≡ true) × (r ≡ Ok s)
after_test true r e s is = (refl, is)
after_test false r e s is = absurd cc

-- what is said, if anything is, follows these lines
abbrev SaidNext : List Statement → Result Statement Reason → Type 0
SaidNext before (Ok s) = Follows before s
SaidNext before (Err e) = Unit {0}

next_after : {A : Type 0} (before : List Statement) (r : Result A Reason)
    (go : A → Result Chain Reason) →
    ((x : A) → SaidNext before (and_then (go x) (λ c. Ok (chain_line c)))) →
    SaidNext before (and_then (and_then r go) (λ c. Ok (chain_line c)))
next_after before (Ok x) go h = h x
next_after before (Err e) go h = tt

chain_next : (before : List Statement) (cs : List ℕ) →
    SaidNext before (and_then (chain_of cs) (λ c. Ok (chain_line c)))
chain_next before cs =
    next_after before (index cs)
    (λ n. and_then (root_operand n.1) (λ r. and_then (tail_of r.1)
    (λ t. Ok (chain_with n.0 r.0 t))))
    (λ n. next_after before (root_operand n.1)
    (λ r. and_then (tail_of r.1) (λ t. Ok (chain_with n.0 r.0 t)))
    (λ r. next_after before (tail_of r.1) (λ t. Ok (chain_with n.0 r.0 t)) (λ t. refl)))

begun : (before : List Statement) (r : Result Statement Reason) (s : Statement) → SaidNext before r →
    r ≡ Ok s → Follows before s
begun before r s h is = subst (SaidNext before) is h

step_made : {A : Type 0} (before : List Statement) (r : Result A Reason) (say : A → Statement)
    (s : Statement) → ((x : A) → Follows before (say x)) →
    and_then r (λ x. Ok (say x)) ≡ Ok s → Follows before s
step_made before (Ok x) say s h is =
    let same : say x ≡ s = cc in subst (Follows before) same (h x)
step_made before (Err e) say s h is = absurd cc

line_follows : (l : Line) (n : ℕ) (cs : List ℕ) (before : List Statement) (s : Statement) →
    kind_said s ≡ kind_of l cs → statement l n cs before ≡ Ok s → Follows before s
line_follows lines.Chain n cs before s kind is =
    let read : Result Statement Reason = and_then (chain_of cs) (λ c. Ok (chain_line c)) in
    begun before read s (chain_next before cs)
    (after_test (nat_lt (length (chains before)) 65536) read TooMany s is).1
line_follows lines.Step n cs before s kind is =
    let read : Result Statement Reason = and_then (step_of cs) (λ x. Ok (step_line x)) in
    let room : Bool = nat_lt (length (last_steps (chains before))) 65536 in
    let open_here = after_test (is_chain_open before) (cond room read (Err TooMany)) OutOfPlace s is in
    step_made before (step_of cs) (λ x. step_line x) s (λ x. open_here.0)
    (after_test room read TooMany s open_here.1).1
line_follows l n cs before s kind is = other before s (kind_of l cs) kind tt

known_follows : (l : Option Line) (n : ℕ) (w : List ℕ) (cs : List ℕ) (before : List Statement)
    (s : Statement) → kind_said s ≡ kind_if l cs → known l n w cs before ≡ Ok s → Follows before s
known_follows None n w cs before s kind is = other before s kinds.Other kind tt
known_follows (Some l) n w cs before s kind is =
    line_follows l n cs before s kind
    (after_test (stands l (section before)) (statement l n cs before) OutOfPlace s is).1

begun_follows : (o : Option (List ℕ × List ℕ)) (n : ℕ) (before : List Statement) (s : Statement) →
    ((a : List ℕ × List ℕ) → o ≡ Some a →
    kind_said s ≡ kind_if (line_of (is_some (open_block before)) a.0) a.1) →
    begun_by o n before ≡ Ok s → Follows before s
begun_follows None n before s kind is = absurd cc
begun_follows (Some a) n before s kind is =
    known_follows (line_of (is_some (open_block before)) a.0) n a.0 a.1 before s (kind a refl) is

-- the header
end_follows : (o : Option (List ℕ)) (before : List Statement) (s : Statement) →
    header_end o ≡ Ok s → Follows before s
end_follows None before s is = absurd cc
end_follows (Some cs) before s is =
    let same : header ≡ s =
    let said = (after_test (is_over cs) (Ok header) MissingHeader s is).1 in cc in
    subst (Follows before) same tt

header_follows : (o : Option (List ℕ)) (before : List Statement) (s : Statement) →
    header_number o ≡ Ok s → Follows before s
header_follows None before s is = absurd cc
header_follows (Some cs) before s is = end_follows (after_name (codes "1") cs) before s is

word_follows : (n : ℕ) (cs : List ℕ) (before : List Statement) (s : Statement) →
    kind_said s ≡ line_kind (is_some (open_block before)) cs →
    begun_by (next_word cs) n before ≡ Ok s → Follows before s
word_follows n cs before s kind is =
    begun_follows (next_word cs) n before s
    (λ a first. kind ∙ ap (λ (o : Option (List ℕ × List ℕ)).
    kind_begun (is_some (open_block before)) o) first) is

section_follows : (at : Section) (n : ℕ) (cs : List ℕ) (before : List Statement) (s : Statement) →
    kind_said s ≡ line_kind (is_some (open_block before)) cs → in_section at n cs before ≡ Ok s →
    Follows before s
section_follows sections.Start n cs before s kind is =
    header_follows (after_name (codes "grain") cs) before s is
section_follows sections.Pools n cs before s kind is = word_follows n cs before s kind is
section_follows sections.Block n cs before s kind is = word_follows n cs before s kind is
section_follows sections.After n cs before s kind is = word_follows n cs before s kind is

-- what a line says that is read
pub follows : (n : ℕ) (cs : List ℕ) (before : List Statement) (s : Statement) →
    says n cs before ≡ Ok s → Follows before s
follows n cs before s is = at (is_over cs) is where
  at : (b : Bool) → cond b (Ok blank) (in_section (section before) n cs before) ≡ Ok s →
      Follows before s
  at true h = let same : blank ≡ s = cc in subst (Follows before) same tt
  at false h = section_follows (section before) n cs before s (gives n cs before s is) h

-- steps may follow only where there is a chain
abbrev pub HasChain : List Statement → Type 0
HasChain before = is_chain_open before ≡ true → 0 < length (chains before)

pub none_open : HasChain []
none_open opened = absurd cc

pub length-with_step : (s : Step) (cs : List Chain) → length (with_step s cs) ≡ length cs
length-with_step s [] = refl
length-with_step s (c ∷ []) = refl
length-with_step s (c ∷ d ∷ cs) = let h = length-with_step s (d ∷ cs) in omega (arith, h)

pub has_chain : (s : Statement) (before : List Statement) → HasChain before → Follows before s →
    HasChain (s ∷ before)
has_chain (chain_line c) before has follows opened =
    omega (arith, length-append (chains before) (c ∷ []))
has_chain (step_line s) before has follows opened =
    let there = has follows in omega (arith, length-with_step s (chains before), there)
has_chain blank before has follows opened = has opened
has_chain s before has follows opened = absurd cc
