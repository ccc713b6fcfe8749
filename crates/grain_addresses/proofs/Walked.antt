-- A walk by words alone finds the lines that give code where a listing is read.
use Rattle.std.proofs.Common.{◌≡◌, ℕ, ◌+◌, Bool, is_some, List, [], ◌∷◌, ◌++◌, length, Option, Some, None, Result, Ok, Err, refl, sym, ap, ◌∙◌, subst, arith, append_assoc, length-append}
use Rattle.grain_program.specs.Chains.{all_slots}
use Rattle.grain_literals.specs.Steps.{and_then}
use Rattle.grain_literals.specs.declared.reasons.Reason.{Reason}
use Rattle.grain_program.specs.declared.code.functions.Function.{Function}
use Rattle.grain_listing.specs.Statements.{Statement, chain_line, code_line, end_line, step_line, address, chains, pieces, open_block, functions, functions_ended, function_of}
use Rattle.grain_listing.specs.LineMeanings.{says, at_line, statements}
use Rattle.grain_listing.specs.declared.reasons.BadLine.{BadLine}
use Rattle.grain_listing.specs.declared.blocks.OpenBlock.{OpenBlock}
use Rattle.grain_listing.specs.declared.blocks.OpenBlock.TheVariants as blocks
use Rattle.grain_addresses.specs.Places.{Place, block_of, block_after, place_said, on_said, places_after}
use Rattle.grain_addresses.specs.Kinds.{line_kind}
use Rattle.grain_addresses.specs.StepLines.{StepLine, step_said, steps_after}
use Rattle.grain_addresses.specs.Walks.{functions_after, stepped, place_in, step_in, walked, walked_steps}
use Rattle.grain_addresses.specs.declared.blocks.Block.{Block}
use Rattle.grain_addresses.specs.declared.kinds.LineKind.{LineKind}
use Rattle.grain_addresses.specs.declared.walks.Walk.{Walk}
use Rattle.grain_addresses.proofs.Said.{kind_said}
use Rattle.grain_addresses.proofs.Gives.{gives, width-append}
use Rattle.grain_addresses.proofs.ChainsFirst.{Follows, follows, HasChain, has_chain, length-with_step}
use Rattle.grain_addresses.proofs.StepSlots.{slots-chain, slots-step}

abbrev pub walk_at : ℕ → ℕ → Block → Bool → ℕ → ℕ → ℕ → Walk
walk_at l a b o f k t = record {
  lines = l;
  address = a;
  block = b;
  in_block = o;
  functions = f;
  chains = k;
  slots = t;
}

-- where the next line stands, after lines that said this
abbrev pub walk_after : List Statement → Walk
walk_after before =
    walk_at (length before) (address before) (block_after before) (is_some (open_block before))
    (length (functions before)) (length (chains before)) (all_slots (chains before))

same : {l m a b f g j k t u : ℕ} (block : Block) (o : Bool) → l ≡ m → a ≡ b → f ≡ g → j ≡ k → t ≡ u →
    walk_at l a block o f j t ≡ walk_at m b block o g k u
same {l} {m} {a} {b} {f} {g} {j} {k} {t} {u} block o el ea ef ek et =
    ap (λ (x : ℕ). walk_at x a block o f j t) el ∙ ap (λ (x : ℕ). walk_at m x block o f j t) ea ∙
    ap (λ (x : ℕ). walk_at m b block o x j t) ef ∙ ap (λ (x : ℕ). walk_at m b block o g x t) ek ∙
    ap (λ (x : ℕ). walk_at m b block o g k x) et

counted : (s : Statement) (before : List Statement) → length before + 1 ≡ length (s ∷ before)
counted s before = omega arith

ended : (o : Option OpenBlock) (a : ℕ) (fs : List Function) →
    functions_after (block_of o (length fs)) (length fs) ≡ length (functions_ended o a fs)
ended None a fs = refl
ended (Some (blocks.Main entry n)) a fs = refl
ended (Some (blocks.Function entry h)) a fs =
    let more = length-append fs (function_of entry h a ∷ []) in
    omega (arith, more)

-- one more line
onward : (s : Statement) (before : List Statement) → HasChain before → Follows before s →
    stepped (kind_said s) (walk_after before) ≡ walk_after (s ∷ before)
onward (code_line p ps at) before has follows =
    same (block_after before) (is_some (open_block before)) (counted (code_line p ps at) before)
    (sym (width-append (pieces before) (p ∷ ps))) refl refl refl
onward end_line before has follows =
    same _ _ (counted end_line before) refl
    (ended (open_block before) (address before) (functions before)) refl refl
onward (chain_line c) before has follows =
    let more = length-append (chains before) (c ∷ []) in
    same _ _ (counted (chain_line c) before) refl refl (omega (arith, more))
    (sym (slots-chain (chains before) c follows))
onward (step_line s) before has follows =
    same _ _ (counted (step_line s) before) refl refl (sym (length-with_step s (chains before)))
    (sym (slots-step s (chains before) (has follows)))
onward s before has follows = same _ _ (counted s before) refl refl refl refl

placed : (l : List ℕ) (s : Statement) (before : List Statement) →
    place_in l (walk_after before) (kind_said s) ≡ place_said l before s
placed l (code_line p ps at) before = refl
placed l s before = refl

-- a line that was read has said something
pub taken : (r : Result Statement Reason) (n : ℕ)
    (go : Statement → Result (List Statement) BadLine) (all : List Statement) →
    and_then (at_line n r) go ≡ Ok all → (s : Statement) × ((r ≡ Ok s) × (go s ≡ Ok all))
taken (Ok s) n go all e = (s, (refl, e))
taken (Err x) n go all e = absurd cc

-- a line that was read, with what it says, and the lines after it
pub record IsRead (before : List Statement) (l : List ℕ) (ls : List (List ℕ)) (all : List Statement) :
    Type 0 where
  pub said : Statement
  pub is : says (length before + 1) l before ≡ Ok said
  pub follows : Follows before said
  pub kind : kind_said said ≡ line_kind (is_some (open_block before)) l
  pub onward : stepped (kind_said said) (walk_after before) ≡ walk_after (said ∷ before)
  pub has : HasChain (said ∷ before)
  pub rest : statements (length (said ∷ before)) (said ∷ before) ls ≡ Ok all

pub line_read : (before : List Statement) (l : List ℕ) (ls : List (List ℕ)) (all : List Statement) →
    HasChain before → statements (length before) before (l ∷ ls) ≡ Ok all → IsRead before l ls all
line_read before l ls all has e =
    let t = taken (says (length before + 1) l before) (length before + 1)
    (λ s. statements (length before + 1) (s ∷ before) ls) all e in
    let stands = follows (length before + 1) l before t.0 t.1.0 in
    record {
      said = t.0;
      is = t.1.0;
      follows = stands;
      kind = gives (length before + 1) l before t.0 t.1.0;
      onward = onward t.0 before has stands;
      has = has_chain t.0 before has stands;
      rest =
          subst (λ (k : ℕ). statements k (t.0 ∷ before) ls ≡ Ok all) (counted t.0 before) t.1.1;
    }

pub found_in_order : (before : List Statement) (ls : List (List ℕ)) (all : List Statement) →
    HasChain before → statements (length before) before ls ≡ Ok all →
    walked (walk_after before) ls ≡ places_after before ls
found_in_order before [] all has e = refl
found_in_order before (l ∷ ls) all has e =
    let t = line_read before l ls all has e in
    ap (λ (k : LineKind). place_in l (walk_after before) k ++
    walked (stepped k (walk_after before)) ls) (sym t.kind) ∙
    ap (λ (w : Walk). place_in l (walk_after before) (kind_said t.said) ++ walked w ls) t.onward ∙
    ap (λ (ps : List Place). ps ++ walked (walk_after (t.said ∷ before)) ls)
    (placed l t.said before) ∙
    ap (λ (ps : List Place). place_said l before t.said ++ ps)
    (found_in_order (t.said ∷ before) ls all t.has t.rest) ∙
    sym (ap (λ (r : Result Statement Reason). on_said r
    (λ s. place_said l before s ++ places_after (s ∷ before) ls)) t.is)

step_placed : (l : List ℕ) (s : Statement) (before : List Statement) →
    step_in l (walk_after before) (kind_said s) ≡ step_said l before s
step_placed l (step_line t) before = refl
step_placed l s before = refl

-- a walk by words alone finds the lines that are steps where a listing is read
pub steps_in_order : (before : List Statement) (ls : List (List ℕ)) (all : List Statement) →
    HasChain before → statements (length before) before ls ≡ Ok all →
    walked_steps (walk_after before) ls ≡ steps_after before ls
steps_in_order before [] all has e = refl
steps_in_order before (l ∷ ls) all has e =
    let t = line_read before l ls all has e in
    ap (λ (k : LineKind). step_in l (walk_after before) k ++
    walked_steps (stepped k (walk_after before)) ls) (sym t.kind) ∙
    ap (λ (w : Walk). step_in l (walk_after before) (kind_said t.said) ++ walked_steps w ls)
    t.onward ∙
    ap (λ (ss : List StepLine). ss ++ walked_steps (walk_after (t.said ∷ before)) ls)
    (step_placed l t.said before) ∙
    ap (λ (ss : List StepLine). step_said l before t.said ++ ss)
    (steps_in_order (t.said ∷ before) ls all t.has t.rest) ∙
    sym (ap (λ (r : Result Statement Reason). on_said r
    (λ s. step_said l before s ++ steps_after (s ∷ before) ls)) t.is)

-- one more line of a walk over steps
pub one_step_more : (found : List StepLine) (w : Walk) (k : LineKind) (line : List ℕ)
    (rest after : List (List ℕ)) (all : List StepLine) → rest ≡ line ∷ after →
    k ≡ line_kind w.in_block line → found ++ walked_steps w rest ≡ all →
    (found ++ step_in line w k) ++ walked_steps (stepped k w) after ≡ all
one_step_more found w k line rest after all first is so_far =
    append_assoc found (step_in line w k) (walked_steps (stepped k w) after) ∙
    ap (λ (x : LineKind). found ++ (step_in line w x ++ walked_steps (stepped x w) after)) is ∙
    sym (ap (λ (ls : List (List ℕ)). found ++ walked_steps w ls) first) ∙ so_far

-- one more line of a walk
pub one_more : (found : List Place) (w : Walk) (k : LineKind) (line : List ℕ)
    (rest after : List (List ℕ)) (all : List Place) → rest ≡ line ∷ after → k ≡ line_kind w.in_block line →
    found ++ walked w rest ≡ all →
    (found ++ place_in line w k) ++ walked (stepped k w) after ≡ all
one_more found w k line rest after all first is so_far =
    append_assoc found (place_in line w k) (walked (stepped k w) after) ∙
    ap (λ (x : LineKind). found ++ (place_in line w x ++ walked (stepped x w) after)) is ∙
    sym (ap (λ (ls : List (List ℕ)). found ++ walked w ls) first) ∙ so_far
