-- The line of a step is found by the slot that a trace names, and none by a slot where no step begins.
use Rattle.std.proofs.Common.{◌≡◌, ◌⊎◌, inl, inr, ℕ, suc, ◌+◌, ◌&&◌, ◌==◌, Bool, true, false, cond, List, [], ◌∷◌, ◌++◌, length, take, Option, Some, None, IsSomeAnd, Result, Ok, chars, refl, sym, ap, ◌∙◌, subst, arith, append_assoc, length-append}
use Rattle.std.specs.Prelude.{slice_get}
use Rattle.std.proofs.Math.Logic.{⊎_elim}
use Rattle.std.proofs.Math.Seq.{take-append_seam}
use Rattle.std.proofs.lemmas.Bool.Decides.{nat_tests}
use Rattle.grain_program.specs.Chains.{all_slots, slot_of}
use Rattle.grain_program.specs.View.{View}
use Rattle.grain_program.specs.declared.code.chains.Chain.{Chain}
use Rattle.grain_program.specs.declared.code.chains.Step.{Step}
use Rattle.grain_words.specs.Lines.{lines_of}
use Rattle.grain_literals.specs.Steps.{and_then}
use Rattle.grain_literals.specs.declared.reasons.Reason.{Reason}
use Rattle.grain_listing.specs.Statements.{Statement, chain_line, step_line, chains, last_steps}
use Rattle.grain_listing.specs.LineMeanings.{says, at_line, statements}
use Rattle.grain_listing.specs.Reading.{ListingView, reads}
use Rattle.grain_addresses.specs.Places.{on_said}
use Rattle.grain_addresses.specs.StepLines.{StepLine, line_of_step, step_said, steps_after, steps_of, found_step, step_named, SaysStep, BeginsNoStep}
use Rattle.grain_addresses.proofs.ChainsFirst.{Follows, HasChain, none_open}
use Rattle.grain_addresses.proofs.StepSlots.{Begins, IsNext, slot_in, stays_before_chain, was_before_chain, stays_before_step, was_before_step, comes, one_begins, begins_at_slot, is_there}
use Rattle.grain_addresses.proofs.Walked.{taken, IsRead, line_read}
use Rattle.grain_addresses.proofs.Covered.{Read, read_of}

-- ---- one line more

met : (a b c d : ℕ) → a ≡ b → c ≡ d → (a == b) && (c == d) ≡ true
met a b c d first second = grind (arith, nat_tests)

of_test : (a b c d : ℕ) → (a == b) && (c == d) ≡ true → (a ≡ b) × (c ≡ d)
of_test a b c d h = (grind (arith, nat_tests), grind (arith, nat_tests))

passed : (b : Bool) (t : StepLine) (o : Option StepLine) → cond b (Some t) o ≡ None →
    (b ≡ false) × (o ≡ None)
passed true t o none = absurd cc
passed false t o none = (refl, none)

first_or_later : (b : Bool) (t u : StepLine) (o : Option StepLine) → cond b (Some t) o ≡ Some u →
    ((b ≡ true) × (t ≡ u)) ⊎ (o ≡ Some u)
first_or_later true t u o is = let same : t ≡ u = cc in inl (refl, same)
first_or_later false t u o is = inr is

said_more : (n : ℕ) (b : List Statement) (done : List (List ℕ)) (l : List ℕ) (s : Statement)
    (before : List Statement) → statements n b done ≡ Ok before →
    says (n + length done + 1) l before ≡ Ok s → statements n b (done ++ l ∷ []) ≡ Ok (s ∷ before)
said_more n b [] l s before is says_it =
    let same : b ≡ before = cc in
    let here : says (n + 1) l b ≡ Ok s =
    subst (λ (x : List Statement). says (n + 1) l x ≡ Ok s) (sym same)
    (subst (λ (k : ℕ). says k l before ≡ Ok s) (omega arith) says_it) in
    ap (λ (r : Result Statement Reason).
    and_then (at_line (n + 1) r) (λ x. statements (n + 1) (x ∷ b) [])) here ∙
    ap (λ (x : List Statement). Ok (s ∷ x)) same
said_more n b (x ∷ done) l s before is says_it =
    let t = taken (says (n + 1) x b) (n + 1) (λ y. statements (n + 1) (y ∷ b) done) before is in
    ap (λ (r : Result Statement Reason).
    and_then (at_line (n + 1) r) (λ y. statements (n + 1) (y ∷ b) (done ++ l ∷ []))) t.1.0 ∙
    said_more (n + 1) (t.0 ∷ b) done l s before t.1.1
    (subst (λ (k : ℕ). says k l before ≡ Ok s) (omega arith) says_it)

at_seam : (done : List (List ℕ)) (l : List ℕ) (ls : List (List ℕ)) →
    slice_get (done ++ l ∷ ls) (length done) ≡ Some l
at_seam [] l ls = refl
at_seam (x ∷ done) l ls = at_seam done l ls

-- ---- all lines of a listing, which have said this together

module _ (lines : List (List ℕ)) (all : List Statement) (k slot : ℕ) where
  -- these lines were read, and are to be read
  record IsReached (before : List Statement) (ls : List (List ℕ)) : Type 0 where
    done : List (List ℕ)
    whole : done ++ ls ≡ lines
    said : statements 0 [] done ≡ Ok before
    many : length done ≡ length before

  reached_more : (before : List Statement) (l : List ℕ) (ls : List (List ℕ)) →
      IsReached before (l ∷ ls) → (t : IsRead before l ls all) → IsReached (t.said ∷ before) ls
  reached_more before l ls so_far t =
      let done = so_far.done in
      let many = so_far.many in
      let longer = length-append done (l ∷ []) in
      record {
        done = done ++ l ∷ [];
        whole = append_assoc done (l ∷ []) ls ∙ so_far.whole;
        said =
            said_more 0 [] done l t.said before so_far.said
            (subst (λ (n : ℕ). says n l before ≡ Ok t.said) (omega (arith, many)) t.is);
        many = omega (arith, longer, many);
      }

  -- what was said stays as it is
  stays : (before : List Statement) (s : Statement) (n : ℕ) (x : Step) →
      Begins 0 (chains before) k n slot x → Begins 0 (chains (s ∷ before)) k n slot x
  stays before (chain_line c) n x h = stays_before_chain 0 (chains before) c k n slot x h
  stays before (step_line s) n x h = stays_before_step 0 s (chains before) k n slot x h
  stays before s n x h = h

  stays_to_end : (before : List Statement) (ls : List (List ℕ)) (n : ℕ) (x : Step) →
      HasChain before → statements (length before) before ls ≡ Ok all →
      Begins 0 (chains before) k n slot x → Begins 0 (chains all) k n slot x
  stays_to_end before [] n x has e h =
      let same : before ≡ all = cc in
      subst (λ (b : List Statement). Begins 0 (chains b) k n slot x) same h
  stays_to_end before (l ∷ ls) n x has e h =
      let t = line_read before l ls all has e in
      stays_to_end (t.said ∷ before) ls n x t.has t.rest (stays before t.said n x h)

  -- a step that begins at the slot, in the end, was said before a line that is none for the slot
  passes : (before : List Statement) (l : List ℕ) (s : Statement) (later : List StepLine) →
      Follows before s → found_step k slot (step_said l before s ++ later) ≡ None →
      (found_step k slot later ≡ None) × ((n : ℕ) (x : Step) →
      Begins 0 (chains (s ∷ before)) k n slot x → Begins 0 (chains before) k n slot x)
  passes before l (chain_line c) later follows none =
      (none, λ n x h. was_before_chain 0 (chains before) c k n slot x follows h)
  passes before l (step_line s) later follows none =
      (two.1, λ n x h. was n x (was_before_step 0 s (chains before) k n slot x h)) where
        two : (((length (chains before) == suc k) && (all_slots (chains before) == slot)) ≡ false)
            × (found_step k slot later ≡ None)
        two = passed ((length (chains before) == suc k) && (all_slots (chains before) == slot)) _
            (found_step k slot later) none

        was : (n : ℕ) (x : Step) → (Begins 0 (chains before) k n slot x
            ⊎ IsNext 0 (chains before) s k n slot x) → Begins 0 (chains before) k n slot x
        was n x (inl h) = h
        was n x (inr new) =
            let at_slot = new.slot_is in
            let passes = met (length (chains before)) (suc k) (all_slots (chains before)) slot
            new.chain (omega (arith, at_slot)) in
            let fails = two.0 in absurd cc
  passes before l s later follows none = (none, λ n x h. h)

  nowhere_later : (before : List Statement) (ls : List (List ℕ)) (n : ℕ) (x : Step) →
      HasChain before → statements (length before) before ls ≡ Ok all →
      found_step k slot (steps_after before ls) ≡ None → Begins 0 (chains all) k n slot x →
      Begins 0 (chains before) k n slot x
  nowhere_later before [] n x has e none h =
      let same : before ≡ all = cc in
      subst (λ (b : List Statement). Begins 0 (chains b) k n slot x) (sym same) h
  nowhere_later before (l ∷ ls) n x has e none h =
      let t = line_read before l ls all has e in
      let here = passes before l t.said (steps_after (t.said ∷ before) ls) t.follows
      (sym (ap (λ (r : Result Statement Reason). found_step k slot (on_said r
      (λ s. step_said l before s ++ steps_after (s ∷ before) ls))) t.is) ∙ none) in
      here.1 n x (nowhere_later (t.said ∷ before) ls n x t.has t.rest here.0 h)

  -- the line says a step that begins at the slot
  record Names (t : StepLine) : Type 0 where
    number : ℕ
    step : Step
    begins : Begins 0 (chains all) k number slot step
    says_step : SaysStep lines k number step t

  -- this line is the one that is found
  record IsHere (before : List Statement) (l : List ℕ) (s : Statement) (t : StepLine) : Type 0 where
    step : Step
    is : s ≡ step_line step
    chain : length (chains before) ≡ suc k
    at_slot : all_slots (chains before) ≡ slot
    same : line_of_step l before ≡ t

  here_or_later : (before : List Statement) (l : List ℕ) (s : Statement) (later : List StepLine)
      (t : StepLine) → found_step k slot (step_said l before s ++ later) ≡ Some t →
      IsHere before l s t ⊎ (found_step k slot later ≡ Some t)
  here_or_later before l (step_line s) later t found =
      at (first_or_later ((length (chains before) == suc k) && (all_slots (chains before) == slot))
      _ t (found_step k slot later) found) where
        at : (((((length (chains before) == suc k) && (all_slots (chains before) == slot)) ≡ true)
            × (line_of_step l before ≡ t)) ⊎ (found_step k slot later ≡ Some t)) →
            IsHere before l (step_line s) t ⊎ (found_step k slot later ≡ Some t)
        at (inl h) =
            let is = of_test (length (chains before)) (suc k) (all_slots (chains before)) slot h.0 in
            inl (record { step = s; is = refl; chain = is.0; at_slot = is.1; same = h.1 })
        at (inr h) = inr h
  here_or_later before l s later t found = inr found

  says_here : (before : List Statement) (l : List ℕ) (ls : List (List ℕ)) →
      IsReached before (l ∷ ls) → (x : Step) → length (chains before) ≡ suc k →
      says (length before + 1) l before ≡ Ok (step_line x) →
      SaysStep lines k (length (last_steps (chains before))) x (line_of_step l before)
  says_here before l ls so_far x chain read =
      let done = so_far.done in
      let many = so_far.many in
      record {
        index = length done;
        before = before;
        line = omega (arith, many);
        text =
            subst (λ (whole : List (List ℕ)). slice_get whole (length done) ≡ Some l) so_far.whole
            (at_seam done l ls);
        earlier =
            subst (λ (whole : List (List ℕ)).
            statements 0 [] (take (length done) whole) ≡ Ok before) so_far.whole
            (ap (statements 0 []) (take-append_seam done (l ∷ ls)) ∙ so_far.said);
        chain = omega (arith, chain);
        number = refl;
        step = read;
      }

  named_here : (before : List Statement) (l : List ℕ) (ls : List (List ℕ)) (t : StepLine) →
      IsReached before (l ∷ ls) → (r : IsRead before l ls all) → IsHere before l r.said t → Names t
  named_here before l ls t so_far r here =
      let base : 0 + all_slots (chains before) ≡ slot = omega (arith, here.at_slot) in
      let comes_here = subst
      (λ (b : ℕ). Begins 0 (chains (step_line here.step ∷ before)) k
      (length (last_steps (chains before))) b here.step) base
      (comes 0 here.step (chains before) k here.chain) in
      let read : says (length before + 1) l before ≡ Ok (step_line here.step) =
      r.is ∙ ap Ok here.is in
      let said : Begins 0 (chains (r.said ∷ before)) k (length (last_steps (chains before))) slot
      here.step =
      subst (λ (s : Statement). Begins 0 (chains (s ∷ before)) k
      (length (last_steps (chains before))) slot here.step) (sym here.is) comes_here in
      subst Names here.same (record {
        number = length (last_steps (chains before));
        step = here.step;
        begins =
            stays_to_end (r.said ∷ before) ls (length (last_steps (chains before))) here.step
            r.has r.rest said;
        says_step = says_here before l ls so_far here.step here.chain read;
      })

  found_line : (before : List Statement) (ls : List (List ℕ)) (t : StepLine) →
      HasChain before → statements (length before) before ls ≡ Ok all → IsReached before ls →
      found_step k slot (steps_after before ls) ≡ Some t → Names t
  found_line before [] t has e so_far found = absurd cc
  found_line before (l ∷ ls) t has e so_far found =
      let r = line_read before l ls all has e in
      ⊎_elim (λ here. named_here before l ls t so_far r here)
      (λ later.
      found_line (r.said ∷ before) ls t r.has r.rest (reached_more before l ls so_far r) later)
      (here_or_later before l r.said (steps_after (r.said ∷ before) ls) t
      (sym (ap (λ (x : Result Statement Reason). found_step k slot (on_said x
      (λ s. step_said l before s ++ steps_after (s ∷ before) ls))) r.is) ∙ found))

-- nothing was read yet
at_start : (lines : List (List ℕ)) (all : List Statement) (k slot : ℕ) →
    IsReached lines all k slot [] lines
at_start lines all k slot = record { done = []; whole = refl; said = refl; many = refl }

-- ---- bytes that are read as a listing

-- the slot by which a trace names a step is where the step begins
begins_named : (cs ds : List Chain) (k n : ℕ) (c : Chain) (x : Step) → cs ≡ ds →
    slice_get cs k ≡ Some c → slice_get c.steps n ≡ Some x → Begins 0 ds k n (slot_in cs k n) x
begins_named cs ds k n c x same is there =
    subst (λ (es : List Chain). Begins 0 es k n (slot_in cs k n) x) same
    (subst (λ (slot : ℕ). Begins 0 cs k n slot x) (omega arith)
    (begins_at_slot 0 cs k n c x is there))

-- and where no step begins there is none
begins_never : (p : View) (ds : List Chain) (k n slot : ℕ) (x : Step) → p.chains ≡ ds →
    BeginsNoStep p k slot → Begins 0 ds k n slot x → ⊥
begins_never p ds k n slot x same never h =
    let there = is_there 0 p.chains k n slot x
    (subst (λ (es : List Chain). Begins 0 es k n slot x) (sym same) h) in
    let at_slot = there.slot_is in
    never there.chain n there.is there.within (omega (arith, at_slot))

-- the line that is found says the step that begins at the slot
line_named : (lines : List (List ℕ)) (all : List Statement) (k slot n : ℕ) (x : Step) (t : StepLine) →
    Begins 0 (chains all) k n slot x → Names lines all k slot t → SaysStep lines k n x t
line_named lines all k slot n x t begins names =
    let same = one_begins 0 (chains all) k names.number n slot names.step x names.begins begins in
    subst (λ (m : ℕ). SaysStep lines k m x t) same.0
    (subst (λ (y : Step). SaysStep lines k names.number y t) same.1 names.says_step)

pub named : (bytes : List ℕ) (s : ListingView) (k n : ℕ) (c : Chain) (x : Step) →
    reads bytes ≡ Ok s → slice_get s.parts.chains k ≡ Some c → slice_get c.steps n ≡ Some x →
    IsSomeAnd (step_named (Some k) (slot_of s.parts k n) (steps_of (lines_of (chars bytes))))
    (SaysStep (lines_of (chars bytes)) k n x)
named bytes s k n c x e is there = at (found_step k slot (steps_of lines)) refl where
  lines : List (List ℕ)
  lines = lines_of (chars bytes)

  slot : ℕ
  slot = slot_of s.parts k n

  r : Read bytes s
  r = read_of bytes s e

  begins : Begins 0 (chains r.all) k n slot x
  begins = begins_named s.parts.chains (chains r.all) k n c x r.chains is there

  at : (o : Option StepLine) → found_step k slot (steps_of lines) ≡ o →
      IsSomeAnd o (SaysStep lines k n x)
  at None none = absurd (nowhere_later lines r.all k slot [] lines n x none_open r.said none begins)
  at (Some t) found = line_named lines r.all k slot n x t begins
      (found_line lines r.all k slot [] lines t none_open r.said (at_start lines r.all k slot) found)

pub none_named : (bytes : List ℕ) (s : ListingView) (k slot : ℕ) → reads bytes ≡ Ok s →
    BeginsNoStep s.parts k slot →
    step_named (Some k) slot (steps_of (lines_of (chars bytes))) ≡ None
none_named bytes s k slot e never = at (found_step k slot (steps_of lines)) refl where
  lines : List (List ℕ)
  lines = lines_of (chars bytes)

  r : Read bytes s
  r = read_of bytes s e

  at : (o : Option StepLine) → found_step k slot (steps_of lines) ≡ o → o ≡ None
  at None none = refl
  at (Some t) found =
      let names : Names lines r.all k slot t =
      found_line lines r.all k slot [] lines t none_open r.said (at_start lines r.all k slot) found
      in
      absurd (begins_never s.parts (chains r.all) k names.number slot names.step r.chains never
      names.begins)
