-- The rules of chains: what their tests mean, and which chain is the first that breaks one.
use Rattle.std.proofs.Common.{◌≡◌, ℕ, zero, suc, ◌+◌, ◌-◌, ◌<◌, ◌≤◌, ◌⊎◌, ◌&&◌, Bool, true, false, not, cond, List, [], ◌∷◌, length, take, get_or, Option, Some, None, refl, sym, ap, subst, ◌∙◌, inl, inr, arith}
use Rattle.std.specs.Prelude.{nat_lt, nat_le, slice_get}
use Rattle.std.specs.List.{AllByRecursion}
use Rattle.std.proofs.lemmas.Bool.{cases_lt}
use Rattle.std.proofs.lemmas.Option.{slice_get-get_or}
use Rattle.grain_program.specs.declared.code.chains.Step.{Step}
use Rattle.grain_program.specs.declared.code.chains.Step.TheVariants as step
use Rattle.grain_program.specs.declared.code.chains.Chain.{Chain}
use Rattle.grain_program.specs.declared.verifier.refusals.Refusal.{Refusal}
use Rattle.grain_program.specs.declared.verifier.refusals.Refusal.TheVariants as refusal
use Rattle.grain_program.specs.View.{View}
use Rattle.grain_program.specs.Chains.{steps_slots, chain_slots, all_slots, first_slots, slot_within, most_slots, assigns, is_temporary, is_method_step, ends_in_method, HasOperands, IsGoodChain, AreGoodChains, IsFirstBadChain, has_operands, all_have_operands, is_good_chain, first_bad_chain}
use Rattle.grain_program.specs.Rules.{RefusedForChain}
use Rattle.grain_program.proofs.Decisions.{Decides, lt_decides, le_decides, both_decide}

not_decides : (b : Bool) → Decides (not b) (b ≡ false)
not_decides true = λ e. cc
not_decides false = refl

operand_decides : (operands : ℕ) (s : Step) → Decides (has_operands operands s) (HasOperands operands s)
operand_decides operands (step.Index operand flags q bracket) = lt_decides operand operands
operand_decides operands (step.Property name getter setter flags q) = tt
operand_decides operands (step.Method name argc operand flags q) = le_decides (operand + argc) operands

operands_decide : (operands : ℕ) (ss : List Step)
    → Decides (all_have_operands operands ss) (AllByRecursion (HasOperands operands) ss)
operands_decide operands [] = tt
operands_decide operands (s ∷ ss) =
    both_decide (HasOperands operands s) (AllByRecursion (HasOperands operands) ss)
    (has_operands operands s) (all_have_operands operands ss) (operand_decides operands s)
    (operands_decide operands ss)

abbrev Target : Chain → Type 0
Target c = assigns c.tail && is_temporary c.root ≡ false

abbrev Ending : Chain → Type 0
Ending c = assigns c.tail && ends_in_method c.steps ≡ false

abbrev Operands : Chain → Type 0
Operands c = AllByRecursion (HasOperands c.operands) c.steps

abbrev Room : ℕ → Chain → Type 0
Room before c = before + chain_slots c ≤ most_slots

-- the test of a chain decides whether it obeys the rules
good_decides : (before : ℕ) (c : Chain) → Decides (is_good_chain before c) (IsGoodChain before c)
good_decides before c =
    at (is_good_chain before c) (both_decide (0 < length c.steps) (Target c × (Ending c × (Operands
    c × Room before c))) (nat_lt 0 (length c.steps)) (not (assigns c.tail && is_temporary c.root)
    && (not (assigns c.tail && ends_in_method c.steps) && (all_have_operands c.operands c.steps
    && nat_le (before + chain_slots c) most_slots))) (lt_decides 0 (length c.steps))
    (both_decide (Target c) (Ending c × (Operands c × Room before c)) (not (assigns c.tail
    && is_temporary c.root)) (not (assigns c.tail && ends_in_method c.steps)
    && (all_have_operands c.operands c.steps && nat_le (before + chain_slots c) most_slots))
    (not_decides (assigns c.tail && is_temporary c.root))
    (both_decide (Ending c) (Operands c × Room before c) (not (assigns c.tail && ends_in_method
    c.steps)) (all_have_operands c.operands c.steps && nat_le (before + chain_slots c) most_slots)
    (not_decides (assigns c.tail && ends_in_method c.steps))
    (both_decide (Operands c) (Room before c) (all_have_operands c.operands c.steps) (nat_le
    (before + chain_slots c) most_slots) (operands_decide c.operands c.steps)
    (le_decides (before + chain_slots c) most_slots))))) where
      at : (b : Bool)
          → Decides b
          ((0 < length c.steps) × (Target c × (Ending c × (Operands c × Room before c))))
          → Decides b (IsGoodChain before c)
      at true h = record {
        steps = h.0;
        target = h.1.0;
        ending = h.1.1.0;
        operands = h.1.1.1.0;
        slots = h.1.1.1.1;
      }
      at false h = λ g. h (g.steps, (g.target, (g.ending, (g.operands, g.slots))))

-- what is known of the last of these steps by its index
abbrev is_method_at : Option Step → Bool
is_method_at None = false
is_method_at (Some s) = is_method_step s

method_there : (ss : List Step) (n : ℕ) → length ss ≡ n + 1
    → ends_in_method ss ≡ is_method_at (slice_get ss n)
method_there [] n l = absurd (omega (arith, l))
method_there (s ∷ []) zero l = refl
method_there (s ∷ []) (suc n) l = absurd (omega (arith, l))
method_there (s ∷ t ∷ ss) zero l = absurd (omega (arith, l))
method_there (s ∷ t ∷ ss) (suc n) l = method_there (t ∷ ss) n (omega (arith, l))

last_method : (ss : List Step)
    → ends_in_method ss ≡ is_method_at (slice_get ss (length ss - 1))
last_method [] = refl
last_method (s ∷ ss) = method_there (s ∷ ss) (length (s ∷ ss) - 1) (omega arith)

-- the last step is this one, or there is none
pub last_is : (ss : List Step) (s : Step) → slice_get ss (length ss - 1) ≡ Some s
    → is_method_step s ≡ ends_in_method ss
last_is ss s e = sym (last_method ss ∙ ap is_method_at e)

pub no_last : (ss : List Step) → slice_get ss (length ss - 1) ≡ None
    → false ≡ ends_in_method ss
no_last ss e = sym (last_method ss ∙ ap is_method_at e)

-- of chains before which there are this many slots: each obeys the rules
abbrev AllGood : ℕ → List Chain → Type 0
AllGood before cs =
    (i : ℕ) (c : Chain) → slice_get cs i ≡ Some c → IsGoodChain (before + all_slots (take i cs)) c

-- the chain of this index is the first that does not
pub record FirstBad (before : ℕ) (cs : List Chain) (index : ℕ) : Type 0 where
  chain : Chain
  is : slice_get cs index ≡ Some chain
  bad : IsGoodChain (before + all_slots (take index cs)) chain → ⊥
  first : (i : ℕ) (c : Chain) → i < index → slice_get cs i ≡ Some c
      → IsGoodChain (before + all_slots (take i cs)) c

-- what the search says of chains, of which the first has this index
abbrev Says : ℕ → ℕ → List Chain → Option Refusal → Type 0
Says from before cs None = AllGood before cs
Says from before cs (Some r) = (i : ℕ) × FirstBad before cs i × (r ≡ refusal.BadChain (from + i))

module _ (before : ℕ) (c : Chain) (cs : List Chain) where
  -- the slots before a chain that stands after the first one
  behind : (i : ℕ) → before + chain_slots c + all_slots (take i cs)
      ≡ before + all_slots (take (suc i) (c ∷ cs))
  behind i = omega arith

  first_good : IsGoodChain before c → IsGoodChain (before + all_slots (take 0 (c ∷ cs))) c
  first_good g = subst (λ n. IsGoodChain n c) (omega arith) g

  all_good : IsGoodChain before c → AllGood (before + chain_slots c) cs → AllGood before (c ∷ cs)
  all_good g all zero d e = let same : c ≡ d = cc in
      subst (λ (x : Chain). IsGoodChain (before + all_slots (take 0 (c ∷ cs))) x) same (first_good g)
  all_good g all (suc i) d e = subst (λ n. IsGoodChain n d) (behind i) (all i d e)

  now_bad : (IsGoodChain before c → ⊥) → FirstBad before (c ∷ cs) 0
  now_bad b = record {
    chain = c;
    is = refl;
    bad = λ g. b (subst (λ n. IsGoodChain n c) (omega arith) g);
    first = λ i d lt e. absurd (omega arith);
  }

  later_bad : (i : ℕ) → IsGoodChain before c → FirstBad (before + chain_slots c) cs i
      → FirstBad before (c ∷ cs) (suc i)
  later_bad i g f = record {
    chain = f.chain;
    is = f.is;
    bad = λ h. f.bad (subst (λ n. IsGoodChain n f.chain) (sym (behind i)) h);
    first = λ j d lt e. at j d lt e;
  } where
    at : (j : ℕ) (d : Chain) → j < suc i → slice_get (c ∷ cs) j ≡ Some d
        → IsGoodChain (before + all_slots (take j (c ∷ cs))) d
    at zero d lt e = let same : c ≡ d = cc in
        subst (λ (x : Chain). IsGoodChain (before + all_slots (take 0 (c ∷ cs))) x) same
        (first_good g)
    at (suc j) d lt e =
        subst (λ n. IsGoodChain n d) (behind j) (f.first j d (omega arith) e)

search_says : (from before : ℕ) (cs : List Chain)
    → Says from before cs (first_bad_chain from before cs)
search_says from before [] = λ i c e. absurd cc
search_says from before (c ∷ cs) =
    at (is_good_chain before c) (good_decides before c)
    (first_bad_chain (from + 1) (before + chain_slots c) cs)
    (search_says (from + 1) (before + chain_slots c) cs) where
      at : (b : Bool) → Decides b (IsGoodChain before c) → (o : Option Refusal)
          → Says (from + 1) (before + chain_slots c) cs o
          → Says from before (c ∷ cs) (cond b o (Some (refusal.BadChain from)))
      at true g None all = all_good before c cs g all
      at true g (Some r) f = (
        suc f.0,
        later_bad before c cs f.0 g f.1,
        f.2 ∙ ap (λ (n : ℕ). refusal.BadChain n) (omega arith),
      )
      at false b o s =
          (0, now_bad before c cs b, ap (λ (n : ℕ). refusal.BadChain n) (omega arith))

-- ---- what the search over the pool found

pub all_are_good : (p : View) → first_bad_chain 0 0 p.chains ≡ None → AreGoodChains p
all_are_good p e = λ i c g. subst (λ n. IsGoodChain n c) (omega arith) (all i c g) where
  all : AllGood 0 p.chains
  all = subst (Says 0 0 p.chains) e (search_says 0 0 p.chains)

pub refused_for_chain : (p : View) (r : Refusal) → first_bad_chain 0 0 p.chains ≡ Some r
    → RefusedForChain p r
refused_for_chain p r e =
    let s = subst (Says 0 0 p.chains) e (search_says 0 0 p.chains) in
    let f = s.1 in (
      s.0,
      record {
        chain = f.chain;
        is = f.is;
        bad = λ g. f.bad (subst (λ n. IsGoodChain n f.chain) (omega arith) g);
        first = λ i c lt k. subst (λ n. IsGoodChain n c) (omega arith) (f.first i c lt k);
      },
      s.2 ∙ ap (λ (n : ℕ). refusal.BadChain n) (omega arith),
    )

-- at most one chain is the first
pub one_chain : (p : View) (i j : ℕ) → IsFirstBadChain p i → IsFirstBadChain p j → i ≡ j
one_chain p i j x y = at (cases_lt i j) (cases_lt j i) where
  at : (i < j) ⊎ (j ≤ i) → (j < i) ⊎ (i ≤ j) → i ≡ j
  at (inl lt) z = absurd (x.bad (y.first i x.chain lt x.is))
  at (inr ge) (inl lt) = absurd (y.bad (x.first j y.chain lt y.is))
  at (inr ge) (inr le) = omega arith

-- ---- slots

within_most : (before : ℕ) (cs : List Chain) → before ≤ most_slots → AllGood before cs
    → before + all_slots cs ≤ most_slots
within_most before [] le all = omega (arith, le)
within_most before (c ∷ cs) le all =
    let first : before + chain_slots c ≤ most_slots =
    let s = (all 0 c refl).slots in omega (arith, s) in
    let rest =
    within_most (before + chain_slots c) cs first (λ i d e. subst (λ n. IsGoodChain n d)
    (sym (behind before c cs i)) (all (suc i) d e)) in
    omega (arith, rest)

-- there are slots for all chains of a pool of good ones
pub room_for_all : (p : View) → AreGoodChains p → all_slots p.chains ≤ most_slots
room_for_all p good =
    let le =
    within_most 0 p.chains (omega arith) (λ i c e. subst (λ n. IsGoodChain n c) (omega arith)
    (good i c e)) in omega (arith, le)

-- each chain has a first slot
pub as_many : (before : ℕ) (cs : List Chain) → length (first_slots before cs) ≡ length cs
as_many before [] = refl
as_many before (c ∷ cs) = let n = as_many (before + chain_slots c) cs in omega (arith, n)

pub first_slot : (before : ℕ) (cs : List Chain) (i d : ℕ) → i < length cs
    → get_or (first_slots before cs) i d ≡ before + all_slots (take i cs)
first_slot before [] i d lt = absurd (omega arith)
first_slot before (c ∷ cs) zero d lt = omega arith
first_slot before (c ∷ cs) (suc i) d lt =
    first_slot (before + chain_slots c) cs i d (omega arith) ∙ behind before c cs i

-- the slots of a chain come before those of later ones
pub slot_room : (cs : List Chain) (i : ℕ) (c : Chain) → slice_get cs i ≡ Some c
    → all_slots (take i cs) + chain_slots c ≤ all_slots cs
slot_room [] i c e = absurd cc
slot_room (d ∷ cs) zero c e =
    let same : d ≡ c = cc in let n = ap chain_slots same in omega (arith, n)
slot_room (d ∷ cs) (suc i) c e = let r = slot_room cs i c e in omega (arith, r)

pub steps_within : (n : ℕ) (ss : List Step) → steps_slots (take n ss) ≤ steps_slots ss
steps_within zero ss = omega arith
steps_within (suc n) [] = omega arith
steps_within (suc n) (s ∷ ss) = let r = steps_within n ss in omega (arith, r)

module _ (cs : List Chain) (i : ℕ) (c : Chain) (lt : i < length cs) (is : c ≡ get_or cs i c)
    (room : all_slots cs ≤ most_slots) where
  there : slice_get cs i ≡ Some c
  there = slice_get-get_or cs i c lt ∙ ap (λ (x : Chain). Some x) (sym is)

  pub chain_fits : chain_slots c ≤ most_slots
  chain_fits = omega (arith, slot_room cs i c there, room)

  -- the first slot of a step, as the code adds it up
  module _ (firsts : List ℕ) (number before : ℕ) (are : firsts ≡ first_slots 0 cs)
      (adds : before ≡ slot_within number (Some c)) where
    first : get_or firsts i 0 ≡ all_slots (take i cs)
    first = ap (λ l. get_or l i 0) are ∙ first_slot 0 cs i 0 lt ∙ omega arith

    pub slot_fits : get_or firsts i 0 + before ≤ most_slots
    slot_fits = omega (
      arith,
      first,
      adds,
      slot_room cs i c there,
      steps_within number c.steps,
      room,
    )

    pub slot_is : get_or firsts i 0 + before
        ≡ all_slots (take i cs) + slot_within number (slice_get cs i)
    slot_is =
        ap (λ n. get_or firsts i 0 + n) adds
        ∙ ap (λ n. n + slot_within number (Some c)) first
        ∙ ap (λ o. all_slots (take i cs) + slot_within number o) (sym there)
