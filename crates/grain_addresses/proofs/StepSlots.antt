-- The slots of the steps of a list of chains, to which chains and steps are added at its end.
use Rattle.std.proofs.Common.{◌≡◌, ◌⊎◌, inl, inr, ◌<◌, ℕ, zero, suc, ◌+◌, List, [], ◌∷◌, ◌++◌, length, take, Some, refl, sym, ap, ◌∙◌, subst, arith}
use Rattle.std.specs.Prelude.{slice_get}
use Rattle.std.proofs.lemmas.Option.{slice_get_within}
use Rattle.grain_program.specs.Chains.{root_slots, step_slots, steps_slots, chain_slots, all_slots, slot_within}
use Rattle.grain_program.specs.declared.code.chains.Step.{Step}
use Rattle.grain_program.specs.declared.code.chains.Step.TheVariants as step
use Rattle.grain_program.specs.declared.code.chains.Chain.{Chain}
use Rattle.grain_listing.specs.Statements.{with_step, last_steps}

-- ---- lists of steps

steps-append : (a b : List Step) → steps_slots (a ++ b) ≡ steps_slots a + steps_slots b
steps-append [] b = omega arith
steps-append (s ∷ a) b = let h = steps-append a b in omega (arith, h)

one_step : (s : Step) → 0 < step_slots s
one_step (step.Index operand flags q bracket) = omega arith
one_step (step.Property name getter setter flags q) = omega arith
one_step (step.Method name argc operand flags q) = omega arith

-- a step that is there stays where one more comes
kept : (s : Step) (ss : List Step) (n : ℕ) (x : Step) → slice_get ss n ≡ Some x →
    (slice_get (ss ++ s ∷ []) n ≡ Some x) × (take n (ss ++ s ∷ []) ≡ take n ss)
kept s [] n x is = absurd cc
kept s (y ∷ ss) zero x is = (is, refl)
kept s (y ∷ ss) (suc n) x is =
    let h = kept s ss n x is in (h.0, ap (λ (zs : List Step). y ∷ zs) h.1)

-- a step that is then there was there, or is the one that came
split : (s : Step) (ss : List Step) (n : ℕ) (x : Step) → slice_get (ss ++ s ∷ []) n ≡ Some x →
    (slice_get ss n ≡ Some x) ⊎ ((length ss ≡ n) × (s ≡ x))
split s [] zero x is = let same : s ≡ x = cc in inr (refl, same)
split s [] (suc n) x is = absurd cc
split s (y ∷ ss) zero x is = inl is
split s (y ∷ ss) (suc n) x is = later (split s ss n x is) where
  later : ((slice_get ss n ≡ Some x) ⊎ ((length ss ≡ n) × (s ≡ x))) →
      (slice_get ss n ≡ Some x) ⊎ ((suc (length ss) ≡ suc n) × (s ≡ x))
  later (inl h) = inl h
  later (inr h) = inr (ap suc h.0, h.1)

at_end : (s : Step) (ss : List Step) →
    (slice_get (ss ++ s ∷ []) (length ss) ≡ Some s) × (take (length ss) (ss ++ s ∷ []) ≡ ss)
at_end s [] = (refl, refl)
at_end s (y ∷ ss) = let h = at_end s ss in (h.0, ap (λ (zs : List Step). y ∷ zs) h.1)

-- two steps whose slots begin at one place are one step
same_step : (ss : List Step) (n m : ℕ) (x y : Step) → slice_get ss n ≡ Some x →
    slice_get ss m ≡ Some y → steps_slots (take n ss) ≡ steps_slots (take m ss) →
    (n ≡ m) × (x ≡ y)
same_step [] n m x y hx hy e = absurd cc
same_step (s ∷ ss) zero zero x y hx hy e = let same : x ≡ y = cc in (refl, same)
same_step (s ∷ ss) zero (suc m) x y hx hy e = let one = one_step s in absurd (omega (arith, one, e))
same_step (s ∷ ss) (suc n) zero x y hx hy e = let one = one_step s in absurd (omega (arith, one, e))
same_step (s ∷ ss) (suc n) (suc m) x y hx hy e =
    let h = same_step ss n m x y hx hy (omega (arith, e)) in (ap suc h.0, h.1)

-- ---- lists of chains

-- Of these chains, before which there are `base` slots, the one of index k has x as its step of number n,
-- and the slots of x begin at this one.
abbrev pub Begins : ℕ → List Chain → ℕ → ℕ → ℕ → Step → Type 0
Begins base [] k n slot x = ⊥
Begins base (c ∷ cs) zero n slot x =
    (slice_get c.steps n ≡ Some x) × (base + root_slots c.root + steps_slots (take n c.steps) ≡ slot)
Begins base (c ∷ cs) (suc k) n slot x = Begins (base + chain_slots c) cs k n slot x

-- the last chain has this step next
pub record IsNext (base : ℕ) (cs : List Chain) (s : Step) (k n slot : ℕ) (x : Step) : Type 0 where
  pub chain : length cs ≡ suc k
  pub number : length (last_steps cs) ≡ n
  pub slot_is : base + all_slots cs ≡ slot
  pub step_is : s ≡ x

pub stays_before_chain : (base : ℕ) (cs : List Chain) (d : Chain) (k n slot : ℕ) (x : Step) →
    Begins base cs k n slot x → Begins base (cs ++ d ∷ []) k n slot x
stays_before_chain base [] d k n slot x h = absurd h
stays_before_chain base (c ∷ cs) d zero n slot x h = h
stays_before_chain base (c ∷ cs) d (suc k) n slot x h =
    stays_before_chain (base + chain_slots c) cs d k n slot x h

none_in : (ss : List Step) (n : ℕ) (x : Step) → ss ≡ [] → slice_get ss n ≡ Some x → ⊥
none_in [] n x none is = cc
none_in (s ∷ ss) n x none is = cc

pub was_before_chain : (base : ℕ) (cs : List Chain) (d : Chain) (k n slot : ℕ) (x : Step) →
    d.steps ≡ [] → Begins base (cs ++ d ∷ []) k n slot x → Begins base cs k n slot x
was_before_chain base [] d zero n slot x none h = none_in d.steps n x none h.0
was_before_chain base [] d (suc k) n slot x none h = h
was_before_chain base (c ∷ cs) d zero n slot x none h = h
was_before_chain base (c ∷ cs) d (suc k) n slot x none h =
    was_before_chain (base + chain_slots c) cs d k n slot x none h

pub stays_before_step : (base : ℕ) (s : Step) (cs : List Chain) (k n slot : ℕ) (x : Step) →
    Begins base cs k n slot x → Begins base (with_step s cs) k n slot x
stays_before_step base s [] k n slot x h = absurd h
stays_before_step base s (c ∷ []) zero n slot x h =
    let more = kept s c.steps n x h.0 in
    (more.0, ap (λ (ss : List Step). base + root_slots c.root + steps_slots ss) more.1 ∙ h.1)
stays_before_step base s (c ∷ []) (suc k) n slot x h = absurd h
stays_before_step base s (c ∷ d ∷ cs) zero n slot x h = h
stays_before_step base s (c ∷ d ∷ cs) (suc k) n slot x h =
    stays_before_step (base + chain_slots c) s (d ∷ cs) k n slot x h

-- one chain more in front
next_behind : (base : ℕ) (c d : Chain) (cs : List Chain) (s : Step) (k n slot : ℕ) (x : Step) →
    IsNext (base + chain_slots c) (d ∷ cs) s k n slot x → IsNext base (c ∷ d ∷ cs) s (suc k) n slot x
next_behind base c d cs s k n slot x h = record {
  chain = ap suc h.chain;
  number = h.number;
  slot_is = omega (arith, h.slot_is);
  step_is = h.step_is;
}

pub was_before_step : (base : ℕ) (s : Step) (cs : List Chain) (k n slot : ℕ) (x : Step) →
    Begins base (with_step s cs) k n slot x → Begins base cs k n slot x ⊎ IsNext base cs s k n slot x
was_before_step base s [] k n slot x h = absurd h
was_before_step base s (c ∷ []) zero n slot x h = at (split s c.steps n x h.0) where
  at : ((slice_get c.steps n ≡ Some x) ⊎ ((length c.steps ≡ n) × (s ≡ x))) →
      Begins base (c ∷ []) zero n slot x ⊎ IsNext base (c ∷ []) s zero n slot x
  at (inl was) =
      let more = kept s c.steps n x was in
      inl (
        was,
        sym (ap (λ (ss : List Step). base + root_slots c.root + steps_slots ss) more.1) ∙ h.1,
      )
  at (inr new) =
      let last : take n (c.steps ++ s ∷ []) ≡ c.steps =
      subst (λ (m : ℕ). take m (c.steps ++ s ∷ []) ≡ c.steps) new.0 (at_end s c.steps).1 in
      let slots = ap steps_slots last in
      inr (record {
        chain = refl;
        number = new.0;
        slot_is = omega (arith, slots, h.1);
        step_is = new.1;
      })
was_before_step base s (c ∷ []) (suc k) n slot x h = absurd h
was_before_step base s (c ∷ d ∷ cs) zero n slot x h = inl h
was_before_step base s (c ∷ d ∷ cs) (suc k) n slot x h =
    at (was_before_step (base + chain_slots c) s (d ∷ cs) k n slot x h) where
      at : (Begins (base + chain_slots c) (d ∷ cs) k n slot x
          ⊎ IsNext (base + chain_slots c) (d ∷ cs) s k n slot x) →
          Begins (base + chain_slots c) (d ∷ cs) k n slot x
          ⊎ IsNext base (c ∷ d ∷ cs) s (suc k) n slot x
      at (inl was) = inl was
      at (inr new) = inr (next_behind base c d cs s k n slot x new)

-- the step that is added
pub comes : (base : ℕ) (s : Step) (cs : List Chain) (k : ℕ) → length cs ≡ suc k →
    Begins base (with_step s cs) k (length (last_steps cs)) (base + all_slots cs) s
comes base s [] k many = absurd (omega (arith, many))
comes base s (c ∷ []) zero many =
    let there = at_end s c.steps in
    let slots = ap steps_slots there.1 in
    (there.0, omega (arith, slots))
comes base s (c ∷ []) (suc k) many = absurd (omega (arith, many))
comes base s (c ∷ d ∷ cs) zero many = absurd (omega (arith, many))
comes base s (c ∷ d ∷ cs) (suc k) many =
    let grouped : base + chain_slots c + all_slots (d ∷ cs) ≡ base + all_slots (c ∷ d ∷ cs) =
    omega arith in
    subst (λ (slot : ℕ).
    Begins (base + chain_slots c) (with_step s (d ∷ cs)) k (length (last_steps (d ∷ cs))) slot s)
    grouped (comes (base + chain_slots c) s (d ∷ cs) k (omega (arith, many)))

pub one_begins : (base : ℕ) (cs : List Chain) (k n m slot : ℕ) (x y : Step) →
    Begins base cs k n slot x → Begins base cs k m slot y → (n ≡ m) × (x ≡ y)
one_begins base [] k n m slot x y hx hy = absurd hx
one_begins base (c ∷ cs) zero n m slot x y hx hy =
    same_step c.steps n m x y hx.0 hy.0 (omega (arith, hx.1, hy.1))
one_begins base (c ∷ cs) (suc k) n m slot x y hx hy =
    one_begins (base + chain_slots c) cs k n m slot x y hx hy

-- ---- the slots by which a trace names steps

-- the first slot of the step of this number, of the chain of this index
abbrev pub slot_in : List Chain → ℕ → ℕ → ℕ
slot_in cs k n = all_slots (take k cs) + slot_within n (slice_get cs k)

pub begins_at_slot : (base : ℕ) (cs : List Chain) (k n : ℕ) (c : Chain) (x : Step) →
    slice_get cs k ≡ Some c → slice_get c.steps n ≡ Some x →
    Begins base cs k n (base + slot_in cs k n) x
begins_at_slot base [] k n c x is there = absurd cc
begins_at_slot base (d ∷ cs) zero n c x is there =
    let same : d ≡ c = cc in
    (subst (λ (e : Chain). slice_get e.steps n ≡ Some x) (sym same) there, omega arith)
begins_at_slot base (d ∷ cs) (suc k) n c x is there =
    let grouped : base + chain_slots d + slot_in cs k n ≡ base + slot_in (d ∷ cs) (suc k) n =
    omega arith in
    subst (λ (slot : ℕ). Begins (base + chain_slots d) cs k n slot x) grouped
    (begins_at_slot (base + chain_slots d) cs k n c x is there)

-- where a step begins at a slot, there is one of which it is the first
pub record IsThere (base : ℕ) (cs : List Chain) (k n slot : ℕ) : Type 0 where
  pub chain : Chain
  pub is : slice_get cs k ≡ Some chain
  pub within : n < length chain.steps
  pub slot_is : base + slot_in cs k n ≡ slot

pub is_there : (base : ℕ) (cs : List Chain) (k n slot : ℕ) (x : Step) → Begins base cs k n slot x →
    IsThere base cs k n slot
is_there base [] k n slot x h = absurd h
is_there base (c ∷ cs) zero n slot x h = record {
  chain = c;
  is = refl;
  within = slice_get_within c.steps n x h.0;
  slot_is = omega (arith, h.1);
}
is_there base (c ∷ cs) (suc k) n slot x h =
    let there = is_there (base + chain_slots c) cs k n slot x h in
    record {
      chain = there.chain;
      is = there.is;
      within = there.within;
      slot_is = omega (arith, there.slot_is);
    }

-- ---- how many chains and slots there are

pub slots-chain : (cs : List Chain) (d : Chain) → d.steps ≡ [] →
    all_slots (cs ++ d ∷ []) ≡ all_slots cs + root_slots d.root
slots-chain [] d none = let steps = ap steps_slots none in omega (arith, steps)
slots-chain (c ∷ cs) d none = let h = slots-chain cs d none in omega (arith, h)

pub slots-step : (s : Step) (cs : List Chain) → 0 < length cs →
    all_slots (with_step s cs) ≡ all_slots cs + step_slots s
slots-step s [] some = absurd (omega (arith, some))
slots-step s (c ∷ []) some =
    let steps = steps-append c.steps (s ∷ []) in omega (arith, steps)
slots-step s (c ∷ d ∷ cs) some =
    let h = slots-step s (d ∷ cs) (omega arith) in omega (arith, h)
