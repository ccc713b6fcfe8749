-- The `this` of a frame that is entered, and those of the frames around it.
use Rattle.std.proofs.Common.{◌≡◌, ◌∙◌, ◌≤◌, ◌<◌, ◌+◌, ℕ, List, [], ◌∷◌, Option, Some, None, Bool, true, false, if◌then◌else◌, length, refl, sym, ap, subst, arith}
use Rattle.std.specs.Prelude.{◌==◌, is_some}
use Rattle.std.proofs.lemmas.Bool.Decides.{nat_tests}
use Rattle.grain_value.specs.declared.values.Held.{Held}
use Rattle.grain_frame.specs.Receivers.{KeepsBound, bound_at, newest_held, others_at, without_newest}
use Rattle.grain_frame.specs.declared.receivers.Bound.{Bound}
use Rattle.grain_vm.specs.Methods.{NoneAbove, bound_with}

abbrev first_level : List Bound → ℕ
first_level [] = 0
first_level (b ∷ bs) = b.level

same_level : (a b : ℕ) → (a == b) ≡ true → a ≡ b
same_level a b e = grind (arith, nat_tests, e)

itself : (a : ℕ) → (a == a) ≡ true
itself a = grind (arith, nat_tests)

module _ (level : ℕ) where
  not_above : (a : ℕ) → a ≤ level → (a == (level + 1)) ≡ false
  not_above a le = grind (arith, nat_tests, le)

  -- ---- what a stretch of a frame leaves

  from_others : (a : List Bound) (y : Bound) (ys : List Bound) → y ∷ ys ≡ others_at level a →
      false ≡ is_some (bound_at level a) → NoneAbove level a → y.level ≤ level
  from_others [] y ys e f none = absurd cc
  from_others (x ∷ xs) y ys e f none = by (x.level == level) e f where
    by : (q : Bool) → y ∷ ys ≡ (if q then xs else x ∷ xs) →
        false ≡ is_some (if q then Some x.held else None) → y.level ≤ level
    by true e f = absurd cc
    by false e f = subst (λ (k : ℕ). k ≤ level) (sym (ap first_level e)) none

  -- no frame above has a `this` then either
  pub still_none : (a b : List Bound) → KeepsBound level a b → NoneAbove level a → NoneAbove level b
  still_none a [] kept none = tt
  still_none a (y ∷ ys) kept none = by (y.level == level) refl kept where
    by : (q : Bool) → (y.level == level) ≡ q →
        ((if q then ys else y ∷ ys) ≡ others_at level a)
        × (is_some (if q then Some y.held else None) ≡ is_some (bound_at level a)) → y.level ≤ level
    by true is kept = omega (arith, same_level y.level level is)
    by false is kept = from_others a y ys kept.0 kept.1 none

  -- ---- the frame one level up

  pub unbound_above : (a : List Bound) → NoneAbove level a → bound_at (level + 1) a ≡ None
  unbound_above [] none = refl
  unbound_above (b ∷ bs) none = rw (not_above b.level none) refl

  pub others_above : (a : List Bound) → NoneAbove level a → others_at (level + 1) a ≡ a
  others_above [] none = refl
  others_above (b ∷ bs) none = rw (not_above b.level none) refl

  -- its `this` is the receiver
  pub bound_first : (x : Option Held) (a : List Bound) → NoneAbove level a →
      bound_at (level + 1) (bound_with (level + 1) x a) ≡ x
  bound_first None a none = unbound_above a none
  bound_first (Some h) a none = rw (itself (level + 1)) refl

  pub others_first : (x : Option Held) (a : List Bound) → NoneAbove level a →
      others_at (level + 1) (bound_with (level + 1) x a) ≡ a
  others_first None a none = others_above a none
  others_first (Some h) a none = rw (itself (level + 1)) refl

  pub none_above : (x : Option Held) (a : List Bound) → NoneAbove level a →
      NoneAbove (level + 1) (bound_with (level + 1) x a)
  none_above None [] none = tt
  none_above None (b ∷ bs) none = omega (arith, none)
  none_above (Some h) a none = omega arith

  -- once it is over, those of the frames around it are as they were
  pub others_last : (x : Option Held) (a b : List Bound) → NoneAbove level a →
      KeepsBound (level + 1) (bound_with (level + 1) x a) b → others_at (level + 1) b ≡ a
  others_last x a b none kept = kept.0 ∙ others_first x a none

  pub bound_last : (x : Option Held) (a b : List Bound) → NoneAbove level a →
      KeepsBound (level + 1) (bound_with (level + 1) x a) b →
      is_some (bound_at (level + 1) b) ≡ is_some x
  bound_last x a b none kept =
      kept.1 ∙ ap (λ (o : Option Held). is_some o) (bound_first x a none)

-- where the newest is of another level, it is one of the others
pub none_taken : (level : ℕ) (b : List Bound) → is_some (bound_at level b) ≡ false →
    others_at level b ≡ b
none_taken level [] e = refl
none_taken level (y ∷ ys) e = by (y.level == level) e where
  by : (q : Bool) → is_some (if q then Some y.held else None) ≡ false →
      (if q then ys else y ∷ ys) ≡ y ∷ ys
  by true e = absurd cc
  by false e = refl

-- a call without a receiver leaves all of them
pub all_still : (level : ℕ) (a b : List Bound) → NoneAbove level a → KeepsBound (level + 1) a b →
    b ≡ a
all_still level a b none kept =
    sym (none_taken (level + 1) b (bound_last level None a b none kept))
    ∙ others_last level None a b none kept

-- where the newest is of this level, it is the one that is taken
module _ (level : ℕ) where
  pub bound_none : (b : List Bound) → is_some (bound_at level b) ≡ false → bound_at level b ≡ None
  bound_none [] e = refl
  bound_none (y ∷ ys) e = by (y.level == level) e where
    by : (q : Bool) → is_some (if q then Some y.held else None) ≡ false →
        (if q then Some y.held else None) ≡ None
    by true e = absurd cc
    by false e = refl

  pub bound_there : (b : List Bound) → is_some (bound_at level b) ≡ true → 0 < length b
  bound_there [] e = absurd cc
  bound_there (y ∷ ys) e = omega arith

  pub bound_newest : (b : List Bound) (h : Held) → is_some (bound_at level b) ≡ true →
      newest_held b ≡ Some h → bound_at level b ≡ Some h
  bound_newest [] h e newest = absurd cc
  bound_newest (y ∷ ys) h e newest = by (y.level == level) e where
    by : (q : Bool) → is_some (if q then Some y.held else None) ≡ true →
        (if q then Some y.held else None) ≡ Some h
    by true e = newest
    by false e = absurd cc

  pub others_newest : (b : List Bound) → is_some (bound_at level b) ≡ true →
      without_newest b ≡ others_at level b
  others_newest [] e = absurd cc
  others_newest (y ∷ ys) e = by (y.level == level) e where
    by : (q : Bool) → is_some (if q then Some y.held else None) ≡ true →
        ys ≡ (if q then ys else y ∷ ys)
    by true e = refl
    by false e = absurd cc
