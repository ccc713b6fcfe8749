-- The newest `this`, and those of other levels.
use Rattle.std.proofs.Common.{◌≡◌, ◌∙◌, ◌<◌, ◌==◌, ◌+◌, ℕ, zero, suc, List, [], ◌∷◌, ◌++◌, Some, None, Bool, true, false, get_or, length, reverse, refl, sym, ap, arith}
use Rattle.std.proofs.lemmas.List.{length-reverse, reverse-append, reverse-reverse}
use Rattle.std.specs.Prelude.{is_some, if◌then◌else◌, slice_set}
use Rattle.grain_means.specs.lemmas.PlaceLaws.{set-after}
use Rattle.grain_value.specs.declared.values.Held.{Held}
use Rattle.grain_frame.specs.Receivers.{KeepsBound, bound_at, newest_held, with_newest}
use Rattle.grain_frame.specs.declared.receivers.Bound.{Bound}

-- the newest holds what it was given
pub newest_is : (level : ℕ) (bs : List Bound) (h : Held) → is_some (bound_at level bs) ≡ true →
    bound_at level (with_newest h bs) ≡ Some h
newest_is level [] h is = absurd cc
newest_is level (b ∷ bs) h is = at (b.level == level) is where
  at : (c : Bool) → is_some (if c then Some b.held else None) ≡ true →
      (if c then Some h else None) ≡ Some h
  at true is = refl
  at false is = absurd cc

-- where there is one of this level, it is the newest
pub newest_at : (level : ℕ) (bs : List Bound) (h : Held) → bound_at level bs ≡ Some h →
    newest_held bs ≡ Some h
newest_at level [] h is = is
newest_at level (b ∷ bs) h is = at (b.level == level) is where
  at : (c : Bool) → (if c then Some b.held else None) ≡ Some h → Some b.held ≡ Some h
  at true is = is
  at false is = absurd cc

pub some_there : (level : ℕ) (bs : List Bound) → is_some (bound_at level bs) ≡ true → 0 < length bs
some_there level [] is = absurd cc
some_there level (b ∷ bs) is = omega arith

-- of two values the second counts
pub newest_twice : (bs : List Bound) (g h : Held) →
    with_newest h (with_newest g bs) ≡ with_newest h bs
newest_twice [] g h = refl
newest_twice (b ∷ bs) g h = refl

-- what is given what it holds is as it was
pub newest_same : (level : ℕ) (bs : List Bound) (h : Held) → bound_at level bs ≡ Some h →
    with_newest h bs ≡ bs
newest_same level [] h is = refl
newest_same level (b ∷ bs) h is = at (b.level == level) is where
  as_held : b.held ≡ h → record b { held = h } ∷ bs ≡ b ∷ bs
  as_held e = ap (λ (x : Held). record b { held = x } ∷ bs) (sym e)

  at : (c : Bool) → (if c then Some b.held else None) ≡ Some h →
      record b { held = h } ∷ bs ≡ b ∷ bs
  at true is = let e : b.held ≡ h = cc in as_held e
  at false is = absurd cc

-- the others stay where the newest of this level is given something
pub keeps_others : (level : ℕ) (bs : List Bound) (h : Held) → is_some (bound_at level bs) ≡ true →
    KeepsBound level bs (with_newest h bs)
keeps_others level [] h is = absurd cc
keeps_others level (b ∷ bs) h is = at (b.level == level) is where
  at : (c : Bool) → is_some (if c then Some b.held else None) ≡ true →
      ((if c then bs else record b { held = h } ∷ bs) ≡ (if c then bs else b ∷ bs))
      × (is_some (if c then Some h else None) ≡ is_some (if c then Some b.held else None))
  at true is = (refl, refl)
  at false is = absurd cc

pub keeps_both : (level : ℕ) (xs ys zs : List Bound) → KeepsBound level xs ys →
    KeepsBound level ys zs → KeepsBound level xs zs
keeps_both level xs ys zs one two = (two.0 ∙ one.0, two.1 ∙ one.1)

-- The vector has the newest last.
get_last : (xs : List Bound) (b d : Bound) (i : ℕ) → i ≡ length xs →
    get_or (xs ++ b ∷ []) i d ≡ b
get_last [] b d zero e = refl
get_last [] b d (suc i) e = absurd (omega arith)
get_last (x ∷ xs) b d zero e = absurd (omega arith)
get_last (x ∷ xs) b d (suc i) e = get_last xs b d i (omega arith)

set_reversed : (rs : List Bound) (b : Bound) (h : Held) (i : ℕ) → 0 < length rs →
    i + 1 ≡ length (reverse rs) → b ≡ get_or (reverse rs) i b →
    reverse (slice_set (reverse rs) i (record b { held = h })) ≡ with_newest h rs
set_reversed [] b h i some at is = absurd (omega (arith, some))
set_reversed (a ∷ rs) b h i some at is =
    let whole : reverse (a ∷ rs) ≡ reverse rs ++ a ∷ [] = reverse-append (a ∷ []) rs in
    let place : i ≡ length (reverse rs) =
    omega (arith, at, length-reverse (a ∷ rs), length-reverse rs) in
    let same : b ≡ a =
    is ∙ (ap (λ (l : List Bound). get_or l i b) whole ∙ get_last (reverse rs) a b i place) in
    let x : Bound = record b { held = h } in
    ap (λ (l : List Bound). reverse (slice_set l i x)) whole
    ∙ (ap reverse (set-after (reverse rs) (a ∷ []) i 0 x (omega (arith, place)))
    ∙ (reverse-append (reverse rs) (x ∷ [])
    ∙ (ap (λ (l : List Bound). x ∷ l) (reverse-reverse rs)
    ∙ ap (λ (y : Bound). record y { held = h } ∷ rs) same)))

-- the last one is given another value
pub set_is : (bs rs : List Bound) (b : Bound) (h : Held) (i : ℕ) → reverse bs ≡ rs →
    i + 1 ≡ length bs → 0 < length rs → b ≡ get_or bs i b →
    reverse (slice_set bs i (record b { held = h })) ≡ with_newest h rs
set_is bs rs b h i view at some is =
    let back : reverse rs ≡ bs = ap reverse (sym view) ∙ reverse-reverse bs in
    ap (λ (l : List Bound). reverse (slice_set l i (record b { held = h }))) (sym back)
    ∙ set_reversed rs b h i some (at ∙ ap (λ (l : List Bound). length l) (sym back))
    (is ∙ ap (λ (l : List Bound). get_or l i b) (sym back))
