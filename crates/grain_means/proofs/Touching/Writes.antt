-- What a frame does to the roots of a world: it writes inside its `this`, and it adds roots of its own
-- and drops them.
use Rattle.std.proofs.Common.{◌≡◌, ◌≤◌, ◌⊎◌, ◌∙◌, ℕ, List, [], ◌∷◌, ◌++◌, Option, Some, None, length, take, refl, sym, ap, inl, inr, arith, append_assoc, append-nil}
use Rattle.grain_value.specs.declared.values.Dynamic.{Dynamic}
use Rattle.grain_value.specs.declared.values.Held.{Held}
use Rattle.grain_value.specs.declared.values.paths.PathStep.{PathStep}
use Rattle.grain_means.specs.Places.{find, put}
use Rattle.grain_means.specs.Worlds.{Place}

-- a place where a frame with this `this` may write, if there were as many roots as `size` where it began
abbrev pub May : Option Place → ℕ → Place → Type 0
May None size q = size ≤ q.root
May (Some p) size q =
    (size ≤ q.root) ⊎ ((q.root ≡ p.root) × ((path : List PathStep) × (q.path ≡ p.path ++ path)))

-- the roots, and what they were where the frame began
pub data Wrote (t : Option Place) (size : ℕ) (old : List Held) : List Held → Type 0 where
  same : Wrote t size old old
  set : {now : List Held} (q : Place) (v : Dynamic) → May t size q → Wrote t size old now →
      Wrote t size old (put now q v)
  added : {now : List Held} (h : Held) → Wrote t size old now → Wrote t size old (now ++ h ∷ [])
  cut : {now : List Held} (n : ℕ) → size ≤ n → Wrote t size old now → Wrote t size old (take n now)

-- and there are as many
abbrev pub Stands : Option Place → List Held → List Held → Type 0
Stands t old now = Wrote t (length old) old now × (length now ≡ length old)

pub stands_same : (t : Option Place) (old : List Held) → Stands t old old
stands_same t old = (same, refl)

-- something stands at a place, if it is one
abbrev pub Found : List Held → Place → Type 0
Found rs q = (h : Held) × (find rs q ≡ Some h)

abbrev pub Bound : Option Place → List Held → Type 0
Bound None rs = Unit {0}
Bound (Some q) rs = Found rs q

-- a place that may be written, of a frame or in it
abbrev pub MayThis : Option Place → ℕ → Option Place → Type 0
MayThis t size None = Unit {0}
MayThis t size (Some q) = May t size q

pub may_own : (t : Option Place) (size : ℕ) (p : Place) → t ≡ Some p → May t size p
may_own None size p e = absurd cc
may_own (Some r) size p e =
    let is : r ≡ p = cc in
    inr (
      sym (ap (λ (x : Place). x.root) is),
      (
        [],
        sym (ap (λ (x : Place). x.path) is)
            ∙ sym (append-nil r.path),
      ),
    )

pub may_past : (t : Option Place) (size : ℕ) (q : Place) → size ≤ q.root → May t size q
may_past None size q le = le
may_past (Some p) size q le = inl le

-- what stands further inside
pub may_deeper : (t : Option Place) (size : ℕ) (q r : Place) → r.root ≡ q.root →
    (path : List PathStep) → r.path ≡ q.path ++ path → May t size q → May t size r
may_deeper None size q r e path f le = omega (arith, le, e)
may_deeper (Some p) size q r e path f (inl le) = inl (omega (arith, le, e))
may_deeper (Some p) size q r e path f (inr is) =
    inr (
      e ∙ is.0,
      (
        is.1.0 ++ path,
        f ∙ ap (λ (l : List PathStep). l ++ path) is.1.1
            ∙ append_assoc p.path is.1.0 path,
      ),
    )

may_in : (t u : Option Place) (size more : ℕ) → size ≤ more → MayThis t size u → (q : Place) →
    May u more q → May t size q
may_in t None size more le may q past = may_past t size q (omega (arith, le, past))
may_in t (Some r) size more le may q (inl past) = may_past t size q (omega (arith, le, past))
may_in t (Some r) size more le may q (inr is) = may_deeper t size r q is.0 is.1.0 is.1.1 may

-- a frame inside another
pub wrote_on : (t u : Option Place) (size : ℕ) (old amid : List Held) → size ≤ length amid →
    MayThis t size u → Wrote t size old amid → {now : List Held} → Wrote u (length amid) amid now →
    Wrote t size old now
wrote_on t u size old amid le may was same = was
wrote_on t u size old amid le may was (set q v inner h) =
    set q v (may_in t u size (length amid) le may q inner) (wrote_on t u size old amid le may was h)
wrote_on t u size old amid le may was (added g h) = added g (wrote_on t u size old amid le may was h)
wrote_on t u size old amid le may was (cut n more h) =
    cut n (omega (arith, le, more)) (wrote_on t u size old amid le may was h)

pub stands_on : (t u : Option Place) (old amid now : List Held) → MayThis t (length old) u →
    Stands t old amid → Stands u amid now → Stands t old now
stands_on t u old amid now may was h = (
  wrote_on t u (length old) old amid (omega (arith, was.1)) may was.0 h.0,
  h.1 ∙ was.1,
)
