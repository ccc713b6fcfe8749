-- One more limit leaves at least one operation allowed.
use Rattle.std.proofs.Common.{◌≡◌, ◌<◌, ℕ, Bool, true, false, cond, codes, bytes_eq, List, [], ◌∷◌, ◌++◌, Option, Some, None, Result, Ok, Err, IfOk, refl, sym, ap, ◌∙◌, arith}
use Rattle.std.specs.Option.{ForSome}
use Rattle.grain_literals.specs.declared.reasons.Reason.{Reason}
use Rattle.grain_listing.specs.Settings.{limit_table, entry_named, number_or, number_of, built, limit_named}
use Rattle.grain_listing.specs.views.Limits.{limit_line_view, limits_view, Allows, AreAllowed}
use Rattle.grain_listing.specs.declared.limits.Limit.{Limit}
use Rattle.grain_listing.specs.declared.limits.LimitLine.{LimitLine}

-- the rows of a table of limits allow an operation at least
abbrev RowsAllow : List (List ℕ × Limit) → Type 0
RowsAllow [] = Unit {0}
RowsAllow (x ∷ xs) = Allows x.0 x.1.least × RowsAllow xs

rows_allow : RowsAllow limit_table
rows_allow = (
  (λ e. omega arith),
  (
    (λ e. absurd cc),
    (
      (λ e. absurd cc),
      (
        (λ e. absurd cc),
        (
          (λ e. absurd cc),
          ((λ e. absurd cc), ((λ e. absurd cc), tt)),
        ),
      ),
    ),
  ),
)

abbrev RowAllows : Result (List ℕ × Limit) Reason → Type 0
RowAllows r = IfOk r (λ x. Allows x.0 x.1.least)

taken : (x : List ℕ × Limit) (b : Bool) (e : Reason) → Allows x.0 x.1.least →
    RowAllows (cond b (Ok x) (Err e))
taken x true e h = h
taken x false e h = tt

found : (w : List ℕ) (xs : List (List ℕ × Limit)) → RowsAllow xs →
    RowAllows (built (entry_named w xs))
found w [] h = tt
found w (x ∷ xs) h = at (bytes_eq w x.0) (found w xs h.1) where
  at : (b : Bool) → RowAllows (built (entry_named w xs)) →
      RowAllows (built (cond b (Some x) (entry_named w xs)))
  at true more = taken x x.1.is_built _ h.0
  at false more = more

pub least_named : (w : List ℕ) → IfOk (limit_named w) (λ x. Allows x.0 x.1.least)
unfolding limit_named
least_named w = found w limit_table rows_allow

abbrev Entry : Type 0
Entry = Option (List ℕ × ℕ)

abbrev IsAllowed : Entry → Type 0
IsAllowed o = ForSome o (λ x. 0 < x.1)

still_allowed : (xs : List LimitLine) (x : LimitLine) → AreAllowed xs →
    Allows x.name.now x.number → AreAllowed (xs ++ x ∷ [])
still_allowed [] x all h = at (bytes_eq (codes "operations") x.name.now) h where
  at : (b : Bool) → (b ≡ true → 0 < x.number) →
      IsAllowed (cond b (Some (limit_line_view x)) None)
  at true g = λ y some.
      let is : limit_line_view x ≡ y = cc in
      let more : x.number ≡ y.1 = ap (λ (z : List ℕ × ℕ). z.1) is in
      let least : 0 < x.number = g refl in
      omega (arith, more, least)
  at false g = λ y some. absurd cc
still_allowed (y ∷ ys) x all h =
    at (bytes_eq (codes "operations") y.name.now) all (λ more. still_allowed ys x more h) where
      at : (b : Bool) →
          IsAllowed (cond b (Some (limit_line_view y))
          (entry_named (codes "operations") (limits_view ys))) →
          (AreAllowed ys → AreAllowed (ys ++ x ∷ [])) →
          IsAllowed (cond b (Some (limit_line_view y))
          (entry_named (codes "operations") (limits_view (ys ++ x ∷ []))))
      at true a more = a
      at false a more = more a

-- the limits after one more was put among them, or was not for want of memory
pub allowed_after : (b : Bool) (xs ys : List LimitLine) (x : LimitLine) →
    ys ≡ cond b (xs ++ x ∷ []) xs → AreAllowed xs → Allows x.name.now x.number →
    (y : List ℕ × ℕ) → entry_named (codes "operations") (limits_view ys) ≡ Some y → 0 < y.1
allowed_after true xs ys x e all h y is =
    still_allowed xs x all h y
    (sym (ap (λ l. entry_named (codes "operations") (limits_view l)) e) ∙ is)
allowed_after false xs ys x e all h y is =
    all y (sym (ap (λ l. entry_named (codes "operations") (limits_view l)) e) ∙ is)

-- without a line a million operations are allowed
pub operations_allowed : (ls : List LimitLine) → AreAllowed ls →
    0 < number_of (codes "operations") (limits_view ls)
unfolding number_of
operations_allowed ls h = at (entry_named (codes "operations") (limits_view ls)) h where
  at : (o : Entry) → IsAllowed o → 0 < number_or 1000000 o
  at None g = omega arith
  at (Some x) g = g x refl
