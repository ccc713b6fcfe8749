-- The first functions by name and number of parameters, from the last function to the first.
use Rattle.std.proofs.Common.{◌≡◌, ℕ, zero, suc, ◌+◌, ◌<◌, ◌==◌, ◌&&◌, Bool, true, false, cond, List, [], ◌∷◌, length, drop, Some, refl, sym, ap, ◌∙◌, add-one, arith}
use Rattle.std.specs.Prelude.{slice_get}
use Rattle.std.specs.List.{position_from}
use Rattle.std.specs.Ordering.{nat_cmp, is_eq, ordering_then, MatchOrdering}
use Rattle.std.specs.declared.cmp.Ordering.{Ordering}
use Rattle.std.specs.declared.cmp.Ordering.TheVariants.{Less, Equal, Greater}
use Rattle.std.specs.BTreeMap.{BTreeMap, get, Updates}
use Rattle.std.proofs.lemmas.Bool.{eq-eqb, ne_eqb}
use Rattle.std.proofs.lemmas.Cmp.{ranked}
use Rattle.grain_program.specs.declared.code.functions.Function.{Function}
use Rattle.grain_program.specs.Lookups.{is_untyped, is_called, signature_cmp}

-- the map has the first ones of the functions from the number on
abbrev pub IndexFrom : List Function → ℕ → BTreeMap (ℕ × ℕ) ℕ → Type 0
IndexFrom fs i function_index = (name count : ℕ)
    → get signature_cmp function_index (name, count) ≡ position_from (is_called name count) i
    (drop i fs)

-- two signatures are in one place in the order where both their parts are equal
same_place : (a b x y : ℕ) → is_eq (signature_cmp (a, b) (x, y)) ≡ ((a == x) && (b == y))
same_place a b x y =
    at (nat_cmp a x) (nat_cmp b y) (ranked a x (nat_cmp a x) refl) (ranked b y (nat_cmp b y) refl)
  where
    at : (o q : Ordering) → MatchOrdering o (a < x) (a ≡ x) (x < a)
        → MatchOrdering q (b < y) (b ≡ y) (y < b)
        → is_eq (ordering_then o q) ≡ ((a == x) && (b == y))
    at Less q h k = sym (ap (λ t. t && (b == y)) (ne_eqb a x (omega arith)))
    at Greater q h k = sym (ap (λ t. t && (b == y)) (ne_eqb a x (omega arith)))
    at Equal Less h k = sym (ap (λ t. t && (b == y)) (eq-eqb a x h) ∙ ne_eqb b y (omega arith))
    at Equal Greater h k = sym (ap (λ t. t && (b == y)) (eq-eqb a x h) ∙ ne_eqb b y (omega arith))
    at Equal Equal h k = sym (ap (λ t. t && (b == y)) (eq-eqb a x h) ∙ eq-eqb b y k)

drop_at : (fs : List Function) (i : ℕ) (f : Function) → slice_get fs i ≡ Some f
    → drop i fs ≡ f ∷ drop (suc i) fs
drop_at [] i f e = absurd cc
drop_at (g ∷ fs) zero f e = let same : g ≡ f = cc in ap (λ (x : Function). x ∷ fs) same
drop_at (g ∷ fs) (suc i) f e = drop_at fs i f e

and_true : (b : Bool) → (b && true) ≡ b
and_true true = refl
and_true false = refl

and_false : (b : Bool) → (b && false) ≡ false
and_false true = refl
and_false false = refl

-- a function that is no method of one type is called by its name and its number of parameters, and any
-- other is not called
untyped_called : (f : Function) (name count : ℕ) → is_untyped f ≡ true
    → is_called name count f ≡ ((f.name == name) && (length f.params == count))
untyped_called f name count u =
    ap (λ (b : Bool). ((f.name == name) && b) && (length f.params == count)) u
    ∙ ap (λ (b : Bool). b && (length f.params == count)) (and_true (f.name == name))

typed_called : (f : Function) (name count : ℕ) → is_untyped f ≡ false
    → is_called name count f ≡ false
typed_called f name count u =
    ap (λ (b : Bool). ((f.name == name) && b) && (length f.params == count)) u
    ∙ ap (λ (b : Bool). b && (length f.params == count)) (and_false (f.name == name))

-- one function more, which is a method of one type
pub index_same : (fs : List Function) (i : ℕ) (f : Function) (before : BTreeMap (ℕ × ℕ) ℕ)
    → slice_get fs i ≡ Some f → is_untyped f ≡ false → IndexFrom fs (suc i) before
    → IndexFrom fs i before
index_same fs i f before e typed all name count =
    all name count
    ∙ ap (λ k. position_from (is_called name count) k (drop (suc i) fs)) (sym (add-one i))
    ∙ ap (λ (b : Bool). cond b (Some i) (position_from (is_called name count) (i + 1)
    (drop (suc i) fs))) (sym (typed_called f name count typed))
    ∙ ap (position_from (is_called name count) i) (sym (drop_at fs i f e))

-- one function more, which is no method of one type
pub index_more : (fs : List Function) (i : ℕ) (f : Function) (n : ℕ) (before now : BTreeMap (ℕ × ℕ)
    ℕ) → slice_get fs i ≡ Some f → n ≡ length f.params → is_untyped f ≡ true
    → IndexFrom fs (suc i) before
    → Updates signature_cmp before now (f.name, n) (Some i) → IndexFrom fs i now
index_more fs i f n before now e long untyped all u name count =
    u.0 (name, count)
    ∙ ap (λ (b : Bool). cond b (Some i) (get signature_cmp before (name, count))) (same_place f.name
    n name count)
    ∙ ap (λ o. cond ((f.name == name) && (n == count)) (Some i) o) (all name count
    ∙ ap (λ k. position_from (is_called name count) k (drop (suc i) fs)) (sym (add-one i)))
    ∙ ap (λ k. cond ((f.name == name) && (k == count)) (Some i) (position_from (is_called name
    count) (i + 1) (drop (suc i) fs))) long
    ∙ ap (λ (b : Bool). cond b (Some i) (position_from (is_called name count) (i + 1)
    (drop (suc i) fs))) (sym (untyped_called f name count untyped))
    ∙ ap (position_from (is_called name count) i) (sym (drop_at fs i f e))
