-- Operands that go to the end of a scope one by one.
use Rattle.std.proofs.Common.{◌≡◌, ◌<◌, ◌≤◌, ℕ, zero, suc, ◌+◌, List, [], ◌∷◌, ◌++◌, take, drop, length, get_or, refl, ◌∙◌, arith, append_assoc}
use Rattle.std.specs.Prelude.{slice_get, slice_index_or, slice_set, Some}
use Rattle.grain_value.specs.declared.values.Held.{Held}
use Rattle.grain_value.specs.declared.scopes.Entry.{Entry}
use Rattle.grain_value.specs.Scopes.{new_entry}
use Rattle.grain_value.specs.Operands.{read_write, bound_entries}
use Rattle.grain_stack.specs.Filled.{operand_at}
use Rattle.grain_stack.proofs.Lists.{take_set}

-- what lies below the first argument stays when arguments are moved
pub kept_front : (f i : ℕ) (xs ys zs : List Held) (h : Held) → f ≤ i → zs ≡ slice_set ys i h →
    take f ys ≡ take f xs → take f zs ≡ take f xs
kept_front f i xs ys zs h lf e same = rw e (take_set f i ys h lf ∙ same)

drop_after : (i : ℕ) (xs : List Held) (h : Held) → drop (suc i) (slice_set xs i h) ≡ drop (suc i) xs
drop_after i [] h = refl
drop_after zero (x ∷ xs) h = refl
drop_after (suc i) (x ∷ xs) h = drop_after i xs h

drop_held : (i : ℕ) (xs : List Held) → i < length xs → drop i xs ≡ operand_at i xs ∷ drop (suc i) xs
drop_held i [] lt = absurd (omega (arith, lt))
drop_held zero (x ∷ xs) lt = refl
drop_held (suc i) (x ∷ xs) lt = drop_held i xs (omega (arith, lt))

drop_number : (i : ℕ) (ns : List ℕ) → i < length ns → drop i ns ≡ get_or ns i 0 ∷ drop (suc i) ns
drop_number i [] lt = absurd (omega (arith, lt))
drop_number zero (n ∷ ns) lt = refl
drop_number (suc i) (n ∷ ns) lt = drop_number i ns (omega (arith, lt))

named : (names : List (List ℕ)) (n : ℕ) (name : List ℕ) → slice_get names n ≡ Some name →
    slice_index_or names n [] ≡ name
named [] n name e = absurd cc
named (x ∷ xs) zero name e = cc
named (x ∷ xs) (suc n) name e = named xs n name e

-- one argument more is bound
pub bound_more : (scope scope' : List Entry) (names : List (List ℕ)) (ps : List ℕ)
    (xs ys : List Held) (i f : ℕ) (h : Held) (name : List ℕ) → i < length ps → f + i < length xs →
    slice_get names (get_or ps i 0) ≡ Some name →
    scope' ≡ scope ++ new_entry name (read_write (operand_at (f + i) xs).value) ∷ [] →
    ys ≡ slice_set xs (f + i) h → scope' ++ bound_entries names (drop (i + 1) ps)
    (drop (f + (i + 1)) ys) ≡ scope ++ bound_entries names (drop i ps) (drop (f + i) xs)
bound_more scope scope' names ps xs ys i f h name lp lx is es ey =
    let next : f + (i + 1) ≡ suc (f + i) = omega arith in
    let one : i + 1 ≡ suc i = omega arith in
    rw (
      es,
      ey,
      next,
      one,
      drop_after (f + i) xs h,
      drop_number i ps lp,
      drop_held (f + i) xs lx,
      named names (get_or ps i 0) name is,
    )
    (append_assoc scope (new_entry name (read_write (operand_at (f + i) xs).value) ∷ [])
    (bound_entries names (drop (suc i) ps) (drop (suc (f + i)) xs)))
