-- Lengths of scopes and operands.
use Rattle.std.proofs.Common.{◌≡◌, ◌≤◌, ◌+◌, ◌-◌, ℕ, zero, suc, List, [], ◌∷◌, ◌++◌, Some, None, arith, length, take, drop, length-drop}
use Rattle.std.proofs.lemmas.List.{length-take, length-append, length-map}
use Rattle.grain_value.specs.declared.values.Dynamic.{Dynamic}
use Rattle.grain_value.specs.declared.values.Held.{Held}
use Rattle.grain_value.specs.declared.scopes.Entry.{Entry}
use Rattle.grain_value.specs.declared.values.FnPtr.{FnPtr}
use Rattle.grain_value.specs.View.{value_of}
use Rattle.grain_value.specs.Tree.{Tree}
use Rattle.grain_value.specs.Operands.{under, arguments, rotated, read_write}
use Rattle.grain_means.specs.Rules.{held_at, curried_in}

-- where no entry is, the scope has ended
pub past_scope : (scope : List Entry) (i : ℕ) → held_at scope i ≡ None → length scope ≤ i
past_scope [] i e = omega arith
past_scope (x ∷ scope) zero e = some_none e where
  some_none : {A : Type 0} → Some x.held ≡ None → A
  some_none e = cc
past_scope (x ∷ scope) (suc i) e = omega (arith, past_scope scope i e)

-- a scope that is cut is no longer than that
pub cut_short : (n : ℕ) (scope : List Entry) → length (take n scope) ≤ n
cut_short n scope = omega (arith, length-take n scope)

-- the operands without the last ones, with one more, and in another order
pub length_under : (n : ℕ) (xs : List Held) → length (under n xs) ≡ length xs - n
length_under n xs = omega (arith, length-take (length xs - n) xs)

pub length_pushed : (xs : List Held) (v : Dynamic) → length (xs ++ read_write v ∷ []) ≡ length xs +
    1
length_pushed xs v = omega (arith, length-append xs (read_write v ∷ []))

pub length_rotated : (n : ℕ) (xs : List Held) → length (rotated n xs) ≡ length xs
length_rotated n xs =
    let others : List Held = drop (length xs - (n + 1)) xs in
    let low : List Held = take (length xs - (n + 1)) xs in
    omega (
      arith,
      length-append (low ++ drop n others) (take n others),
      length-append low (drop n others),
      length-take (length xs - (n + 1)) xs,
      length-drop n others,
      length-take n others,
      length-drop (length xs - (n + 1)) xs,
    )

-- the operands once a pointer was replaced by its values
spread_many : (p : FnPtr) (n : ℕ) (xs : List Held) →
    length (under (n + 1) xs ++ curried_in p ++ arguments n xs)
    ≡ length xs - (n + 1) + length p.curry + (length xs - (length xs - n))
spread_many p n xs =
    omega (
      arith,
      length-append (under (n + 1) xs ++ curried_in p) (arguments n xs),
      length-append (under (n + 1) xs) (curried_in p),
      length_under (n + 1) xs,
      length-map p.curry (λ (t : Tree). read_write (value_of t)),
      length-drop (length xs - n) xs,
    )

pub spread_length : (p : FnPtr) (n : ℕ) (xs : List Held) →
    length xs - (n + 1) ≤ length (under (n + 1) xs ++ curried_in p ++ arguments n xs)
spread_length p n xs = omega (arith, spread_many p n xs)

-- without them there are as many as under the pointer
pub spread_under : (p : FnPtr) (n : ℕ) (xs : List Held) →
    length (under (length p.curry + n) (under (n + 1) xs ++ curried_in p ++ arguments n xs))
    ≡ length xs - (n + 1)
spread_under p n xs =
    omega (
      arith,
      spread_many p n xs,
      length_under (length p.curry + n) (under (n + 1) xs ++ curried_in p ++ arguments n xs),
    )
