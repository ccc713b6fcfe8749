-- What any host may count on where it is called: of the arguments in order, and of a receiver that
-- stays.
use Rattle.std.specs.Prelude.{ℕ, zero, suc, slice_get, ◌≡◌, ◌≤◌, max, Bool, true, ◌&&◌, not, List, [], ◌∷◌, Option, Some, None, map, refl}
use Rattle.std.specs.List.{list_all}
use Rattle.std.proofs.Common.{arith}
use Rattle.std.proofs.Math.Nat.{le-max_left, le-max_right, max-le}
use Rattle.grain_value.specs.Tree.{Tree, array, pack}
use Rattle.grain_value.specs.View.{tree, value_of}
use Rattle.grain_value.specs.Cells.{cell_bound, is_cell, is_clean, items_bound}
use Rattle.grain_value.specs.laws.Same.{tree-value_of}
use Rattle.grain_value.specs.declared.values.Dynamic.{Dynamic}
use Rattle.grain_value.specs.declared.values.Held.{Held}
use Rattle.grain_host.specs.Law.{Law, call_bound, call_is_clean, is_plain, receiver_bound, receiver_is_plain}
use Rattle.grain_host.specs.Tables.{arguments}
use Rattle.grain_host.specs.Truths.{both_true, first_true, second_true}

-- one more than the greatest cell of arguments
abbrev pub arguments_bound : List Dynamic → ℕ
arguments_bound [] = 0
arguments_bound (v ∷ vs) = max (cell_bound (tree v)) (arguments_bound vs)

-- values as a native is given them
abbrev pub values_plain : List Dynamic → Bool
values_plain [] = true
values_plain (v ∷ vs) = is_plain (tree v) && values_plain vs

pub values_within : (ts : List Tree) →
    arguments_bound (map value_of ts) ≤ cell_bound (array (pack ts))
values_within [] = omega arith
values_within (t ∷ ts) =
    max-le {a = cell_bound (tree (value_of t))} {b = arguments_bound (map value_of ts)}
    (rw (tree-value_of t) (le-max_left (cell_bound t) (items_bound (pack ts))))
    (omega (arith, values_within ts, le-max_right (cell_bound t) (items_bound (pack ts))))

-- the argument at a place, if there is one
abbrev pub ValueWithin : ℕ → Option Dynamic → Type 0
ValueWithin n None = Unit
ValueWithin n (Some v) = cell_bound (tree v) ≤ n

pub argument_within : (n : ℕ) (vs : List Dynamic) (i : ℕ) → arguments_bound vs ≤ n →
    ValueWithin n (slice_get vs i)
argument_within n [] i h = tt
argument_within n (v ∷ vs) zero h =
    omega (arith, h, le-max_left (cell_bound (tree v)) (arguments_bound vs))
argument_within n (v ∷ vs) (suc i) h =
    argument_within n vs i
    (omega (arith, h, le-max_right (cell_bound (tree v)) (arguments_bound vs)))

abbrev pub ValueClean : Option Dynamic → Type 0
ValueClean None = Unit
ValueClean (Some v) = is_clean (tree v) ≡ true

pub argument_clean : (vs : List Dynamic) (i : ℕ) → values_plain vs ≡ true →
    ValueClean (slice_get vs i)
argument_clean [] i h = tt
argument_clean (v ∷ vs) zero h =
    first_true (is_clean (tree v)) (not (is_cell (tree v)))
    (first_true (is_plain (tree v)) (values_plain vs) h)
argument_clean (v ∷ vs) (suc i) h =
    argument_clean vs i (second_true (is_plain (tree v)) (values_plain vs) h)

values_same : (ts : List Tree) → list_all is_plain ts ≡ true → values_plain (map value_of ts) ≡ true
values_same [] h = refl
values_same (t ∷ ts) h =
    both_true (is_plain (tree (value_of t))) (values_plain (map value_of ts))
    (rw (tree-value_of t) (first_true (is_plain t) (list_all is_plain ts) h))
    (values_same ts (second_true (is_plain t) (list_all is_plain ts) h))

module _ {S : Type 0} (law : Law S) (s : S) where
  -- its own reach, a receiver, and the arguments name what the call is given
  pub reach_within : (receiver : Option Held) (values : List Tree) →
      law.reach s ≤ call_bound law s receiver values
  reach_within receiver values =
      le-max_left (law.reach s) (max (receiver_bound receiver) (cell_bound (array (pack values))))

  pub receiver_within : (h : Held) (values : List Tree) →
      cell_bound (tree h.value) ≤ call_bound law s (Some h) values
  receiver_within h values =
      let own : ℕ = cell_bound (tree h.value) in
      let given : ℕ = cell_bound (array (pack values)) in
      omega (arith, le-max_left own given, le-max_right (law.reach s) (max own given))

  pub given_within : (receiver : Option Held) (values : List Tree) →
      arguments_bound (arguments receiver values) ≤ call_bound law s receiver values
  given_within None values =
      let reach : ℕ = law.reach s in
      let given : ℕ = cell_bound (array (pack values)) in
      omega (arith, values_within values, le-max_right 0 given, le-max_right reach (max 0 given))
  given_within (Some h) values =
      let reach : ℕ = law.reach s in
      let own : ℕ = cell_bound (tree h.value) in
      let given : ℕ = cell_bound (array (pack values)) in
      max-le {a = own} {b = arguments_bound (map value_of values)}
      (omega (arith, le-max_left own given, le-max_right reach (max own given)))
      (omega (
        arith,
        values_within values,
        le-max_right own given,
        le-max_right reach (max own given),
      ))

  -- where all is clean, so is what it holds, and what it is given is plain
  module _ (receiver : Option Held) (values : List Tree)
      (clean : call_is_clean law s receiver values ≡ true) where
    pub holds_clean : law.holds_clean s ≡ true
    holds_clean =
        first_true (law.holds_clean s) (receiver_is_plain receiver && list_all is_plain values) clean

    given : receiver_is_plain receiver && list_all is_plain values ≡ true
    given =
        second_true (law.holds_clean s) (receiver_is_plain receiver && list_all is_plain values)
        clean

    pub receiver_plain : receiver_is_plain receiver ≡ true
    receiver_plain = first_true (receiver_is_plain receiver) (list_all is_plain values) given

    pub values_given : values_plain (map value_of values) ≡ true
    values_given =
        values_same values
        (second_true (receiver_is_plain receiver) (list_all is_plain values) given)

  pub receiver_clean : (h : Held) (values : List Tree) →
      call_is_clean law s (Some h) values ≡ true → is_clean (tree h.value) ≡ true
  receiver_clean h values clean =
      first_true (is_clean (tree h.value)) (not (is_cell (tree h.value)))
      (receiver_plain (Some h) values clean)

  pub given_plain : (receiver : Option Held) (values : List Tree) →
      call_is_clean law s receiver values ≡ true →
      values_plain (arguments receiver values) ≡ true
  given_plain None values clean = values_given None values clean
  given_plain (Some h) values clean =
      both_true (is_plain (tree h.value)) (values_plain (map value_of values))
      (receiver_plain (Some h) values clean) (values_given (Some h) values clean)
