-- A value leads to one of its switch's targets, and ordering the targets loses none and adds none.
use Rattle.std.specs.Prelude.{ℕ, ℤ, ◌≡◌, ◌<◌, ◌⊎◌, Bool, true, false, cond, List, [], ◌∷◌, ◌++◌, length, Option, Some, None}
use Rattle.std.specs.Ordering.{nat_cmp}
use Rattle.std.specs.BTreeSet.{insert_key}
use Rattle.std.proofs.Common.{refl, sym, subst, inl, inr}
use Rattle.std.proofs.lemmas.Option.{slice_get-get_or}
use Rattle.grain_value.specs.declared.values.Dynamic.{Dynamic}
use Rattle.grain_value.specs.declared.values.Dynamic.TheVariants as values
use Rattle.grain_program.specs.declared.code.switches.Case.{Case}
use Rattle.grain_program.specs.declared.code.switches.SwitchRange.{SwitchRange}
use Rattle.grain_program.specs.declared.code.switches.Switch.{Switch}
use Rattle.grain_program.specs.View.{View, no_switch, switch_of}
use Rattle.grain_program.specs.Switches.{is_value, in_range, case_target, range_target, or_default, other_target, case_or_other, switch_target, case_targets, range_targets, targets_in, targets_if, put_in_order, in_order}
use Rattle.grain_program.specs.Effects.{switch_leads}
use Rattle.grain_program.specs.Typing.{In}
use Rattle.grain_program.specs.laws.Ascending.{new_in, old_in, new_or_old}

-- ---- the order

kept : (ys xs : List ℕ) (b : ℕ) → In b ys → In b (put_in_order ys xs)
kept ys [] b h = h
kept ys (x ∷ xs) b h = kept (insert_key nat_cmp ys x) xs b (old_in ys x b h)

put : (ys xs : List ℕ) (b : ℕ) → In b xs → In b (put_in_order ys xs)
put ys [] b h = absurd h
put ys (x ∷ xs) b (inl e) =
    kept (insert_key nat_cmp ys x) xs b
    (subst (λ (a : ℕ). In a (insert_key nat_cmp ys x)) (sym e) (new_in ys x))
put ys (x ∷ xs) b (inr i) = put (insert_key nat_cmp ys x) xs b i

comes_from : (ys xs : List ℕ) (b : ℕ) → In b (put_in_order ys xs) → In b ys ⊎ In b xs
comes_from ys [] b h = inl h
comes_from ys (x ∷ xs) b h = at (comes_from (insert_key nat_cmp ys x) xs b h) where
  of : (b ≡ x) ⊎ In b ys → In b ys ⊎ In b (x ∷ xs)
  of (inl e) = inr (inl e)
  of (inr i) = inl i

  at : In b (insert_key nat_cmp ys x) ⊎ In b xs → In b ys ⊎ In b (x ∷ xs)
  at (inl i) = of (new_or_old ys x b i)
  at (inr i) = inr (inr i)

-- what is among numbers is among them in order
pub ordered : (xs : List ℕ) (b : ℕ) → In b xs → In b (in_order xs)
ordered xs b h = put [] xs b h

-- and what is among them in order was among them
pub unordered : (xs : List ℕ) (b : ℕ) → In b (in_order xs) → In b xs
unordered xs b h = at (comes_from [] xs b h) where
  at : In b [] ⊎ In b xs → In b xs
  at (inl i) = absurd i
  at (inr i) = i

-- ---- the target of a value

in_front : (xs ys : List ℕ) (b : ℕ) → In b xs → In b (xs ++ ys)
in_front [] ys b h = absurd h
in_front (x ∷ xs) ys b (inl e) = inl e
in_front (x ∷ xs) ys b (inr i) = inr (in_front xs ys b i)

in_back : (xs ys : List ℕ) (b : ℕ) → In b ys → In b (xs ++ ys)
in_back [] ys b h = h
in_back (x ∷ xs) ys b h = inr (in_back xs ys b h)

of_case : (v : Dynamic) (cs : List Case) (t : ℕ) → case_target v cs ≡ Some t
    → In t (case_targets cs)
of_case v [] t e = absurd cc
of_case v (c ∷ cs) t e = at (is_value c.value v) e (λ h. of_case v cs t h) where
  at : (b : Bool) → cond b (Some c.target) (case_target v cs) ≡ Some t
      → (case_target v cs ≡ Some t → In t (case_targets cs)) → In t (case_targets (c ∷ cs))
  at true h more = inl cc
  at false h more = inr (more h)

of_range : (n : ℤ) (rs : List SwitchRange) (t : ℕ) → range_target n rs ≡ Some t
    → In t (range_targets rs)
of_range n [] t e = absurd cc
of_range n (r ∷ rs) t e = at (in_range r n) e (λ h. of_range n rs t h) where
  at : (b : Bool) → cond b (Some r.target) (range_target n rs) ≡ Some t
      → (range_target n rs ≡ Some t → In t (range_targets rs)) → In t (range_targets (r ∷ rs))
  at true h more = inl cc
  at false h more = inr (more h)

module _ (s : Switch) where
  by_default : In s.default (targets_in s)
  by_default =
      in_back (case_targets s.cases) (range_targets s.ranges ++ s.default ∷ []) s.default
      (in_back (range_targets s.ranges) (s.default ∷ []) s.default (inl refl))

  by_range : (n : ℤ) (o : Option ℕ) → range_target n s.ranges ≡ o
      → In (or_default s.default o) (targets_in s)
  by_range n None e = by_default
  by_range n (Some t) e =
      in_back (case_targets s.cases) (range_targets s.ranges ++ s.default ∷ []) t
      (in_front (range_targets s.ranges) (s.default ∷ []) t (of_range n s.ranges t e))

  by_other : (v : Dynamic) → In (other_target s v) (targets_in s)
  by_other (values.Int n) = by_range n (range_target n s.ranges) refl
  by_other _ = by_default

  by_case : (v : Dynamic) (o : Option ℕ) → case_target v s.cases ≡ o
      → In (case_or_other s v o) (targets_in s)
  by_case v None e = by_other v
  by_case v (Some t) e =
      in_front (case_targets s.cases) (range_targets s.ranges ++ s.default ∷ []) t
      (of_case v s.cases t e)

  -- a value leads to a target of the record
  pub leads_to_target : (v : Dynamic) → In (switch_target s v) (targets_in s)
  leads_to_target v = by_case v (case_target v s.cases) refl

-- a value leads to a target of its switch, which is in the pool
pub switch_lands : (p : View) (k : ℕ) (v : Dynamic) → k < length p.switches
    → In (switch_target (switch_of p k) v) (switch_leads p k)
switch_lands p k v lt =
    subst (λ (o : Option Switch). In (switch_target (switch_of p k) v) (in_order (targets_if o)))
    (sym (slice_get-get_or p.switches k no_switch lt))
    (ordered (targets_in (switch_of p k)) (switch_target (switch_of p k) v)
    (leads_to_target (switch_of p k) v))
