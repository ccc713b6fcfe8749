-- What is written at a path leaves what stands beside it as it was.
use Rattle.std.proofs.Common.{◌≡◌, inl, inr, ℕ, zero, suc, List, [], ◌∷◌, Bool, true, false, cond, Some, Result, Ok, Err, length, set, refl, sym, subst, ap, ◌∙◌}
use Rattle.std.specs.Prelude.{is_ok, slice_get}
use Rattle.std.specs.Ordering.{nat_cmp}
use Rattle.std.specs.Cmp.Lexicographic.{slice_cmp}
use Rattle.std.specs.BTreeMap.{is_at}
use Rattle.std.specs.Map.{lookup, set_value}
use Rattle.std.proofs.lemmas.List.{length-set}
use Rattle.std.proofs.lemmas.Map.Text.{is_eq-slice_cmp}
use Rattle.std.proofs.lemmas.Slice.Eq.{bytes_eq-Decides}
use Rattle.grain_value.specs.Tree.{Tree, array, dict, unpack, unpack_fields}
use Rattle.grain_value.specs.Maps.{Entries, entry_at}
use Rattle.grain_value.specs.Paths.{at, put, child, set_child, set_entry, element, keyed, and_then, or_same}
use Rattle.grain_value.specs.laws.PathLaws.{at-put}
use Rattle.grain_value.specs.laws.PathSteps.{at-step, put-step, child-array, child-dict}
use Rattle.grain_value.specs.declared.values.paths.PathStep.{PathStep}
use Rattle.grain_value.specs.declared.values.paths.PathStep.TheVariants.{Index, Key}
use Rattle.grain_value.specs.declared.values.value_faults.ValueFault.{ValueFault}
use Rattle.grain_means.specs.Places.{Part}

-- at a list's other index
get-other : (ts : List Tree) (i j : ℕ) (c : Tree) → (i ≡ j → ⊥) →
    slice_get (set ts i c) j ≡ slice_get ts j
get-other [] i j c apart = refl
get-other (t ∷ ts) zero zero c apart = absurd (apart refl)
get-other (t ∷ ts) zero (suc j) c apart = refl
get-other (t ∷ ts) (suc i) zero c apart = refl
get-other (t ∷ ts) (suc i) (suc j) c apart = get-other ts i j c (λ same. apart (ap suc same))

-- at another key
module _ {K X : Type 0} (one other : K → Bool)
    (apart : (k : K) → one k ≡ true → other k ≡ false) where
  other-turn : (e : K × X) (es : List (K × X)) (c : X) (b : Bool) → one e.0 ≡ b →
      lookup other (set_value one es c) ≡ lookup other es →
      lookup other (cond b ((e.0, c) ∷ es) (e ∷ set_value one es c)) ≡ lookup other (e ∷ es)
  other-turn e es c true is below =
      ap (λ b. cond b (Some c) (lookup other es)) (apart e.0 is)
      ∙ sym (ap (λ b. cond b (Some e.1) (lookup other es)) (apart e.0 is))
  other-turn e es c false is below = ap (cond (other e.0) (Some e.1)) below

  lookup-other : (es : List (K × X)) (c : X) →
      lookup other (set_value one es c) ≡ lookup other es
  lookup-other [] c = refl
  lookup-other (e ∷ es) c = other-turn e es c (one e.0) refl (lookup-other es c)

-- a key is not at two texts
same_text : (k l : List ℕ) → is_at (slice_cmp nat_cmp k) l ≡ true → k ≡ l
same_text k l here = (bytes_eq-Decides k l).0 (sym (is_eq-slice_cmp k l) ∙ here)

not_both : (k l x : List ℕ) → (k ≡ l → ⊥) → (b : Bool) → is_at (slice_cmp nat_cmp l) x ≡ b →
    is_at (slice_cmp nat_cmp k) x ≡ true → b ≡ false
not_both k l x apart true there here =
    absurd (apart (same_text k x here ∙ sym (same_text l x there)))
not_both k l x apart false there here = refl

entry-other : (k l : List ℕ) (es : Entries) (c : Tree) → (k ≡ l → ⊥) →
    entry_at l (set_entry k c es) ≡ entry_at l es
entry-other k l es c apart =
    lookup-other (is_at (slice_cmp nat_cmp k)) (is_at (slice_cmp nat_cmp l))
    (λ x here. not_both k l x apart (is_at (slice_cmp nat_cmp l) x) refl here) es c

-- one step down
child-other : (s r : PathStep) (t c : Tree) → (s ≡ r → ⊥) → child r (set_child s c t) ≡ child r t
child-other (Index i) (Index j) (array ts) c apart =
    child-array (set (unpack ts) i c) j
    ∙ ap (λ n. element (slice_get (set (unpack ts) i c) j) n j) (length-set (unpack ts) i c)
    ∙ ap (λ o. element o (length (unpack ts)) j)
    (get-other (unpack ts) i j c (λ same. apart (ap Index same)))
child-other (Key k) (Key l) (dict es) c apart =
    child-dict (set_entry k c (unpack_fields es)) l
    ∙ ap keyed (entry-other k l (unpack_fields es) c (λ same. apart (ap Key same)))
child-other (Index i) (Key l) (array ts) c apart = refl
child-other (Key k) (Index j) (dict es) c apart = refl
child-other s r t c apart = refl

-- the value that was put one step down
found_there : (r : Result Tree ValueFault) (c : Tree) → and_then Ok r ≡ Ok c → r ≡ Ok c
found_there (Ok d) c e = e
found_there (Err x) c e = cc

child-there : (s : PathStep) (t c d : Tree) → child s t ≡ Ok c → child s (set_child s d t) ≡ Ok d
child-there s t c d h =
    found_there (child s (set_child s d t)) d
    (ap (at (s ∷ [])) (sym (put-step s [] d t c h))
    ∙ at-put (s ∷ []) t d (ap (λ r. is_ok (and_then (at []) r)) h))

pub at-beside : (p q : List PathStep) (t new : Tree) → Part p q → at q (put p new t) ≡ at q t
at-beside [] q t new apart = elim apart [ ]
at-beside (s ∷ p) [] t new apart = elim apart [ ]
at-beside (s ∷ p) (r ∷ q) t new apart =
    by (child s t) refl apart (λ c. at-beside p q c new) where
      by : (o : Result Tree ValueFault) → child s t ≡ o → Part (s ∷ p) (r ∷ q) →
          ((c : Tree) → Part p q → at q (put p new c) ≡ at q c) →
          at (r ∷ q) (put (s ∷ p) new t) ≡ at (r ∷ q) t
      by (Err x) h apart further =
          ap (λ o. at (r ∷ q) (or_same (λ c. set_child s (put p new c) t) t o)) h
      by (Ok c) h (inl other) further =
          ap (at (r ∷ q)) (put-step s p new t c h)
          ∙ ap (and_then (λ d. at q d)) (child-other s r t (put p new c) other)
      by (Ok c) h (inr both) further =
          let below : child r t ≡ Ok c = subst (λ (x : PathStep). child x t ≡ Ok c) both.0 h in
          ap (at (r ∷ q)) (put-step s p new t c h)
          ∙ at-step r q (set_child s (put p new c) t) (put p new c)
          (subst (λ (x : PathStep). child x (set_child s (put p new c) t) ≡ Ok (put p new c)) both.0
          (child-there s t c (put p new c) h))
          ∙ further c both.1
          ∙ sym (at-step r q t c below)
