-- The last entry of a list, by its index.
use Rattle.std.proofs.Common.{◌≡◌, ℕ, zero, suc, ◌+◌, List, [], ◌∷◌, ◌++◌, length, Some, None, Result, Ok, Err, IfOk, ap, ◌∙◌, refl, subst, arith}
use Rattle.std.specs.Prelude.{slice_get, slice_set, is_ok, if◌then◌else◌}
use Rattle.grain_value.specs.declared.memory.OutOfMemory.{OutOfMemory}
use Rattle.grain_listing.specs.Statements.{at_last, of_last, one_case, one_range, with_case, with_range}
use Rattle.grain_listing.specs.declared.switch_words.AimedCase.{AimedCase}
use Rattle.grain_listing.specs.declared.switch_words.AimedRange.{AimedRange}
use Rattle.grain_listing.specs.declared.switch_words.AimedSwitch.{AimedSwitch}

-- what is done to it
last_done : {A : Type 0} (f : A → A) (xs : List A) (i : ℕ) (x : A) → length xs ≡ i + 1 →
    slice_get xs i ≡ Some x → slice_set xs i (f x) ≡ at_last f xs
last_done f [] i x l e = absurd (omega (arith, l))
last_done f (y ∷ []) zero x l e =
    let same : y ≡ x = cc in subst (λ z. f z ∷ [] ≡ f y ∷ []) same refl
last_done f (y ∷ []) (suc i) x l e = absurd (omega (arith, l))
last_done f (y ∷ z ∷ ys) zero x l e = absurd (omega (arith, l))
last_done f (y ∷ z ∷ ys) (suc i) x l e =
    ap (λ l. y ∷ l) (last_done f (z ∷ ys) i x (omega (arith, l)) e)

-- what it has
pub last_has : {A B : Type 0} (f : A → List B) (xs : List A) (i : ℕ) (x : A) → length xs ≡ i + 1 →
    slice_get xs i ≡ Some x → f x ≡ of_last f xs
last_has f [] i x l e = absurd (omega (arith, l))
last_has f (y ∷ []) zero x l e =
    let same : y ≡ x = cc in subst (λ z. f z ≡ f y) same refl
last_has f (y ∷ []) (suc i) x l e = absurd (omega (arith, l))
last_has f (y ∷ z ∷ ys) zero x l e = absurd (omega (arith, l))
last_has f (y ∷ z ∷ ys) (suc i) x l e = last_has f (z ∷ ys) i x (omega (arith, l)) e

-- there is one unless the list is empty
pub some_last : {A : Type 0} (xs : List A) (n : ℕ) → length xs ≡ n + 1 → slice_get xs n ≡ None → ⊥
some_last [] n l e = omega (arith, l)
some_last (x ∷ xs) zero l e = cc
some_last (x ∷ xs) (suc n) l e = some_last xs n (omega (arith, l)) e

-- where the code has added a case, unless memory is out
pub case_added : (r : Result (Unit {0}) OutOfMemory) (c : AimedCase) (ss : List AimedSwitch) (n : ℕ)
    (s : AimedSwitch) (cases : List AimedCase) → length ss ≡ n + 1 → slice_get ss n ≡ Some s →
    cases ≡ (if is_ok r then s.cases ++ c ∷ [] else s.cases) →
    IfOk r (λ x. slice_set ss n (record s { cases = cases }) ≡ with_case c ss)
case_added (Ok x) c ss n s cases l e is =
    ap (λ (cs : List AimedCase). slice_set ss n (record s { cases = cs })) is ∙
    last_done (one_case c) ss n s l e
case_added (Err m) c ss n s cases l e is = tt

-- the same of a range
pub range_added : (r : Result (Unit {0}) OutOfMemory) (x : AimedRange) (ss : List AimedSwitch)
    (n : ℕ) (s : AimedSwitch) (ranges : List AimedRange) → length ss ≡ n + 1 →
    slice_get ss n ≡ Some s → ranges ≡ (if is_ok r then s.ranges ++ x ∷ [] else s.ranges) →
    IfOk r (λ u. slice_set ss n (record s { ranges = ranges }) ≡ with_range x ss)
range_added (Ok u) x ss n s ranges l e is =
    ap (λ (rs : List AimedRange). slice_set ss n (record s { ranges = rs })) is ∙
    last_done (one_range x) ss n s l e
range_added (Err m) x ss n s ranges l e is = tt
