-- The last chain of a list, by its index.
use Rattle.std.proofs.Common.{◌≡◌, ℕ, zero, suc, ◌+◌, List, [], ◌∷◌, ◌++◌, length, Some, None, Result, Ok, Err, IfOk, ap, ◌∙◌, refl, subst, arith}
use Rattle.std.specs.Prelude.{slice_get, slice_set, is_ok, if◌then◌else◌}
use Rattle.grain_value.specs.declared.memory.OutOfMemory.{OutOfMemory}
use Rattle.grain_program.specs.declared.code.chains.Step.{Step}
use Rattle.grain_program.specs.declared.code.chains.Chain.{Chain}
use Rattle.grain_listing.specs.Statements.{with_step, last_steps}

abbrev longer : Step → Chain → Chain
longer s c = record c { steps = c.steps ++ s ∷ [] }

-- a step at its end
pub step_added : (s : Step) (cs : List Chain) (i : ℕ) (c : Chain) → length cs ≡ i + 1 →
    slice_get cs i ≡ Some c →
    slice_set cs i (record c { steps = c.steps ++ s ∷ [] }) ≡ with_step s cs
step_added s [] i c l e = absurd (omega (arith, l))
step_added s (x ∷ []) zero c l e =
    let same : x ≡ c = cc in
    subst (λ (y : Chain). longer s y ∷ [] ≡ longer s x ∷ []) same refl
step_added s (x ∷ []) (suc i) c l e = absurd (omega (arith, l))
step_added s (x ∷ y ∷ xs) zero c l e = absurd (omega (arith, l))
step_added s (x ∷ y ∷ xs) (suc i) c l e =
    ap (λ (cs : List Chain). x ∷ cs) (step_added s (y ∷ xs) i c (omega (arith, l)) e)

-- its steps
pub steps_there : (cs : List Chain) (i : ℕ) (c : Chain) → length cs ≡ i + 1 →
    slice_get cs i ≡ Some c → c.steps ≡ last_steps cs
steps_there [] i c l e = absurd (omega (arith, l))
steps_there (x ∷ []) zero c l e =
    let same : x ≡ c = cc in subst (λ (y : Chain). y.steps ≡ x.steps) same refl
steps_there (x ∷ []) (suc i) c l e = absurd (omega (arith, l))
steps_there (x ∷ y ∷ xs) zero c l e = absurd (omega (arith, l))
steps_there (x ∷ y ∷ xs) (suc i) c l e = steps_there (y ∷ xs) i c (omega (arith, l)) e

-- where the code has added it, unless memory is out
pub added : (r : Result (Unit {0}) OutOfMemory) (s : Step) (cs : List Chain) (n : ℕ) (c : Chain)
    (steps : List Step) → length cs ≡ n + 1 → slice_get cs n ≡ Some c →
    steps ≡ (if is_ok r then c.steps ++ s ∷ [] else c.steps) →
    IfOk r (λ x. slice_set cs n (record c { steps = steps }) ≡ with_step s cs)
added (Ok x) s cs n c steps l e is =
    ap (λ (ss : List Step). slice_set cs n (record c { steps = ss })) is ∙ step_added s cs n c l e
added (Err m) s cs n c steps l e is = tt

-- there is one unless the list is empty
pub last_there : (cs : List Chain) (n : ℕ) → length cs ≡ n + 1 → slice_get cs n ≡ None → ⊥
last_there [] n l e = omega (arith, l)
last_there (x ∷ xs) zero l e = cc
last_there (x ∷ xs) (suc n) l e = last_there xs n (omega (arith, l)) e
