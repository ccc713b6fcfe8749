-- Parameters, one after the other.
use Rattle.std.proofs.Common.{◌≡◌, ℕ, zero, suc, ◌-◌, ◌<◌, ◌≤◌, Bool, true, false, List, [], ◌∷◌, ◌++◌, Result, Ok, Err, refl, sym, ap, ◌∙◌, arith, append-nil, append_assoc}
use Rattle.grain_words.specs.Words.{after_word}
use Rattle.grain_literals.specs.Steps.{and_then}
use Rattle.grain_literals.specs.Operands.{index}
use Rattle.grain_literals.specs.declared.reasons.Reason.{Reason}
use Rattle.grain_literals.specs.declared.reasons.Reason.TheVariants.{TooMany}
use Rattle.grain_listing.specs.Headers.{has_parameter, has_more, parameters_of}

pub more_step : (n : ℕ) (cs : List ℕ) (b : Bool) → 0 < n → has_parameter cs ≡ true →
    has_more n cs ≡ b → has_more (n - 1) (after_word cs) ≡ b
unfolding has_more
more_step zero cs b h one e = absurd (omega arith)
more_step (suc n) cs b h one e =
    let is : suc n - 1 ≡ n = omega arith in
    rw is (rw one at e)

pub more_none : (n : ℕ) (cs : List ℕ) (b : Bool) → 0 < n → has_parameter cs ≡ false →
    has_more n cs ≡ b → false ≡ b
unfolding has_more
more_none zero cs b h none e = absurd (omega arith)
more_none (suc n) cs b h none e = rw none at e

pub more_last : (n : ℕ) (cs : List ℕ) (b : Bool) → n ≤ 0 → has_more n cs ≡ b →
    has_parameter cs ≡ b
unfolding has_more
more_last zero cs b h e = e
more_last (suc n) cs b h e = absurd (omega arith)

-- parameters with what is left after them, or the reason for which one is wrong
abbrev pub Parameters : Type 0
Parameters = Result (List ℕ × List ℕ) Reason

-- what was read so far, in front of the others
abbrev pub with_found : List ℕ → Parameters → Parameters
with_found found r = and_then r (λ ps. Ok (found ++ ps.0, ps.1))

none_found : (r : Parameters) → r ≡ with_found [] r
none_found (Ok ps) = refl
none_found (Err e) = refl

pub found_first : (n : ℕ) (cs : List ℕ) → with_found [] (parameters_of n cs) ≡ parameters_of n cs
found_first n cs = sym (none_found (parameters_of n cs))

again : (found : List ℕ) (x : ℕ) (r : Parameters) →
    with_found (found ++ x ∷ []) r ≡ with_found found (and_then r (λ ps. Ok (x ∷ ps.0, ps.1)))
again found x (Ok ps) = ap (λ (l : List ℕ). Ok (l, ps.1)) (append_assoc found (x ∷ []) ps.0)
again found x (Err e) = refl

pub all_found : (n : ℕ) (cs found : List ℕ) (all : Parameters) →
    has_parameter cs ≡ false → with_found found (parameters_of n cs) ≡ all → Ok (found, cs) ≡ all
unfolding parameters_of
all_found zero cs found all none e =
    let is : with_found found (Ok ([], cs)) ≡ all = rw none at e in
    ap (λ (l : List ℕ). Ok (l, cs)) (sym (append-nil found)) ∙ is
all_found (suc n) cs found all none e =
    let is : with_found found (Ok ([], cs)) ≡ all = rw none at e in
    ap (λ (l : List ℕ). Ok (l, cs)) (sym (append-nil found)) ∙ is

pub one_refused : (n : ℕ) (cs found : List ℕ) (all : Parameters) (m : Reason) →
    has_parameter cs ≡ true → index cs ≡ Err m → with_found found (parameters_of n cs) ≡ all →
    Err m ≡ all
unfolding parameters_of
one_refused zero cs found all m one bad e = rw (one, bad) at e
one_refused (suc n) cs found all m one bad e = rw (one, bad) at e

pub one_more : (n x : ℕ) (cs after found : List ℕ) (all : Parameters) → 0 < n →
    has_parameter cs ≡ true → index cs ≡ Ok (x, after) →
    with_found found (parameters_of n cs) ≡ all →
    with_found (found ++ x ∷ []) (parameters_of (n - 1) after) ≡ all
unfolding parameters_of
one_more zero x cs after found all h one good e = absurd (omega arith)
one_more (suc n) x cs after found all h one good e =
    let is : suc n - 1 ≡ n = omega arith in
    rw is (again found x (parameters_of n after) ∙ (rw (one, good) at e))

pub too_many : (n x : ℕ) (cs after found : List ℕ) (all : Parameters) → n ≤ 0 →
    has_parameter cs ≡ true → index cs ≡ Ok (x, after) →
    with_found found (parameters_of n cs) ≡ all → Err TooMany ≡ all
unfolding parameters_of
too_many zero x cs after found all h one good e = rw (one, good) at e
too_many (suc n) x cs after found all h one good e = absurd (omega arith)
