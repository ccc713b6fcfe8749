-- What a reader finds is so, and characters follow it: the ways of joining readers, and numbers.
use Rattle.std.proofs.Common.{◌≡◌, ◌≤◌, ◌-◌, ◌^◌, ◌==◌, ◌&&◌, not, ℕ, zero, suc, pos, Bool, true, false, cond, List, [], ◌∷◌, Option, Some, None, option_map, option_and_then, nat_lt, refl, arith}
use Rattle.std.proofs.lemmas.Bool.Decides.{nat_tests}
use Rattle.std.proofs.Math.Utf8.{scalars}
use Rattle.grain_words.specs.Spelled.{IsLong}
use Rattle.grain_words.specs.Numerals.{integer as integer_of, number, minus, is_numeral, number_from}
use Rattle.grain_words.specs.Words.{after_text, after_gap, after_sign, skip_gaps, onward_from, up_to, ends_integer, integer_here, number_here, is_gap}
use Rattle.grain_literals.specs.Values.{Found, behind, made}
use Rattle.grain_literals.specs.laws.Scalars.{rest_of, list_cond, onward_left}

-- what was found satisfies P, and characters follow it
abbrev pub Yields : {A : Type 0} → (A → Type 0) → Found A → Type 0
Yields P None = Unit {0}
Yields P (Some x) = P x.0 × (scalars x.1 ≡ true)

abbrev pub Left : Option (List ℕ) → Type 0
Left None = Unit {0}
Left (Some rest) = scalars rest ≡ true

abbrev Holds : {A : Type 0} → (A → Type 0) → Option A → Type 0
Holds P None = Unit {0}
Holds P (Some x) = P x

abbrev pub Gives : {A : Type 0} → (A → Type 0) → (List ℕ → Found A) → Type 0
Gives P read = (cs : List ℕ) → scalars cs ≡ true → Yields P (read cs)

in_map : {A : Type 0} (P : A → Type 0) (rest : List ℕ) (o : Option A) → Holds P o →
    scalars rest ≡ true → Yields P (option_map (λ z. (z, rest)) o)
in_map P rest None p h = tt
in_map P rest (Some z) p h = (p, h)

pub in_made : {A B : Type 0} (P : A → Type 0) (Q : B → Type 0) (f : A → B) (o : Found A) → Yields P o →
    ((x : A) → P x → Q (f x)) → Yields Q (made f o)
in_made P Q f None y h = tt
in_made P Q f (Some x) y h = (h x.0 y.0, y.1)

pub in_cond : {A : Type 0} (P : A → Type 0) (b : Bool) (x y : Found A) → Yields P x → Yields P y →
    Yields P (cond b x y)
in_cond P true x y hx hy = hx
in_cond P false x y hx hy = hy

-- the same, where the answer of the test matters
pub in_test : {A : Type 0} (P : A → Type 0) (b : Bool) (x y : Found A) → (b ≡ true → Yields P x) →
    (b ≡ false → Yields P y) → Yields P (cond b x y)
in_test P true x y hx hy = hx refl
in_test P false x y hx hy = hy refl

pub in_behind : {A : Type 0} (P : A → Type 0) (o : Option (List ℕ)) (here : List ℕ → Found A)
    (other : Found A) → Left o → Gives P here → Yields P other → Yields P (behind o here other)
in_behind P None here other l h e = e
in_behind P (Some rest) here other l h e = h rest l

pub in_then : {A B : Type 0} (P : A → Type 0) (Q : B → Type 0) (go : A × List ℕ → Found B)
    (o : Found A) → Yields P o →
    ((x : A × List ℕ) → P x.0 → scalars x.1 ≡ true → Yields Q (go x)) →
    Yields Q (option_and_then go o)
in_then P Q go None y h = tt
in_then P Q go (Some x) y h = h x y.0 y.1

pub in_rest : {B : Type 0} (Q : B → Type 0) (go : List ℕ → Found B) (o : Option (List ℕ)) → Left o →
    Gives Q go → Yields Q (option_and_then go o)
in_rest Q go None l h = tt
in_rest Q go (Some x) l h = h x l

pub in_pair : {A : Type 0} (P : A → Type 0) (x : A) (o : Option (List ℕ)) → P x → Left o →
    Yields P (option_map (λ rest. (x, rest)) o)
in_pair P x None p l = tt
in_pair P x (Some rest) p l = (p, l)

left_cond : (b : Bool) (x y : Option (List ℕ)) → Left x → Left y → Left (cond b x y)
left_cond true x y hx hy = hx
left_cond false x y hx hy = hy

pub text_left : (t cs : List ℕ) → scalars cs ≡ true → Left (after_text t cs)
text_left [] cs h = h
text_left (t ∷ ts) [] h = tt
text_left (t ∷ ts) (c ∷ cs) h =
    left_cond (c == t) (after_text ts cs) None (text_left ts cs (rest_of c cs h)) tt

gaps_left : (cs : List ℕ) → scalars cs ≡ true → scalars (skip_gaps cs) ≡ true
gaps_left [] h = h
gaps_left (c ∷ cs) h =
    list_cond (is_gap c) (skip_gaps cs) (c ∷ cs) (gaps_left cs (rest_of c cs h)) h

gap_left : (cs : List ℕ) → scalars cs ≡ true → Left (after_gap cs)
gap_left [] h = tt
gap_left (c ∷ cs) h =
    left_cond (is_gap c) (Some (skip_gaps cs)) None (gaps_left cs (rest_of c cs h)) tt

pub sign_left : (sign cs : List ℕ) → scalars cs ≡ true → Left (after_sign sign cs)
sign_left sign cs h = at (after_text sign cs) (text_left sign cs h) where
  at : (o : Option (List ℕ)) → Left o → Left (option_and_then after_gap o)
  at None l = tt
  at (Some rest) l = gap_left rest l

not_above : (most n : ℕ) → nat_lt most n ≡ false → n ≤ most
not_above most n e = grind (arith, nat_tests)

number_most : (most : ℕ) (w : List ℕ) → Holds (λ n. n ≤ most) (number most w)
number_most most w = at (is_numeral w) (nat_lt most (number_from 0 w)) refl where
  at : (b d : Bool) → nat_lt most (number_from 0 w) ≡ d →
      Holds (λ n. n ≤ most) (cond (b && not d) (Some (number_from 0 w)) None)
  at true true e = tt
  at true false e = not_above most (number_from 0 w) e
  at false d e = tt

minus_long : (n : ℕ) → n ≤ 2 ^ 63 → IsLong (minus n)
minus_long zero h = omega arith
minus_long (suc n) h = omega arith

integer_long : (w : List ℕ) → Holds IsLong (integer_of w)
integer_long [] = tt
integer_long (c ∷ cs) =
    at (c == 45) (number (2 ^ 63) cs) (number (2 ^ 63 - 1) (c ∷ cs)) (number_most (2 ^ 63) cs)
    (number_most (2 ^ 63 - 1) (c ∷ cs)) where
      at : (b : Bool) (o p : Option ℕ) → Holds (λ n. n ≤ 2 ^ 63) o →
          Holds (λ n. n ≤ 2 ^ 63 - 1) p →
          Holds IsLong (cond b (option_map minus o) (option_map pos p))
      at true None p ho hp = tt
      at true (Some n) p ho hp = minus_long n ho
      at false o None ho hp = tt
      at false o (Some n) ho hp = omega (arith, hp)

pub integer_gives : Gives IsLong integer_here
integer_gives cs h =
    in_map IsLong (onward_from ends_integer cs) (integer_of (up_to ends_integer cs))
    (integer_long (up_to ends_integer cs)) (onward_left ends_integer cs h)

pub number_gives : (most : ℕ) → Gives (λ n. n ≤ most) (number_here most)
number_gives most cs h =
    in_map (λ n. n ≤ most) (onward_from ends_integer cs) (number most (up_to ends_integer cs))
    (number_most most (up_to ends_integer cs)) (onward_left ends_integer cs h)
