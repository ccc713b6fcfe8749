-- The number of a decimal is the number.
use Rattle.std.proofs.Common.{◌≡◌, ◌≢◌, ◌<◌, ◌≤◌, ◌+◌, ◌-◌, ◌*◌, ◌/◌, ◌%◌, ◌^◌, ◌∷◌, ◌++◌, ◌==◌, ◌&&◌, ◌||◌, not, ℕ, suc, Bool, true, false, cond, nat_lt, List, [], Some, option_map, refl, ap, ◌∙◌, arith, lt-ltb, le-ltb, eqb-true}
use Rattle.std.specs.Prelude.{ℤ, pos, negsuc}
use Rattle.std.proofs.lemmas.Bool.{ne_eqb}
use Rattle.std.proofs.lemmas.Bool.Decides.{Decides-ltb}
use Rattle.std.specs.List.{list_all}
use Rattle.std.proofs.lemmas.Fmt.{decimal_by_steps}
use Rattle.std.specs.Fmt.{decimal, signed_decimal}
use Rattle.grain_words.specs.Numerals.{is_digit, are_digits, number_from, is_empty, is_numeral, number, integer, minus, begins_letter}
use Rattle.grain_words.specs.Spelled.{IsLong, Spells, is_plain, is_plain_word, begins_integer}
use Rattle.grain_words.specs.lemmas.Spelling.{spells_none, one_ascii}
use Rattle.grain_words.specs.Words.{up_to, onward_from, ends_integer, integer_here, number_here}

-- the first digit is no zero
abbrev BeginsAboveZero : List ℕ → Type 0
BeginsAboveZero [] = ⊥
BeginsAboveZero (c ∷ cs) = (c == 48) ≡ false

-- the digits say the number, and there is no zero before others
record Says (n : ℕ) (ds : List ℕ) : Type 0 where
  value : number_from 0 ds ≡ n
  digits : are_digits ds ≡ true
  numeral : is_numeral ds ≡ true
  above : 0 < n → BeginsAboveZero ds

is_digit_of : (d : ℕ) → d < 10 → is_digit (48 + d) ≡ true
is_digit_of d h = rw (lt-ltb 47 (48 + d) (omega arith), lt-ltb (48 + d) 58 (omega arith)) refl

either_true : (b : Bool) → not b || true ≡ true
either_true true = refl
either_true false = refl

number_from-append : (a d : ℕ) (ds : List ℕ) →
    number_from a (ds ++ d ∷ []) ≡ number_from a ds * 10 + (d - 48)
number_from-append a d [] = refl
number_from-append a d (c ∷ cs) = number_from-append (a * 10 + (c - 48)) d cs

both_true : (b c : Bool) → b ≡ true → c ≡ true → b && c ≡ true
both_true b c hb hc = rw (hb, hc) refl

first_true : (b c : Bool) → b && c ≡ true → b ≡ true
first_true true c h = refl
first_true false c h = h

second_true : (b c : Bool) → b && c ≡ true → c ≡ true
second_true true c h = h
second_true false c h = absurd cc

are_digits-append : (d : ℕ) (ds : List ℕ) → is_digit d ≡ true → are_digits ds ≡ true →
    are_digits (ds ++ d ∷ []) ≡ true
are_digits-append d [] h all = both_true (is_digit d) true h refl
are_digits-append d (c ∷ cs) h all =
    both_true (is_digit c) (are_digits (cs ++ d ∷ [])) (first_true (is_digit c) (are_digits cs) all)
    (are_digits-append d cs h (second_true (is_digit c) (are_digits cs) all))

one_digit : (n : ℕ) → n < 10 → Says n ((48 + n) ∷ [])
one_digit n h = record {
  value = omega arith;
  digits = both_true (is_digit (48 + n)) true (is_digit_of n h) refl;
  numeral = both_true (is_digit (48 + n) && true) (not (48 + n == 48) || true)
      (both_true (is_digit (48 + n)) true (is_digit_of n h) refl) (either_true (48 + n == 48));
  above = λ p. let other : 48 + n ≢ 48 = omega arith in ne_eqb (48 + n) 48 other;
}

one_more : (n : ℕ) (ds : List ℕ) → 10 ≤ n → Says (n / 10) ds → Says n (ds ++ ((48 + n % 10) ∷ []))
one_more n [] h says = absurd (says.above (omega arith))
one_more n (c ∷ cs) h says =
    let last : n % 10 < 10 = omega arith in
    let first : (c == 48) ≡ false = says.above (omega arith) in
    let all : are_digits (c ∷ cs ++ ((48 + n % 10) ∷ [])) ≡ true =
    are_digits-append (48 + n % 10) (c ∷ cs) (is_digit_of (n % 10) last) says.digits in
    record {
      value = number_from-append 0 (48 + n % 10) (c ∷ cs) ∙ omega (arith, says.value);
      digits = all;
      numeral = both_true (are_digits (c ∷ cs ++ ((48 + n % 10) ∷ [])))
          (not (c == 48) || is_empty (cs ++ ((48 + n % 10) ∷ []))) all (rw first refl);
      above = λ p. first;
    }

said : (n : ℕ) → n < 2 ^ 64 → Says n (decimal n)
said n h = decimal_by_steps Says one_digit one_more n h

pub number_of_decimal : (most n : ℕ) → n ≤ most → n < 2 ^ 64 → number most (decimal n) ≡ Some n
number_of_decimal most n fits h =
    let s = said n h in
    rw (s.numeral, s.value, le-ltb most n fits) refl

-- a digit is no minus
unsigned : (w : List ℕ) → is_numeral w ≡ true → integer w ≡ option_map pos (number (2 ^ 63 - 1) w)
unsigned [] h = absurd cc
unsigned (c ∷ cs) h = at (c == 45) refl where
  at : (b : Bool) → (c == 45) ≡ b →
      cond b (option_map minus (number (2 ^ 63) cs)) (option_map pos (number (2 ^ 63 - 1) (c ∷ cs)))
      ≡ option_map pos (number (2 ^ 63 - 1) (c ∷ cs))
  at false e = refl
  at true e =
      let minus_first : is_numeral (45 ∷ cs) ≡ true = rw (eqb-true c 45 e) at h in
      absurd cc

pub integer_of_decimal : (z : ℤ) → IsLong z → integer (signed_decimal z) ≡ Some z
integer_of_decimal (pos n) h =
    let s = said n (omega arith) in
    unsigned (decimal n) s.numeral ∙
    ap (option_map pos) (number_of_decimal (2 ^ 63 - 1) n (omega arith) (omega arith))
integer_of_decimal (negsuc n) h =
    ap (option_map minus) (number_of_decimal (2 ^ 63) (suc n) (omega arith) (omega arith))

plain_digit : (c : ℕ) → is_digit c ≡ true → is_plain c ≡ true
plain_digit c h =
    let low : 47 < c = (Decides-ltb 47 c).0 (first_true (nat_lt 47 c) (nat_lt c 58) h) in
    let high : c < 58 = (Decides-ltb c 58).0 (second_true (nat_lt 47 c) (nat_lt c 58) h) in
    let other : c ≢ 59 = omega arith in
    rw (lt-ltb 47 c low, lt-ltb c 123 (omega arith), ne_eqb c 59 other) refl

plain_digits : (ds : List ℕ) → are_digits ds ≡ true → list_all is_plain ds ≡ true
plain_digits [] h = refl
plain_digits (c ∷ cs) h =
    both_true (is_plain c) (list_all is_plain cs)
    (plain_digit c (first_true (is_digit c) (are_digits cs) h))
    (plain_digits cs (second_true (is_digit c) (are_digits cs) h))

plain_numeral : (ds : List ℕ) → is_numeral ds ≡ true → is_plain_word ds ≡ true
plain_numeral [] h = absurd cc
plain_numeral (c ∷ cs) h = plain_digits (c ∷ cs)
    (first_true (are_digits (c ∷ cs)) (not (c == 48) || is_empty cs) h)

pub decimal_plain : (n : ℕ) → n < 2 ^ 64 → is_plain_word (decimal n) ≡ true
decimal_plain n h = plain_numeral (decimal n) (said n h).numeral

letterless : (ds : List ℕ) → are_digits ds ≡ true → begins_letter ds ≡ false
letterless [] h = refl
letterless (c ∷ cs) h =
    let digit = first_true (is_digit c) (are_digits cs) h in
    let high : c < 58 = (Decides-ltb c 58).0 (second_true (nat_lt 47 c) (nat_lt c 58) digit) in
    rw (le-ltb 64 c (omega arith), le-ltb 96 c (omega arith)) refl

pub decimal_letterless : (n : ℕ) → n < 2 ^ 64 → begins_letter (decimal n) ≡ false
decimal_letterless n h = letterless (decimal n) (said n h).digits

-- an integer is read up to what is no digit and no minus
goes_on : (c : ℕ) → is_digit c ≡ true → ends_integer c ≡ false
goes_on c h = rw h refl

taken : (ds rest : List ℕ) → are_digits ds ≡ true → up_to ends_integer rest ≡ [] →
    up_to ends_integer (ds ++ rest) ≡ ds
taken [] rest h e = e
taken (c ∷ cs) rest h e =
    rw (goes_on c (first_true (is_digit c) (are_digits cs) h))
    (ap (λ l. c ∷ l) (taken cs rest (second_true (is_digit c) (are_digits cs) h) e))

stopped : (c : ℕ) (cs : List ℕ) (b : Bool) → cond b [] (c ∷ up_to ends_integer cs) ≡ [] →
    cond b (c ∷ cs) (onward_from ends_integer cs) ≡ c ∷ cs
stopped c cs true e = refl
stopped c cs false e = absurd cc

none_left : (rest : List ℕ) → up_to ends_integer rest ≡ [] → onward_from ends_integer rest ≡ rest
none_left [] e = refl
none_left (c ∷ cs) e = stopped c cs (ends_integer c) e

left : (ds rest : List ℕ) → are_digits ds ≡ true → up_to ends_integer rest ≡ [] →
    onward_from ends_integer (ds ++ rest) ≡ rest
left [] rest h e = none_left rest e
left (c ∷ cs) rest h e =
    rw (goes_on c (first_true (is_digit c) (are_digits cs) h))
    (left cs rest (second_true (is_digit c) (are_digits cs) h) e)

signed : (z : ℤ) (ds rest : List ℕ) → integer ds ≡ Some z →
    up_to ends_integer (ds ++ rest) ≡ ds → onward_from ends_integer (ds ++ rest) ≡ rest →
    integer_here (ds ++ rest) ≡ Some (z, rest)
signed z ds rest is front others =
    ap (λ (l : List ℕ). option_map (λ y. (y, l))
    (integer (up_to ends_integer (ds ++ rest)))) others ∙
    ap (λ l. option_map (λ y. (y, rest)) (integer l)) front ∙
    ap (option_map (λ y. (y, rest))) is

pub integer_read : (z : ℤ) (rest : List ℕ) → IsLong z → up_to ends_integer rest ≡ [] →
    integer_here (signed_decimal z ++ rest) ≡ Some (z, rest)
integer_read (pos n) rest h e =
    let s = said n (omega arith) in
    signed (pos n) (decimal n) rest (integer_of_decimal (pos n) h)
    (taken (decimal n) rest s.digits e)
    (left (decimal n) rest s.digits e)
integer_read (negsuc n) rest h e =
    let s = said (suc n) (omega arith) in
    signed (negsuc n) (signed_decimal (negsuc n)) rest (integer_of_decimal (negsuc n) h)
    (ap (λ l. 45 ∷ l) (taken (decimal (suc n)) rest s.digits e))
    (left (decimal (suc n)) rest s.digits e)

-- a number is read up to there too
counted : (most n : ℕ) (ds rest : List ℕ) → number most ds ≡ Some n →
    up_to ends_integer (ds ++ rest) ≡ ds → onward_from ends_integer (ds ++ rest) ≡ rest →
    number_here most (ds ++ rest) ≡ Some (n, rest)
counted most n ds rest is front others =
    ap (λ (l : List ℕ). option_map (λ y. (y, l))
    (number most (up_to ends_integer (ds ++ rest)))) others ∙
    ap (λ l. option_map (λ y. (y, rest)) (number most l)) front ∙
    ap (option_map (λ y. (y, rest))) is

pub number_read : (most n : ℕ) (rest : List ℕ) → n ≤ most → n < 2 ^ 64 →
    up_to ends_integer rest ≡ [] → number_here most (decimal n ++ rest) ≡ Some (n, rest)
number_read most n rest fits h e =
    let s = said n h in
    counted most n (decimal n) rest (number_of_decimal most n fits h)
    (taken (decimal n) rest s.digits e) (left (decimal n) rest s.digits e)

digits_begin : (ds : List ℕ) → is_numeral ds ≡ true → begins_integer ds ≡ true
digits_begin [] h = absurd cc
digits_begin (c ∷ cs) h =
    let all = first_true (are_digits (c ∷ cs)) (not (c == 48) || is_empty cs) h in
    rw (goes_on c (first_true (is_digit c) (are_digits cs) all)) refl

pub number_begins : (n : ℕ) → n < 2 ^ 64 → begins_integer (decimal n) ≡ true
number_begins n h = digits_begin (decimal n) (said n h).numeral

pub integer_begins : (z : ℤ) → IsLong z → begins_integer (signed_decimal z) ≡ true
integer_begins (pos n) h = digits_begin (decimal n) (said n (omega arith)).numeral
integer_begins (negsuc n) h = refl

digits_spelled : (ds : List ℕ) → are_digits ds ≡ true → Spells ds ds
digits_spelled [] h = spells_none
digits_spelled (c ∷ cs) h =
    let digit = first_true (is_digit c) (are_digits cs) h in
    let high : c < 58 = (Decides-ltb c 58).0 (second_true (nat_lt 47 c) (nat_lt c 58) digit) in
    one_ascii c cs cs (omega arith)
    (digits_spelled cs (second_true (is_digit c) (are_digits cs) h))

pub number_spelled : (n : ℕ) → n < 2 ^ 64 → Spells (decimal n) (decimal n)
number_spelled n h = digits_spelled (decimal n) (said n h).digits

pub integer_spelled : (z : ℤ) → IsLong z → Spells (signed_decimal z) (signed_decimal z)
integer_spelled (pos n) h = number_spelled n (omega arith)
integer_spelled (negsuc n) h =
    one_ascii 45 (decimal (suc n)) (decimal (suc n)) (omega arith)
    (number_spelled (suc n) (omega arith))
