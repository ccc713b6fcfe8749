-- What follows a value is no longer than the value and what follows it.
use Rattle.std.proofs.Common.{◌≤◌, ◌+◌, ◌*◌, ◌==◌, ℕ, suc, Bool, true, false, cond, List, [], ◌∷◌, ◌++◌, length, Option, Some, None, option_map, option_and_then, codes, arith}
use Rattle.std.specs.Char.{encode_utf8, digit_value}
use Rattle.grain_words.specs.Words.{after_text, after_gap, after_sign, skip_gaps, onward_from, up_to, ends_integer, integer_here, number_here, quoted, escaped, braced, first_digit, digits, in_front, is_gap, is_character, is_hexadecimal}
use Rattle.grain_words.specs.Numerals.{integer, number}
use Rattle.grain_words.specs.Characters as characters
use Rattle.grain_words.specs.Characters.{more_digits, all_digits, numbered, escape, character_escape, one_character, before_apostrophe}
use Rattle.grain_words.specs.Bytes.{hex_bytes, second_digit}
use Rattle.grain_literals.specs.Values.{Found, behind, made}

-- where something was found, at most n characters follow it
abbrev pub Within : {A : Type 0} → ℕ → Found A → Type 0
Within n None = Unit {0}
Within n (Some x) = length x.1 ≤ n

-- where a text was found, at most n characters follow it
abbrev pub Left : ℕ → Option (List ℕ) → Type 0
Left n None = Unit {0}
Left n (Some rest) = length rest ≤ n

-- what follows is at most as long as the whole
abbrev pub Keeps : {A : Type 0} → (List ℕ → Found A) → Type 0
Keeps read = (n : ℕ) (cs : List ℕ) → length cs ≤ n → Within n (read cs)

in_map : {A B : Type 0} (n : ℕ) (f : A → B) (rest : List ℕ) (o : Option A) → length rest ≤ n →
    Within n (option_map (λ z. (f z, rest)) o)
in_map n f rest None h = tt
in_map n f rest (Some z) h = h

pub in_made : {A B : Type 0} (n : ℕ) (f : A → B) (o : Found A) → Within n o → Within n (made f o)
in_made n f None h = tt
in_made n f (Some x) h = h

pub in_cond : {A : Type 0} (n : ℕ) (b : Bool) (x y : Found A) → Within n x → Within n y →
    Within n (cond b x y)
in_cond n true x y hx hy = hx
in_cond n false x y hx hy = hy

pub in_behind : {A : Type 0} (n : ℕ) (o : Option (List ℕ)) (here : List ℕ → Found A)
    (other : Found A) → Left n o → ((cs : List ℕ) → length cs ≤ n → Within n (here cs)) →
    Within n other → Within n (behind o here other)
in_behind n None here other l h e = e
in_behind n (Some rest) here other l h e = h rest l

pub in_then : {A B : Type 0} (n : ℕ) (go : A × List ℕ → Found B) (o : Found A) → Within n o →
    ((x : A × List ℕ) → length x.1 ≤ n → Within n (go x)) → Within n (option_and_then go o)
in_then n go None w h = tt
in_then n go (Some x) w h = h x w

pub in_rest : {B : Type 0} (n : ℕ) (go : List ℕ → Found B) (o : Option (List ℕ)) → Left n o →
    ((cs : List ℕ) → length cs ≤ n → Within n (go cs)) → Within n (option_and_then go o)
in_rest n go None w h = tt
in_rest n go (Some x) w h = h x w

pub in_pair : {A : Type 0} (n : ℕ) (x : A) (o : Option (List ℕ)) → Left n o →
    Within n (option_map (λ rest. (x, rest)) o)
in_pair n x None h = tt
in_pair n x (Some rest) h = h

left_cond : (n : ℕ) (b : Bool) (x y : Option (List ℕ)) → Left n x → Left n y → Left n (cond b x y)
left_cond n true x y hx hy = hx
left_cond n false x y hx hy = hy

pub text_left : (n : ℕ) (t cs : List ℕ) → length cs ≤ n → Left n (after_text t cs)
text_left n [] cs h = h
text_left n (t ∷ ts) [] h = tt
text_left n (t ∷ ts) (c ∷ cs) h =
    left_cond n (c == t) (after_text ts cs) None (text_left n ts cs (omega arith)) tt

shorter_if : (b : Bool) (n : ℕ) (xs ys : List ℕ) → length xs ≤ n → length ys ≤ n →
    length (cond b xs ys) ≤ n
shorter_if true n xs ys hx hy = hx
shorter_if false n xs ys hx hy = hy

gaps_shorter : (n : ℕ) (cs : List ℕ) → length cs ≤ n → length (skip_gaps cs) ≤ n
gaps_shorter n [] h = h
gaps_shorter n (c ∷ cs) h =
    shorter_if (is_gap c) n (skip_gaps cs) (c ∷ cs) (gaps_shorter n cs (omega arith)) h

gap_left : (n : ℕ) (cs : List ℕ) → length cs ≤ n → Left n (after_gap cs)
gap_left n [] h = tt
gap_left n (c ∷ cs) h =
    left_cond n (is_gap c) (Some (skip_gaps cs)) None (gaps_shorter n cs (omega arith)) tt

-- a sign takes a character at least
pub sign_left : (n c : ℕ) (cs : List ℕ) → length cs ≤ suc n → Left n (after_sign (c ∷ []) cs)
sign_left n c [] h = tt
sign_left n c (d ∷ cs) h = at (d == c) (gap_left n cs (omega arith)) where
  at : (b : Bool) → Left n (after_gap cs) →
      Left n (option_and_then after_gap (cond b (Some cs) None))
  at true l = l
  at false l = tt

pub sign_within : (n c : ℕ) (cs : List ℕ) → length cs ≤ n → Left n (after_sign (c ∷ []) cs)
sign_within n c cs h = sign_left n c cs (omega arith)

onward_shorter : (n : ℕ) (stops : ℕ → Bool) (cs : List ℕ) → length cs ≤ n →
    length (onward_from stops cs) ≤ n
onward_shorter n stops [] h = h
onward_shorter n stops (c ∷ cs) h =
    shorter_if (stops c) n (c ∷ cs) (onward_from stops cs) h
    (onward_shorter n stops cs (omega arith))

pub integer_keeps : Keeps integer_here
integer_keeps n cs h =
    in_map n (λ z. z) (onward_from ends_integer cs) (integer (up_to ends_integer cs))
    (onward_shorter n ends_integer cs h)

pub number_keeps : (most : ℕ) → Keeps (number_here most)
number_keeps most n cs h =
    in_map n (λ z. z) (onward_from ends_integer cs) (number most (up_to ends_integer cs))
    (onward_shorter n ends_integer cs h)

mutual
  pub quoted_keeps : (n : ℕ) (cs : List ℕ) → length cs ≤ n → Within n (quoted cs)
  quoted_keeps n [] h = tt
  quoted_keeps n (c ∷ cs) h =
      let less : length cs ≤ n = omega arith in
      in_cond n (c == 34) (Some ([], cs))
      (cond (c == 92) (escaped cs) (in_front (encode_utf8 c) (quoted cs))) less
      (in_cond n (c == 92) (escaped cs) (in_front (encode_utf8 c) (quoted cs))
      (escaped_keeps n cs less)
      (in_made n (λ t. encode_utf8 c ++ t) (quoted cs) (quoted_keeps n cs less)))

  escaped_keeps : (n : ℕ) (cs : List ℕ) → length cs ≤ n → Within n (escaped cs)
  escaped_keeps n [] h = tt
  escaped_keeps n (c ∷ cs) h =
      let less : length cs ≤ n = omega arith in
      let more = quoted_keeps n cs less in
      let front = λ (t : List ℕ). in_made n (λ u. t ++ u) (quoted cs) more in
      in_cond n (c == 34) (in_front (34 ∷ []) (quoted cs)) _ (front (34 ∷ []))
      (in_cond n (c == 92) (in_front (92 ∷ []) (quoted cs)) _ (front (92 ∷ []))
      (in_cond n (c == 110) (in_front (10 ∷ []) (quoted cs)) _ (front (10 ∷ []))
      (in_cond n (c == 114) (in_front (13 ∷ []) (quoted cs)) _ (front (13 ∷ []))
      (in_cond n (c == 116) (in_front (9 ∷ []) (quoted cs)) _ (front (9 ∷ []))
      (in_cond n (c == 117) (braced cs) None (braced_keeps n cs less) tt)))))

  braced_keeps : (n : ℕ) (cs : List ℕ) → length cs ≤ n → Within n (braced cs)
  braced_keeps n [] h = tt
  braced_keeps n (c ∷ cs) h =
      in_cond n (c == 123) (first_digit cs) None (first_keeps n cs (omega arith)) tt

  first_keeps : (n : ℕ) (cs : List ℕ) → length cs ≤ n → Within n (first_digit cs)
  first_keeps n [] h = tt
  first_keeps n (c ∷ cs) h =
      in_cond n (is_hexadecimal c) (digits (digit_value c) cs) None
      (digits_keep n (digit_value c) cs (omega arith)) tt

  digits_keep : (n k : ℕ) (cs : List ℕ) → length cs ≤ n → Within n (digits k cs)
  digits_keep n k [] h = tt
  digits_keep n k (c ∷ cs) h =
      let less : length cs ≤ n = omega arith in
      in_cond n (c == 125) (cond (is_character k) (in_front (encode_utf8 k) (quoted cs)) None) _
      (in_cond n (is_character k) (in_front (encode_utf8 k) (quoted cs)) None
      (in_made n (λ t. encode_utf8 k ++ t) (quoted cs) (quoted_keeps n cs less)) tt)
      (in_cond n (is_hexadecimal c) (digits (k * 16 + digit_value c) cs) None
      (digits_keep n (k * 16 + digit_value c) cs less) tt)

more_keep : (n k : ℕ) (cs : List ℕ) → length cs ≤ n → Within n (more_digits k cs)
more_keep n k [] h = tt
more_keep n k (c ∷ cs) h =
    let less : length cs ≤ n = omega arith in
    in_cond n (c == 125) (cond (is_character k) (Some (k, cs)) None) _
    (in_cond n (is_character k) (Some (k, cs)) None less tt)
    (in_cond n (is_hexadecimal c) (more_digits (k * 16 + digit_value c) cs) None
    (more_keep n (k * 16 + digit_value c) cs less) tt)

all_keep : (n : ℕ) (cs : List ℕ) → length cs ≤ n → Within n (all_digits cs)
all_keep n [] h = tt
all_keep n (c ∷ cs) h =
    in_cond n (is_hexadecimal c) (more_digits (digit_value c) cs) None
    (more_keep n (digit_value c) cs (omega arith)) tt

numbered_keeps : (n : ℕ) (cs : List ℕ) → length cs ≤ n → Within n (numbered cs)
numbered_keeps n [] h = tt
numbered_keeps n (c ∷ cs) h =
    in_cond n (c == 123) (all_digits cs) None (all_keep n cs (omega arith)) tt

escape_keeps : (n : ℕ) (cs : List ℕ) → length cs ≤ n → Within n (escape cs)
escape_keeps n [] h = tt
escape_keeps n (c ∷ cs) h =
    let less : length cs ≤ n = omega arith in
    in_cond n (c == 34) (Some (34, cs)) _ less (in_cond n (c == 92) (Some (92, cs)) _ less
    (in_cond n (c == 110) (Some (10, cs)) _ less (in_cond n (c == 114) (Some (13, cs)) _ less
    (in_cond n (c == 116) (Some (9, cs)) _ less
    (in_cond n (c == 117) (numbered cs) None (numbered_keeps n cs less) tt)))))

character_escape_keeps : (n : ℕ) (cs : List ℕ) → length cs ≤ n → Within n (character_escape cs)
character_escape_keeps n [] h = tt
character_escape_keeps n (c ∷ cs) h =
    in_cond n (c == 39) (Some (39, cs)) (escape (c ∷ cs)) (omega arith) (escape_keeps n (c ∷ cs) h)

one_keeps : (n : ℕ) (cs : List ℕ) → length cs ≤ n → Within n (one_character cs)
one_keeps n [] h = tt
one_keeps n (c ∷ cs) h =
    let less : length cs ≤ n = omega arith in
    in_cond n (c == 39) None _ tt (in_cond n (c == 92) (character_escape cs) (Some (c, cs))
    (character_escape_keeps n cs less) less)

pub character_keeps : Keeps characters.character
character_keeps n cs h =
    in_then n before_apostrophe (one_character cs) (one_keeps n cs h)
    (λ x l. in_pair n x.0 (after_text (codes "'") x.1) (text_left n (codes "'") x.1 l))

mutual
  pub bytes_keep : (n : ℕ) (cs : List ℕ) → length cs ≤ n → Within n (hex_bytes cs)
  bytes_keep n [] h = tt
  bytes_keep n (c ∷ cs) h =
      let less : length cs ≤ n = omega arith in
      in_cond n (c == 41) (Some ([], cs)) _ less
      (in_cond n (is_hexadecimal c) (second_digit (digit_value c) cs) None
      (second_keeps n (digit_value c) cs less) tt)

  second_keeps : (n k : ℕ) (cs : List ℕ) → length cs ≤ n → Within n (second_digit k cs)
  second_keeps n k [] h = tt
  second_keeps n k (c ∷ cs) h =
      in_cond n (is_hexadecimal c) (in_front ((k * 16 + digit_value c) ∷ []) (hex_bytes cs)) None
      (in_made n (λ t. (k * 16 + digit_value c) ∷ [] ++ t) (hex_bytes cs)
      (bytes_keep n cs (omega arith))) tt
