-- Plain words and lines are read as they are written.
use Rattle.std.proofs.Common.{◌≡◌, ◌≢◌, ◌∷◌, ◌++◌, ◌==◌, ◌<◌, ◌&&◌, ◌||◌, not, ℕ, Bool, true, false, cond, nat_lt, List, [], Option, Some, refl, ap, ◌∙◌, arith, append_assoc}
use Rattle.std.proofs.lemmas.Bool.{ne_eqb}
use Rattle.std.proofs.lemmas.Bool.Decides.{Decides-ltb}
use Rattle.std.specs.List.{flat_map, list_all}
use Rattle.grain_words.specs.Lines.{lines_of, onto, begins}
use Rattle.grain_words.specs.Words.{is_gap, ends_word, up_to, onward_from, next_word, is_over}
use Rattle.grain_words.specs.Spelled.{is_plain, is_plain_word, after_words, spaced, is_inside, text_of}

first_true : (b c : Bool) → b && c ≡ true → b ≡ true
first_true true c h = refl
first_true false c h = h

second_true : (b c : Bool) → b && c ≡ true → c ≡ true
second_true true c h = h
second_true false c h = absurd cc

not_true : (b : Bool) → not b ≡ true → b ≡ false
not_true true h = absurd cc
not_true false h = refl

-- what is so of a plain character
record IsPlain (c : ℕ) : Type 0 where
  low : 47 < c
  high : c < 123
  comment : (c == 59) ≡ false
  gap : is_gap c ≡ false
  quote : (c == 34) ≡ false
  apostrophe : (c == 39) ≡ false

gap_not : (b d : Bool) → b ≡ false → d ≡ false → b || d ≡ false
gap_not b d hb hd = rw (hb, hd) refl

plain : (c : ℕ) → is_plain c ≡ true → IsPlain c
plain c h =
    let low : 47 < c = (Decides-ltb 47 c).0
    (first_true (nat_lt 47 c) (nat_lt c 123 && not (c == 59)) h) in
    let rest = second_true (nat_lt 47 c) (nat_lt c 123 && not (c == 59)) h in
    let high : c < 123 = (Decides-ltb c 123).0 (first_true (nat_lt c 123) (not (c == 59)) rest) in
    let space : c ≢ 32 = omega arith in
    let tab : c ≢ 9 = omega arith in
    let two : c ≢ 34 = omega arith in
    let one : c ≢ 39 = omega arith in
    record {
      low = low;
      high = high;
      comment = not_true (c == 59) (second_true (nat_lt c 123) (not (c == 59)) rest);
      gap = gap_not (c == 32) (c == 9) (ne_eqb c 32 space) (ne_eqb c 9 tab);
      quote = ne_eqb c 34 two;
      apostrophe = ne_eqb c 39 one;
    }

goes_on : (c : ℕ) → IsPlain c → ends_word c ≡ false
goes_on c p = gap_not (is_gap c) (c == 59) p.gap p.comment

all_taken : (w rest : List ℕ) → list_all is_plain w ≡ true → up_to ends_word rest ≡ [] →
    up_to ends_word (w ++ rest) ≡ w
all_taken [] rest h e = e
all_taken (c ∷ cs) rest h e =
    let p = plain c (first_true (is_plain c) (list_all is_plain cs) h) in
    rw (goes_on c p) (ap (λ l. c ∷ l)
    (all_taken cs rest (second_true (is_plain c) (list_all is_plain cs) h) e))

all_left : (w rest : List ℕ) → list_all is_plain w ≡ true → onward_from ends_word rest ≡ rest →
    onward_from ends_word (w ++ rest) ≡ rest
all_left [] rest h e = e
all_left (c ∷ cs) rest h e =
    let p = plain c (first_true (is_plain c) (list_all is_plain cs) h) in
    rw (goes_on c p) (all_left cs rest (second_true (is_plain c) (list_all is_plain cs) h) e)

none_taken : (ws : List (List ℕ)) → up_to ends_word (after_words ws) ≡ []
none_taken [] = refl
none_taken (w ∷ ws) = refl

none_left : (ws : List (List ℕ)) → onward_from ends_word (after_words ws) ≡ after_words ws
none_left [] = refl
none_left (w ∷ ws) = refl

abbrev Found_as : List ℕ → List ℕ → Option (List ℕ × List ℕ)
Found_as a b = Some (a, b)

both : {a b x y : List ℕ} → a ≡ x → b ≡ y → Found_as a b ≡ Found_as x y
both p q = cc

pub first_word : (w : List ℕ) (ws : List (List ℕ)) → is_plain_word w ≡ true →
    next_word (spaced w ws) ≡ Some (w, after_words ws)
first_word [] ws h = absurd cc
first_word (c ∷ cs) ws h =
    let p = plain c (first_true (is_plain c) (list_all is_plain cs) h) in
    let taken : up_to ends_word ((c ∷ cs) ++ after_words ws) ≡ c ∷ cs =
    all_taken (c ∷ cs) (after_words ws) h (none_taken ws) in
    let left : onward_from ends_word ((c ∷ cs) ++ after_words ws) ≡ after_words ws =
    all_left (c ∷ cs) (after_words ws) h (none_left ws) in
    rw (p.gap, p.comment, p.quote, p.apostrophe) (both taken left)

pub another_word : (w : List ℕ) (ws : List (List ℕ)) → is_plain_word w ≡ true →
    next_word (after_words (w ∷ ws)) ≡ Some (w, after_words ws)
another_word w ws h = first_word w ws h

pub not_over : (w : List ℕ) (ws : List (List ℕ)) → is_plain_word w ≡ true →
    is_over (after_words (w ∷ ws)) ≡ false
not_over [] ws h = absurd cc
not_over (c ∷ cs) ws h =
    let p = plain c (first_true (is_plain c) (list_all is_plain cs) h) in
    rw (p.gap, p.comment) refl

inside_plain : (c : ℕ) → is_plain c ≡ true → is_inside c ≡ true
inside_plain c h =
    let p = plain c h in
    let above : 47 < c = p.low in
    let feed : c ≢ 10 = omega arith in
    let return : c ≢ 13 = omega arith in
    rw (ne_eqb c 10 feed, ne_eqb c 13 return) refl

both_true : (b c : Bool) → b ≡ true → c ≡ true → b && c ≡ true
both_true b c hb hc = rw (hb, hc) refl

inside_word : (w rest : List ℕ) → list_all is_plain w ≡ true → list_all is_inside rest ≡ true →
    list_all is_inside (w ++ rest) ≡ true
inside_word [] rest h more = more
inside_word (c ∷ cs) rest h more =
    both_true (is_inside c) (list_all is_inside (cs ++ rest))
    (inside_plain c (first_true (is_plain c) (list_all is_plain cs) h))
    (inside_word cs rest (second_true (is_plain c) (list_all is_plain cs) h) more)

plain_all : (w : List ℕ) → is_plain_word w ≡ true → list_all is_plain w ≡ true
plain_all [] h = refl
plain_all (c ∷ cs) h = h

inside_after : (ws : List (List ℕ)) → list_all is_plain_word ws ≡ true →
    list_all is_inside (flat_map (λ v. 32 ∷ v) ws) ≡ true
inside_after [] h = refl
inside_after (w ∷ ws) h =
    inside_word w (flat_map (λ v. 32 ∷ v) ws)
    (plain_all w (first_true (is_plain_word w) (list_all is_plain_word ws) h))
    (inside_after ws (second_true (is_plain_word w) (list_all is_plain_word ws) h))

pub inside_words : (w : List ℕ) (ws : List (List ℕ)) → is_plain_word w ≡ true →
    list_all is_plain_word ws ≡ true → list_all is_inside (spaced w ws) ≡ true
inside_words w ws h hs = inside_word w (flat_map (λ v. 32 ∷ v) ws) (plain_all w h)
    (inside_after ws hs)

line_goes : (a b : Bool) (c : ℕ) (l : List ℕ) (ls more : List (List ℕ)) → a ≡ false → b ≡ false →
    more ≡ l ∷ ls → (d : Bool) →
    cond a ([] ∷ more) (cond (b && d) more (onto c more)) ≡ (c ∷ l) ∷ ls
line_goes a b c l ls more ha hb e d = rw (ha, hb) (ap (onto c) e)

line_first : (l rest : List ℕ) → list_all is_inside l ≡ true →
    lines_of (l ++ 10 ∷ rest) ≡ l ∷ lines_of rest
line_first [] rest h = refl
line_first (c ∷ cs) rest h =
    let here = first_true (is_inside c) (list_all is_inside cs) h in
    line_goes (c == 10) (c == 13) c cs (lines_of rest) (lines_of (cs ++ 10 ∷ rest))
    (not_true (c == 10) (first_true (not (c == 10)) (not (c == 13)) here))
    (not_true (c == 13) (second_true (not (c == 10)) (not (c == 13)) here))
    (line_first cs rest (second_true (is_inside c) (list_all is_inside cs) h))
    (begins 10 (cs ++ 10 ∷ rest))

pub plain_lines : (ls : List (List ℕ)) → list_all (list_all is_inside) ls ≡ true →
    lines_of (text_of ls) ≡ ls
plain_lines [] h = refl
plain_lines (l ∷ ls) h =
    ap lines_of (append_assoc l (10 ∷ []) (text_of ls)) ∙
    line_first l (text_of ls) (first_true (list_all is_inside l)
    (list_all (list_all is_inside) ls) h) ∙
    ap (λ x. l ∷ x) (plain_lines ls
    (second_true (list_all is_inside l) (list_all (list_all is_inside) ls) h))
