-- Characters that are scalar values, and what is left of them after a word.
use Rattle.std.proofs.Common.{◌≡◌, ◌==◌, ◌&&◌, ℕ, Bool, true, false, cond, List, [], ◌∷◌, Option, Some, None, refl}
use Rattle.std.proofs.Math.Utf8.{scalar, scalars}
use Rattle.std.specs.Char.{IsScalar}
use Rattle.std.specs.List.{AllByRecursion}
use Rattle.grain_words.specs.Words.{trim_start, is_gap, is_quote, bare, up_to, onward_from, ends_word, next_word}

first_true : (b c : Bool) → b && c ≡ true → b ≡ true
first_true true c h = refl
first_true false c h = h

second_true : (b c : Bool) → b && c ≡ true → c ≡ true
second_true true c h = h
second_true false c h = absurd cc

pub first : (c : ℕ) (cs : List ℕ) → scalars (c ∷ cs) ≡ true → scalar c ≡ true
first c cs h = first_true (scalar c) (scalars cs) h

pub rest_of : (c : ℕ) (cs : List ℕ) → scalars (c ∷ cs) ≡ true → scalars cs ≡ true
rest_of c cs h = second_true (scalar c) (scalars cs) h

-- the same, said of each character
pub all_scalars : (cs : List ℕ) → AllByRecursion IsScalar cs → scalars cs ≡ true
all_scalars [] h = refl
all_scalars (c ∷ cs) h = rw (h.0, all_scalars cs h.1) refl

pub each_scalar : (cs : List ℕ) → scalars cs ≡ true → AllByRecursion IsScalar cs
each_scalar [] h = tt
each_scalar (c ∷ cs) h = (first c cs h, each_scalar cs (rest_of c cs h))

pub list_cond : (b : Bool) (xs ys : List ℕ) → scalars xs ≡ true → scalars ys ≡ true →
    scalars (cond b xs ys) ≡ true
list_cond true xs ys hx hy = hx
list_cond false xs ys hx hy = hy

pub onward_left : (stops : ℕ → Bool) (cs : List ℕ) → scalars cs ≡ true →
    scalars (onward_from stops cs) ≡ true
onward_left stops [] h = h
onward_left stops (c ∷ cs) h =
    list_cond (stops c) (c ∷ cs) (onward_from stops cs) h (onward_left stops cs (rest_of c cs h))

pub trimmed : (cs : List ℕ) → scalars cs ≡ true → scalars (trim_start cs) ≡ true
trimmed [] h = h
trimmed (c ∷ cs) h =
    list_cond (is_gap c) (trim_start cs) (cond (c == 59) [] (c ∷ cs)) (trimmed cs (rest_of c cs h))
    (list_cond (c == 59) [] (c ∷ cs) refl h)

-- if there is a word, characters follow it
abbrev pub AfterWord : Option (List ℕ × List ℕ) → Type 0
AfterWord None = Unit {0}
AfterWord (Some a) = scalars a.1 ≡ true

after_cond : (b : Bool) (x y : Option (List ℕ × List ℕ)) → AfterWord x → AfterWord y →
    AfterWord (cond b x y)
after_cond true x y hx hy = hx
after_cond false x y hx hy = hy

after_bare : (cs : List ℕ) → scalars cs ≡ true → AfterWord (bare cs)
after_bare [] h = tt
after_bare (c ∷ cs) h =
    after_cond (is_quote c) None
    (Some (up_to ends_word (c ∷ cs), onward_from ends_word (c ∷ cs))) tt
    (onward_left ends_word (c ∷ cs) h)

pub after_next : (cs : List ℕ) → scalars cs ≡ true → AfterWord (next_word cs)
after_next cs h = after_bare (trim_start cs) (trimmed cs h)
