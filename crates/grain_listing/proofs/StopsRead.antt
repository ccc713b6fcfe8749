-- A `stop` line is read as it is written.
use Rattle.std.proofs.Common.{◌≡◌, ℕ, ◌-◌, ◌^◌, ◌<◌, ◌≤◌, true, List, [], ◌∷◌, ◌++◌, Option, Some, Result, Ok, ap, ◌∙◌, subst, arith, append-nil}
use Rattle.std.specs.Fmt.{decimal}
use Rattle.std.specs.Str.{chars}
use Rattle.grain_value.specs.View.{tree}
use Rattle.grain_value.specs.Writing.{quoted}
use Rattle.grain_value.specs.declared.values.Dynamic.{Dynamic}
use Rattle.grain_words.specs.Numerals.{number}
use Rattle.grain_words.specs.Spelled.{is_plain_word, after_words}
use Rattle.grain_words.specs.Words.{next_word}
use Rattle.grain_literals.specs.Listed.{IsListed}
use Rattle.grain_literals.specs.Literals.{constant_of}
use Rattle.grain_literals.specs.Steps.{and_then, present}
use Rattle.grain_literals.specs.declared.reasons.Reason.{Reason}
use Rattle.grain_literals.specs.declared.reasons.Reason.TheVariants.{BadOperand}
use Rattle.grain_listing.specs.HostLines.{count_operand, stop_of}

-- what the crate of words says of a number that is a word
pub record Numbers : Type 0 where
  pub read : (most n : ℕ) → n ≤ most → n < 2 ^ 64 → number most (decimal n) ≡ Some n
  pub plain : (n : ℕ) → n < 2 ^ 64 → is_plain_word (decimal n) ≡ true
  pub next : (w : List ℕ) (ws : List (List ℕ)) → is_plain_word w ≡ true →
      next_word (after_words (w ∷ ws)) ≡ Some (w, after_words ws)

-- what the crate of literals says of the text of a value
abbrev pub Constants : Type 0
Constants = (v : Dynamic) → IsListed 64 (tree v) → constant_of (32 ∷ chars (quoted v)) ≡ Ok v

abbrev numbered : ℕ → List ℕ → Result (ℕ × List ℕ) Reason
numbered n rest = Ok (n, rest)

abbrev stopped : ℕ → Dynamic → Result (ℕ × Dynamic) Reason
stopped n v = Ok (n, v)

word_read : Numbers → (n : ℕ) (cs : List ℕ) → n < 2 ^ 64 →
    next_word (32 ∷ (decimal n ++ 32 ∷ cs)) ≡ Some (decimal n, 32 ∷ cs)
word_read numbers n cs small =
    subst (λ (l : List ℕ). next_word (32 ∷ (decimal n ++ 32 ∷ l)) ≡ Some (decimal n, 32 ∷ l))
    (append-nil cs) (numbers.next (decimal n) (cs ∷ []) (numbers.plain n small))

count_read : Numbers → (n : ℕ) (cs : List ℕ) → n < 2 ^ 64 →
    count_operand (32 ∷ (decimal n ++ 32 ∷ cs)) ≡ Ok (n, 32 ∷ cs)
count_read numbers n cs small =
    ap (λ (o : Option (List ℕ × List ℕ)). and_then (present BadOperand o)
    (λ a. and_then (present BadOperand (number (2 ^ 64 - 1) a.0)) (λ k. numbered k a.1)))
    (word_read numbers n cs small) ∙
    ap (λ (o : Option ℕ). and_then (present BadOperand o) (λ k. numbered k (32 ∷ cs)))
    (numbers.read (2 ^ 64 - 1) n (omega (arith, small)) small)

pub stop_read : Constants → Numbers → (n : ℕ) (v : Dynamic) → n < 2 ^ 64 → IsListed 64 (tree v) →
    stop_of (32 ∷ (decimal n ++ 32 ∷ chars (quoted v))) ≡ Ok (n, v)
stop_read constants numbers n v small l =
    ap (λ (r : Result (ℕ × List ℕ) Reason).
    and_then r (λ a. and_then (constant_of a.1) (λ d. stopped a.0 d)))
    (count_read numbers n (chars (quoted v)) small) ∙
    ap (λ (r : Result Dynamic Reason). and_then r (λ d. stopped n d)) (constants v l)
