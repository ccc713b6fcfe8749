-- What a line gives that says something, and what is left of a line after a word of it.
use Rattle.std.proofs.Common.{◌≡◌, ℕ, ◌||◌, ◌==◌, Bool, true, false, cond, List, [], ◌∷◌, Option, Some, None, Result, Ok, Err, refl, sym, ap}
use Rattle.grain_program.specs.Chains.{root_slots, step_slots}
use Rattle.grain_words.specs.Words.{is_over, trim_start, ends_word, up_to, onward_from, quoted, whole, behind, bare, skipped, next_word, after_word}
use Rattle.grain_words.specs.Numerals.{number}
use Rattle.grain_literals.specs.Steps.{and_then, present}
use Rattle.grain_literals.specs.Operands.{alone, number_operand}
use Rattle.grain_literals.specs.declared.reasons.Reason.{Reason}
use Rattle.grain_literals.specs.declared.reasons.Reason.TheVariants.{BadOperand}
use Rattle.grain_listing.specs.Statements.{Statement, chain_line, step_line, main_line, fn_line, end_line, code_line, width}
use Rattle.grain_addresses.specs.declared.kinds.LineKind.{LineKind}
use Rattle.grain_addresses.specs.declared.kinds.LineKind.TheVariants as kinds

-- what a line gives that says this
abbrev pub kind_said : Statement → LineKind
kind_said (code_line p ps at) = kinds.Code (width (p ∷ ps)) at
kind_said (main_line n) = kinds.Main
kind_said (fn_line h) = kinds.Function
kind_said end_line = kinds.End
kind_said (chain_line c) = kinds.Chain (root_slots c.root)
kind_said (step_line s) = kinds.Step (step_slots s)
kind_said s = kinds.Other

-- what is said, if anything is, gives this
abbrev pub Gives : LineKind → Result Statement Reason → Type 0
Gives k (Ok s) = kind_said s ≡ k
Gives k (Err e) = Unit {0}

pub either : (k : LineKind) (b : Bool) (x y : Result Statement Reason) → Gives k x → Gives k y →
    Gives k (cond b x y)
either k true x y hx hy = hx
either k false x y hx hy = hy

pub step : {A : Type 0} (k : LineKind) (r : Result A Reason) (say : A → Statement) →
    ((x : A) → kind_said (say x) ≡ k) → Gives k (and_then r (λ x. Ok (say x)))
step k (Ok x) say h = h x
step k (Err e) say h = tt

pub alone_gives : (k : LineKind) (cs : List ℕ) (s : Statement) → kind_said s ≡ k → Gives k (alone cs s)
alone_gives k cs s h = either k (is_over cs) (Ok s) (Err BadOperand) h tt

-- what is left after a word
second : (x a : List ℕ × List ℕ) → Some x ≡ Some a → x.1 ≡ a.1
second x a e = let is : x ≡ a = cc in ap (λ (p : List ℕ × List ℕ). p.1) is

bare_left : (x : List ℕ) (a : List ℕ × List ℕ) → bare x ≡ Some a → skipped x ≡ a.1
bare_left [] a e = absurd cc
bare_left (c ∷ cs) a e = at (c == 34) (c == 39) e where
  at : (q r : Bool) →
      cond (q || r) None (Some (up_to ends_word (c ∷ cs), onward_from ends_word (c ∷ cs))) ≡ Some a →
      cond q (behind (whole (quoted cs))) (cond r [] (onward_from ends_word (c ∷ cs))) ≡ a.1
  at true r h = absurd cc
  at false true h = absurd cc
  at false false h = second (up_to ends_word (c ∷ cs), onward_from ends_word (c ∷ cs)) a h

pub word_left : (cs : List ℕ) (a : List ℕ × List ℕ) → next_word cs ≡ Some a → after_word cs ≡ a.1
word_left cs a e = bare_left (trim_start cs) a e

-- what a number leaves, if one is read
abbrev pub Leaves : List ℕ → Result (ℕ × List ℕ) Reason → Type 0
Leaves rest (Ok x) = x.1 ≡ rest
Leaves rest (Err e) = Unit {0}

pub number_leaves : (most : ℕ) (cs : List ℕ) → Leaves (after_word cs) (number_operand most cs)
number_leaves most cs = at (next_word cs) (λ a e. word_left cs a e) where
  within : (rest : List ℕ) (o : Option ℕ) → rest ≡ after_word cs →
      Leaves (after_word cs) (and_then (present BadOperand o) (λ n. Ok (n, rest)))
  within rest None same = tt
  within rest (Some n) same = same

  at : (o : Option (List ℕ × List ℕ)) →
      ((a : List ℕ × List ℕ) → o ≡ Some a → after_word cs ≡ a.1) →
      Leaves (after_word cs) (and_then (present BadOperand o)
      (λ a. and_then (present BadOperand (number most a.0)) (λ n. Ok (n, a.1))))
  at None left = tt
  at (Some a) left = within a.1 (number most a.0) (sym (left a refl))

-- what is read further on
pub further : {A B : Type 0} (k : LineKind) (r : Result A Reason) (go : A → Result B Reason)
    (say : B → Statement) → ((x : A) → Gives k (and_then (go x) (λ y. Ok (say y)))) →
    Gives k (and_then (and_then r go) (λ y. Ok (say y)))
further k (Ok x) go say h = h x
further k (Err e) go say h = tt
