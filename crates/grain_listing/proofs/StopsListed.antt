-- What is read of a `stop` line is a value that a listing can hold.
use Rattle.std.proofs.Common.{◌≡◌, ℕ, ◌-◌, ◌^◌, true, List, Option, Some, None, Result, Ok, Err, ap}
use Rattle.std.proofs.Math.Utf8.{scalars}
use Rattle.std.specs.Char.{IsScalar}
use Rattle.std.specs.List.{AllByRecursion}
use Rattle.grain_value.specs.View.{tree}
use Rattle.grain_value.specs.declared.values.Dynamic.{Dynamic}
use Rattle.grain_words.specs.Numerals.{number}
use Rattle.grain_words.specs.Words.{next_word}
use Rattle.grain_literals.specs.Listed.{IsListed}
use Rattle.grain_literals.specs.Literals.{constant_of}
use Rattle.grain_literals.specs.Steps.{and_then, present}
use Rattle.grain_literals.specs.declared.reasons.Reason.{Reason}
use Rattle.grain_literals.specs.declared.reasons.Reason.TheVariants.{BadOperand}
use Rattle.grain_literals.specs.laws.Scalars.{all_scalars, each_scalar, AfterWord, after_next}
use Rattle.grain_listing.specs.HostLines.{stop_of}

-- what the crate of literals says of a constant that was read
abbrev pub Constants : Type 0
Constants = (cs : List ℕ) (v : Dynamic) → AllByRecursion IsScalar cs → constant_of cs ≡ Ok v →
    IsListed 64 (tree v)

abbrev Stop : Type 0
Stop = Result (ℕ × Dynamic) Reason

-- a number, and then the value after it
abbrev valued : Result (ℕ × List ℕ) Reason → Stop
valued r = and_then r (λ a. and_then (constant_of a.1) (λ v. Ok (a.0, v)))

abbrev counted : Option ℕ → List ℕ → Result (ℕ × List ℕ) Reason
counted o rest = and_then (present BadOperand o) (λ k. Ok (k, rest))

abbrev given : ℕ × Dynamic → Result Dynamic Reason
given s = Ok s.1

value_in : (k : ℕ) (r : Result Dynamic Reason) (n : ℕ) (v : Dynamic) →
    (let s : Stop = and_then r (λ d. Ok (k, d)) in s) ≡ Ok (n, v) → r ≡ Ok v
value_in k (Ok d) n v e = let same : (k, d) ≡ (n, v) = cc in ap given same
value_in k (Err m) n v e = absurd cc

behind_number : Constants → (o : Option ℕ) (rest : List ℕ) → scalars rest ≡ true → (n : ℕ)
    (v : Dynamic) → valued (counted o rest) ≡ Ok (n, v) → IsListed 64 (tree v)
behind_number constants None rest h n v e = absurd cc
behind_number constants (Some k) rest h n v e =
    constants rest v (each_scalar rest h) (value_in k (constant_of rest) n v e)

behind_word : Constants → (o : Option (List ℕ × List ℕ)) → AfterWord o → (n : ℕ)
    (v : Dynamic) →
    valued (and_then (present BadOperand o) (λ a. counted (number (2 ^ 64 - 1) a.0) a.1)) ≡
    Ok (n, v) → IsListed 64 (tree v)
behind_word constants None h n v e = absurd cc
behind_word constants (Some a) h n v e =
    behind_number constants (number (2 ^ 64 - 1) a.0) a.1 h n v e

pub stop_listed : Constants → (cs : List ℕ) (n : ℕ) (v : Dynamic) → AllByRecursion IsScalar cs →
    stop_of cs ≡ Ok (n, v) → IsListed 64 (tree v)
stop_listed constants cs n v h e =
    behind_word constants (next_word cs) (after_next cs (all_scalars cs h)) n v e
