-- Operands as they are read.
use Rattle.std.proofs.Common.{◌≡◌, ◌∙◌, ◌<◌, ◌≤◌, ◌+◌, ◌-◌, ℕ, zero, suc, List, [], ◌∷◌, ◌++◌, Option, Some, None, true, length, take, drop, get_or, refl, sym, ap, arith}
use Rattle.std.proofs.lemmas.List.{length-drop, take_all}
use Rattle.std.specs.Prelude.{is_some}
use Rattle.grain_value.specs.Cells.{flat}
use Rattle.grain_value.specs.Operands.{arguments}
use Rattle.grain_value.specs.declared.stores.Cell.{Cell}
use Rattle.grain_value.specs.declared.tokens.Token.{Token}
use Rattle.grain_value.specs.declared.values.Dynamic.{Dynamic}
use Rattle.grain_value.specs.declared.values.Held.{Held}
use Rattle.grain_value.specs.declared.values.Limits.{Limits}
use Rattle.grain_ops.specs.Operators.{operation}
use Rattle.grain_ops.specs.Outcomes.{NotBuiltIn}
use Rattle.grain_means.specs.Rules.{flat_all, flat_before}

-- where all could be read, the first one could, and those after it
pub first_read : (o : Option Dynamic) (h : Held) (r : Option (List Held)) (args : List Held) →
    flat_before o h r ≡ Some args → (v : Dynamic) × (rest : List Held)
    × (args ≡ record h { value = v } ∷ rest) × (o ≡ Some v) × (r ≡ Some rest)
first_read None h r args is = absurd cc
first_read (Some v) h None args is = absurd cc
first_read (Some v) h (Some rest) args is =
    let same : args ≡ record h { value = v } ∷ rest = cc in (v, rest, same, refl, refl)

-- as many are read as there are
pub read_length : (cells : List Cell) (hs args : List Held) → flat_all cells hs ≡ Some args →
    length args ≡ length hs
read_length cells [] args is =
    let same : args ≡ [] = cc in ap (λ (l : List Held). length l) same
read_length cells (h ∷ hs) args is =
    let first = first_read (flat cells h.value) h (flat_all cells hs) args is in
    omega (
      arith,
      ap (λ (l : List Held). length l) first.2,
      read_length cells hs first.1 first.4,
    )

one_value : (o : Option Dynamic) (a b : Dynamic) → o ≡ Some a → o ≡ Some b → a ≡ b
one_value o a b is also = cc

-- no operator takes three values or more
pub many_values : (limits : Limits) (token : Token) (vs : List Dynamic) → 3 ≤ length vs →
    operation limits token vs ≡ NotBuiltIn
many_values limits token [] many = absurd (omega (arith, many))
many_values limits token (a ∷ []) many = absurd (omega (arith, many))
many_values limits token (a ∷ b ∷ []) many = absurd (omega (arith, many))
many_values limits token (a ∷ b ∷ d ∷ vs) many = refl

-- what is left of a list begins with the next one
pub next_one : (hs : List Held) (i : ℕ) (h : Held) → i < length hs → h ≡ get_or hs i h →
    drop i hs ≡ h ∷ drop (suc i) hs
next_one [] i h within is = absurd (omega (arith, within))
next_one (g ∷ hs) zero h within is = ap (λ (x : Held). x ∷ hs) (sym is)
next_one (g ∷ hs) (suc i) h within is = next_one hs i h (omega (arith, within)) is

-- and so does what is read of it
pub next_read : (cells : List Cell) (hs : List Held) (i : ℕ) (h : Held) (v : Dynamic)
    (left : List Held) → i < length hs → h ≡ get_or hs i h → flat cells h.value ≡ Some v →
    flat_all cells (drop i hs) ≡ Some left → (rest : List Held)
    × (left ≡ record h { value = v } ∷ rest) × (flat_all cells (drop (i + 1) hs) ≡ Some rest)
next_read cells hs i h v left within at read is =
    let whole : flat_all cells (h ∷ drop (i + 1) hs) ≡ Some left =
    ap (λ (l : List Held). flat_all cells l)
    (ap (λ (k : ℕ). h ∷ drop k hs) one_more ∙ sym (next_one hs i h within at)) ∙ is in
    let first = first_read (flat cells h.value) h (flat_all cells (drop (i + 1) hs)) left whole in
    let same : first.0 ≡ v = one_value (flat cells h.value) first.0 v first.3 read in (
      first.1,
      first.2 ∙ ap (λ (x : Dynamic). record h { value = x } ∷ first.1) same,
      first.4,
    ) where
      one_more : i + 1 ≡ suc i
      one_more = omega arith

-- one more after those that were read
pub regrouped : (done : List Held) (h : Held) (rest : List Held) →
    done ++ h ∷ rest ≡ (done ++ h ∷ []) ++ rest
regrouped [] h rest = refl
regrouped (x ∷ done) h rest = ap (λ (l : List Held). x ∷ l) (regrouped done h rest)

-- what is there where something is known to be
pub all_there : (o : Option (List Held)) → is_some o ≡ true → (hs : List Held) × (o ≡ Some hs)
all_there None is = absurd cc
all_there (Some hs) is = (hs, refl)

pub value_there : (o : Option Dynamic) → is_some o ≡ true → (v : Dynamic) × (o ≡ Some v)
value_there None is = absurd cc
value_there (Some v) is = (v, refl)

-- all from a place on are the last operands
pub last_ones : (n : ℕ) (xs : List Held) →
    take (length xs - (length xs - n)) (drop (length xs - n) xs) ≡ arguments n xs
last_ones n xs = take_all (length xs - (length xs - n)) (drop (length xs - n) xs)
    (omega (arith, length-drop (length xs - n) xs))

-- the same of operands that are equal to these
pub last_held : (n : ℕ) (xs ops : List Held) → ops ≡ xs →
    take (length ops - (length ops - n)) (drop (length ops - n) ops) ≡ arguments n xs
last_held n xs ops same = rw same (last_ones n xs)

-- the same of what they hold, as it is read
pub last_read : (cells : List Cell) (n : ℕ) (xs ops args : List Held) → ops ≡ xs →
    flat_all cells (arguments n xs) ≡ Some args →
    flat_all cells (take (length ops - (length ops - n)) (drop (length ops - n) ops)) ≡ Some args
last_read cells n xs ops args same is =
    rw same (ap (λ (hs : List Held). flat_all cells hs) (last_ones n xs) ∙ is)
