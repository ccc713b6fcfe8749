-- The position of an address among entries in ascending order.
use Rattle.std.proofs.Common.{◌≡◌, ℕ, zero, suc, ◌+◌, ◌-◌, ◌/◌, ◌<◌, ◌≤◌, ◌⊎◌, ◌==◌, Bool, true, false, cond, List, [], ◌∷◌, length, Some, refl, ap, ◌∙◌, inl, inr, arith}
use Rattle.std.specs.Prelude.{slice_get}
use Rattle.std.proofs.lemmas.Bool.{cases_lt, eqb-true, eq-eqb}
use Rattle.grain_fault.specs.Places.{nowhere}
use Rattle.grain_program.specs.declared.code.parts.PositionEntry.{PositionEntry}
use Rattle.grain_program.specs.View.{position_in}
use Rattle.grain_program.specs.Recorded.{Ascends}

-- the address of the entry at the index
abbrev pub address_at : List PositionEntry → ℕ → ℕ
address_at [] k = 0
address_at (e ∷ es) zero = e.address
address_at (e ∷ es) (suc k) = address_at es k

pub address_of_entry : (es : List PositionEntry) (k : ℕ) (e : PositionEntry)
    → slice_get es k ≡ Some e → (address_at es k ≡ e.address) × (k < length es)
address_of_entry [] k e g = absurd cc
address_of_entry (x ∷ es) zero e g =
    let same : x ≡ e = cc in (ap (λ (y : PositionEntry). y.address) same, omega arith)
address_of_entry (x ∷ es) (suc k) e g =
    let r = address_of_entry es k e g in (r.0, omega (arith, r.1))

from_low : (low end : ℕ) (es : List PositionEntry) → Ascends low end es → (k : ℕ) → k < length es
    → low ≤ address_at es k
from_low low end [] s k lt = absurd (omega arith)
from_low low end (e ∷ es) s zero lt = s.0
from_low low end (e ∷ es) s (suc k) lt =
    let r = from_low (suc e.address) end es s.2 k (omega arith) in omega (arith, r, s.0)

ascending : (low end : ℕ) (es : List PositionEntry) → Ascends low end es → (i j : ℕ) → i < j
    → j < length es → address_at es i < address_at es j
ascending low end [] s i j lt in_range = absurd (omega arith)
ascending low end (e ∷ es) s i zero lt in_range = absurd (omega arith)
ascending low end (e ∷ es) s zero (suc j) lt in_range =
    let r = from_low (suc e.address) end es s.2 j (omega arith) in omega (arith, r)
ascending low end (e ∷ es) s (suc i) (suc j) lt in_range =
    ascending (suc e.address) end es s.2 i j (omega arith) (omega arith)

pub present : (low end : ℕ) (es : List PositionEntry) → Ascends low end es
    → (k : ℕ) (e : PositionEntry) (a : ℕ) → slice_get es k ≡ Some e → e.address ≡ a
    → position_in es a ≡ e.position
present low end [] s k e a g h = absurd cc
present low end (x ∷ es) s zero e a g h =
    let same : x ≡ e = cc in
    let is : x.address ≡ a = ap (λ (y : PositionEntry). y.address) same ∙ h in
    ap (λ (t : Bool). cond t x.position (position_in es a)) (eq-eqb x.address a is)
    ∙ ap (λ (y : PositionEntry). y.position) same
present low end (x ∷ es) s (suc k) e a g h =
    at (x.address == a) refl (present (suc x.address) end es s.2 k e a g h) where
      behind : x.address < a
      behind = let r = address_of_entry es k e g in let l = from_low (suc x.address) end es s.2 k
          r.1 in omega (arith, r.0)

      at : (t : Bool) → (x.address == a) ≡ t → position_in es a ≡ e.position
          → cond t x.position (position_in es a) ≡ e.position
      at true q r = let is = eqb-true x.address a q in let lt = behind in absurd (omega arith)
      at false q r = r

pub absent : (es : List PositionEntry) (a : ℕ) →
    ((k : ℕ) → k < length es → address_at es k ≡ a → ⊥)
    → position_in es a ≡ nowhere
absent [] a none = refl
absent (x ∷ es) a none =
    at (x.address == a) refl (absent es a (λ k lt e. none (suc k) (omega arith) e)) where
      at : (t : Bool) → (x.address == a) ≡ t → position_in es a ≡ nowhere
          → cond t x.position (position_in es a) ≡ nowhere
      at true q r = absurd (none 0 (omega arith) (eqb-true x.address a q))
      at false q r = r

-- the entries before the first index have lower addresses, and those from the second on have higher
-- ones
pub record Between (es : List PositionEntry) (a low high : ℕ) : Type 0 where
  pub ordered : low ≤ high
  pub inside : high ≤ length es
  pub below : (k : ℕ) → k < low → address_at es k < a
  pub above : (k : ℕ) → high ≤ k → k < length es → a < address_at es k

module _ (es : List PositionEntry) (s : (end : ℕ) × Ascends 0 end es) (a low high middle : ℕ)
    (b : Between es a low high) (e : PositionEntry) (g : slice_get es middle ≡ Some e) where
  pub to_the_right : e.address < a → middle < high → Between es a (middle + 1) high
  to_the_right lt in_range =
      record {
        ordered = omega arith;
        inside = b.inside;
        below = λ k h. at k h (cases_lt k middle);
        above = b.above;
      } where
        at : (k : ℕ) → k < middle + 1 → (k < middle) ⊎ (middle ≤ k) → address_at es k < a
        at k h (inl l) =
            let r = ascending 0 s.0 es s.1 k middle l (omega (arith, b.inside)) in let q =
            address_of_entry es middle e g in omega (arith, q.0)
        at k h (inr l) = let same : k ≡ middle = omega arith in let q =
            address_of_entry es middle e g in let z = ap (address_at es) same in omega (arith, q.0)

  pub to_the_left : (e.address ≡ a → ⊥) → a ≤ e.address → low ≤ middle → middle < high
      → Between es a low middle
  to_the_left ne lt le in_range =
      record {
        ordered = le;
        inside = omega (arith, b.inside);
        below = b.below;
        above =
            λ k h l. at k h l (cases_lt middle k);
      } where
        at : (k : ℕ) → middle ≤ k → k < length es → (middle < k) ⊎ (k ≤ middle)
            → a < address_at es k
        at k h l (inl x) = let r = ascending 0 s.0 es s.1 middle k x l in let q =
            address_of_entry es middle e g in omega (arith, q.0)
        at k h l (inr x) = let same : k ≡ middle = omega arith in let q =
            address_of_entry es middle e g in let z = ap (address_at es) same in omega (arith, q.0)

pub none_between : (es : List PositionEntry) (a low high : ℕ) → Between es a low high → high ≤ low
    → position_in es a ≡ nowhere
none_between es a low high b le = absent es a (λ k lt e. at k lt e (cases_lt k low)) where
  at : (k : ℕ) → k < length es → address_at es k ≡ a → (k < low) ⊎ (low ≤ k) → ⊥
  at k lt e (inl l) = let r = b.below k l in omega arith
  at k lt e (inr l) = let r = b.above k (omega (arith, b.ordered)) lt in omega arith

-- the middle of two indices is between them
pub middle_of : (low high : ℕ) → low < high → (low ≤ low + (high - low) / 2)
    × (low + (high - low) / 2 < high)
middle_of low high lt = (omega arith, omega arith)
