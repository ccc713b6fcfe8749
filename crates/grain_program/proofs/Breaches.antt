-- Breaches by what breaks the rule, and the first of those of one kind or of two.
use Rattle.std.proofs.Common.{◌≡◌, ◌<◌, ◌≤◌, ◌⊎◌, Bool, true, false, cond, List, Option, Some, None, refl, inl, inr, arith}
use Rattle.std.proofs.lemmas.Bool.{cases_lt}
use Rattle.grain_program.specs.declared.code.parts.Chunk.{Chunk}
use Rattle.grain_program.specs.declared.verifier.refusals.Refusal.{Refusal}
use Rattle.grain_program.specs.declared.verifier.refusals.Refusal.TheVariants as refusal
use Rattle.grain_program.specs.View.{View}
use Rattle.grain_program.specs.Rules.{IndexRule, TargetRule, EndRule, CapabilityRule, Unread, Disobeys, IsEmptyChunk, IsMisnamed, Breach, address_of, rule_of, Precedes, precedes, earlier, IsFirst}
use Rattle.grain_program.proofs.Decisions.{Decides, precedes_decide}

-- an instruction breaks the rule
abbrev pub ByOp : View → List Chunk → Refusal → Type 0
ByOp p chunks (refusal.Undecodable a) = Unread p.code chunks a
ByOp p chunks (refusal.PoolIndex a) = Disobeys p.code chunks (IndexRule p) a
ByOp p chunks (refusal.JumpTarget a) = Disobeys p.code chunks (TargetRule p) a
ByOp p chunks (refusal.FallsOff a) = Disobeys p.code chunks (EndRule p) a
ByOp p chunks (refusal.Capability a) = Disobeys p.code chunks (CapabilityRule p) a
ByOp p chunks _ = ⊥

-- a function's name breaks it
abbrev pub ByName : View → Refusal → Type 0
ByName p (refusal.PoolIndex a) = IsMisnamed p a
ByName p _ = ⊥

-- an empty chunk breaks it
abbrev pub ByEmptyChunk : List Chunk → Refusal → Type 0
ByEmptyChunk chunks (refusal.FallsOff a) = IsEmptyChunk chunks a
ByEmptyChunk chunks _ = ⊥

-- each breach is of one of these kinds
pub kind_of : (p : View) (chunks : List Chunk) (q : Refusal) → Breach p chunks q → ByOp p chunks q
    ⊎ (ByName p q ⊎ ByEmptyChunk chunks q)
kind_of p chunks (refusal.Undecodable a) h = inl h
kind_of p chunks (refusal.PoolIndex a) (inl h) = inl h
kind_of p chunks (refusal.PoolIndex a) (inr h) = inr (inl h)
kind_of p chunks (refusal.JumpTarget a) h = inl h
kind_of p chunks (refusal.FallsOff a) (inl h) = inl h
kind_of p chunks (refusal.FallsOff a) (inr h) = inr (inr h)
kind_of p chunks (refusal.Capability a) h = inl h
kind_of p chunks _ h = absurd h

op_breach : (p : View) (chunks : List Chunk) (q : Refusal) → ByOp p chunks q → Breach p chunks q
op_breach p chunks (refusal.Undecodable a) h = h
op_breach p chunks (refusal.PoolIndex a) h = inl h
op_breach p chunks (refusal.JumpTarget a) h = h
op_breach p chunks (refusal.FallsOff a) h = inl h
op_breach p chunks (refusal.Capability a) h = h
op_breach p chunks _ h = absurd h

name_breach : (p : View) (chunks : List Chunk) (q : Refusal) → ByName p q → Breach p chunks q
name_breach p chunks (refusal.PoolIndex a) h = inr h
name_breach p chunks _ h = absurd h

empty_breach : (p : View) (chunks : List Chunk) (q : Refusal) → ByEmptyChunk chunks q
    → Breach p chunks q
empty_breach p chunks (refusal.FallsOff a) h = inr h
empty_breach p chunks _ h = absurd h

breach_of : (p : View) (chunks : List Chunk) (q : Refusal) → ByOp p chunks q
    ⊎ (ByName p q ⊎ ByEmptyChunk chunks q) → Breach p chunks q
breach_of p chunks q (inl h) = op_breach p chunks q h
breach_of p chunks q (inr (inl h)) = name_breach p chunks q h
breach_of p chunks q (inr (inr h)) = empty_breach p chunks q h

-- ---- the first of a kind

-- the refusal is of the kind and precedes all others of it, or there is none
abbrev pub FirstOf : (Refusal → Type 0) → Option Refusal → Type 0
FirstOf C None = (s : Refusal) → C s → ⊥
FirstOf C (Some r) = C r × ((s : Refusal) → C s → Precedes r s)

on_from : (r s t : Refusal) → Precedes r s → Precedes s t → Precedes r t
on_from r s t (inl a) (inl b) = inl (omega arith)
on_from r s t (inl a) (inr b) = inl (omega (arith, b.0))
on_from r s t (inr a) (inl b) = inl (omega (arith, a.0))
on_from r s t (inr a) (inr b) = inr (omega (arith, a.0, b.0), omega (arith, a.1, b.1))

other_way : (r s : Refusal) → (Precedes r s → ⊥) → Precedes s r
other_way r s never =
    at (cases_lt (address_of r) (address_of s)) (cases_lt (address_of s) (address_of r))
    (cases_lt (rule_of s) (rule_of r)) where
      at : (address_of r < address_of s) ⊎ (address_of s ≤ address_of r)
          → (address_of s < address_of r)
          ⊎ (address_of r ≤ address_of s) → (rule_of s < rule_of r) ⊎ (rule_of r ≤ rule_of s)
          → Precedes s r
      at (inl lt) x y = absurd (never (inl lt))
      at (inr ge) (inl lt) y = inl lt
      at (inr ge) (inr le) (inl lt) = inr (omega arith, omega arith)
      at (inr ge) (inr le) (inr more) = absurd (never (inr (omega arith, more)))

pub earlier_first : (C D : Refusal → Type 0) (x y : Option Refusal) → FirstOf C x → FirstOf D y
    → FirstOf (λ s. C s ⊎ D s) (earlier x y)
earlier_first C D None None f g = λ s h. none s h where
  none : (s : Refusal) → C s ⊎ D s → ⊥
  none s (inl h) = f s h
  none s (inr h) = g s h
earlier_first C D None (Some b) f g = (inr g.0, λ s h. first s h) where
  first : (s : Refusal) → C s ⊎ D s → Precedes b s
  first s (inl h) = absurd (f s h)
  first s (inr h) = g.1 s h
earlier_first C D (Some a) None f g = (inl f.0, λ s h. first s h) where
  first : (s : Refusal) → C s ⊎ D s → Precedes a s
  first s (inl h) = f.1 s h
  first s (inr h) = absurd (g s h)
earlier_first C D (Some a) (Some b) f g = at (precedes a b) (precedes_decide a b) where
  at : (t : Bool) → Decides t (Precedes a b) → FirstOf (λ s. C s ⊎ D s) (cond t (Some a) (Some b))
  at true h = (inl f.0, λ s k. first s k) where
    first : (s : Refusal) → C s ⊎ D s → Precedes a s
    first s (inl k) = f.1 s k
    first s (inr k) = on_from a b s h (g.1 s k)
  at false h = (inr g.0, λ s k. first s k) where
    first : (s : Refusal) → C s ⊎ D s → Precedes b s
    first s (inl k) = on_from b a s (other_way a b h) (f.1 s k)
    first s (inr k) = g.1 s k

-- the first breach of all
pub is_first : (p : View) (chunks : List Chunk) (r : Refusal) → FirstOf (λ s. ByOp p chunks s
    ⊎ (ByName p s ⊎ ByEmptyChunk chunks s)) (Some r) → IsFirst p chunks r
is_first p chunks r f =
    record { breach = breach_of p chunks r f.0; first = λ s h. f.1 s (kind_of p chunks s h) }

-- where there is no earlier one of two, there is none
pub neither : (x y : Option Refusal) → earlier x y ≡ None → (x ≡ None) × (y ≡ None)
neither None y e = (refl, e)
neither (Some a) None e = absurd cc
neither (Some a) (Some b) e = at (precedes a b) e where
  at : (t : Bool) → cond t (Some a) (Some b) ≡ None → (Some a ≡ None) × (Some b ≡ None)
  at true k = absurd cc
  at false k = absurd cc
