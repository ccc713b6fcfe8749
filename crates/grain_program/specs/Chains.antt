-- Chains: the slots by which a trace names their steps, the operands that they take, and the rules
-- that they obey.
use Rattle.std.specs.Prelude.{ℕ, ◌≡◌, ◌<◌, ◌≤◌, ◌+◌, ◌-◌, ◌^◌, ◌&&◌, nat_lt, nat_le, not, Bool, true, false, List, [], ◌∷◌, length, take, slice_get, Option, Some, None, if◌then◌else◌}
use Rattle.std.specs.List.{AllByRecursion}
use Rattle.grain_program.specs.declared.code.chains.Root.{Root}
use Rattle.grain_program.specs.declared.code.chains.Root.TheVariants as root
use Rattle.grain_program.specs.declared.code.chains.Step.{Step}
use Rattle.grain_program.specs.declared.code.chains.Step.TheVariants as step
use Rattle.grain_program.specs.declared.code.chains.Tail.{Tail}
use Rattle.grain_program.specs.declared.code.chains.Tail.TheVariants as tail
use Rattle.grain_program.specs.declared.code.chains.Chain.{Chain}
use Rattle.grain_program.specs.declared.verifier.refusals.Refusal.{Refusal}
use Rattle.grain_program.specs.declared.verifier.refusals.Refusal.TheVariants as refusal
use Rattle.grain_program.specs.View.{View}

-- ---- slots

-- how many slots a root has
abbrev pub root_slots : Root → ℕ
root_slots (root.Local name slot) = 0
root_slots (root.This q) = 1
root_slots root.Temporary = 0

-- how many slots a step has: one for each of its positions
abbrev pub step_slots : Step → ℕ
step_slots (step.Index operand flags q bracket) = 2
step_slots (step.Property name getter setter flags q) = 1
step_slots (step.Method name argc operand flags q) = 1

-- how many slots these steps have together
abbrev pub steps_slots : List Step → ℕ
steps_slots [] = 0
steps_slots (s ∷ ss) = step_slots s + steps_slots ss

abbrev pub chain_slots : Chain → ℕ
chain_slots c = root_slots c.root + steps_slots c.steps

-- how many slots these chains have together
abbrev pub all_slots : List Chain → ℕ
all_slots [] = 0
all_slots (c ∷ cs) = chain_slots c + all_slots cs

-- The first slot of a step of a chain, where the slots of its steps begin after the root's.
abbrev pub slot_within : ℕ → Option Chain → ℕ
slot_within number None = 0
slot_within number (Some c) = root_slots c.root + steps_slots (take number c.steps)

-- the first slot of the step of this number, of the chain of this index: the slots of a chain begin
-- after those of all chains before it
abbrev pub slot_of : View → ℕ → ℕ → ℕ
slot_of p index number =
    all_slots (take index p.chains) + slot_within number (slice_get p.chains index)

-- the first slots of chains, before which there are this many
abbrev pub first_slots : ℕ → List Chain → List ℕ
first_slots before [] = []
first_slots before (c ∷ cs) = before ∷ first_slots (before + chain_slots c) cs

-- ---- operands

-- the chain assigns a value
abbrev pub assigns : Tail → Bool
assigns tail.Read = false
assigns (tail.Assign op) = true

-- the chain begins at a value that nothing holds
abbrev pub is_temporary : Root → Bool
is_temporary (root.Local name slot) = false
is_temporary (root.This q) = false
is_temporary root.Temporary = true

-- how many operands a chain takes: those of its steps, the value that it assigns, if it assigns one,
-- and the value at which it begins, if nothing holds that
abbrev pub chain_takes : Chain → ℕ
chain_takes c =
    c.operands + (if assigns c.tail then 1 else 0) + (if is_temporary c.root then 1 else 0)

-- ---- rules

-- how many slots all chains may have together
abbrev pub most_slots : ℕ
most_slots = 2 ^ 32 - 1

-- the step runs a method
abbrev pub is_method_step : Step → Bool
is_method_step (step.Index operand flags q bracket) = false
is_method_step (step.Property name getter setter flags q) = false
is_method_step (step.Method name argc operand flags q) = true

-- the last of these steps runs a method
abbrev pub ends_in_method : List Step → Bool
ends_in_method [] = false
ends_in_method (s ∷ []) = is_method_step s
ends_in_method (s ∷ t ∷ ss) = ends_in_method (t ∷ ss)

-- the operands of a step are among this number: the one of an index, and as many from an operand on
-- as a method takes as arguments
abbrev pub HasOperands : ℕ → Step → Type 0
HasOperands operands (step.Index operand flags q bracket) = operand < operands
HasOperands operands (step.Property name getter setter flags q) = Unit {0}
HasOperands operands (step.Method name argc operand flags q) = operand + argc ≤ operands

-- What a chain obeys, before which the chains of its pool have this many slots: it has a step, it
-- assigns neither to a temporary value nor to what a method gives, its steps use its own operands, and
-- there are slots for all.
pub record IsGoodChain (before : ℕ) (c : Chain) : Type 0 where
  pub steps : 0 < length c.steps
  pub target : assigns c.tail && is_temporary c.root ≡ false
  pub ending : assigns c.tail && ends_in_method c.steps ≡ false
  pub operands : AllByRecursion (HasOperands c.operands) c.steps
  pub slots : before + chain_slots c ≤ most_slots

-- each chain of the pool obeys the rules of chains
abbrev pub AreGoodChains : View → Type 0
AreGoodChains p =
    (i : ℕ) (c : Chain) → slice_get p.chains i ≡ Some c
    → IsGoodChain (all_slots (take i p.chains)) c

-- the chain of this index is the first that breaks a rule of chains
pub record IsFirstBadChain (p : View) (index : ℕ) : Type 0 where
  pub chain : Chain
  pub is : slice_get p.chains index ≡ Some chain
  pub bad : IsGoodChain (all_slots (take index p.chains)) chain → ⊥
  pub first : (i : ℕ) (c : Chain) → i < index → slice_get p.chains i ≡ Some c
      → IsGoodChain (all_slots (take i p.chains)) c

-- ---- the tests of the rules

abbrev pub has_operands : ℕ → Step → Bool
has_operands operands (step.Index operand flags q bracket) = nat_lt operand operands
has_operands operands (step.Property name getter setter flags q) = true
has_operands operands (step.Method name argc operand flags q) = nat_le (operand + argc) operands

abbrev pub all_have_operands : ℕ → List Step → Bool
all_have_operands operands [] = true
all_have_operands operands (s ∷ ss) = has_operands operands s && all_have_operands operands ss

abbrev pub is_good_chain : ℕ → Chain → Bool
is_good_chain before c =
    nat_lt 0 (length c.steps)
    && (not (assigns c.tail && is_temporary c.root)
    && (not (assigns c.tail && ends_in_method c.steps)
    && (all_have_operands c.operands c.steps
    && nat_le (before + chain_slots c) most_slots)))

-- the refusal of the first chain that breaks a rule of chains, of those from this index on, before
-- which there are this many slots
abbrev pub first_bad_chain : ℕ → ℕ → List Chain → Option Refusal
first_bad_chain index before [] = None
first_bad_chain index before (c ∷ cs) =
    if is_good_chain before c then first_bad_chain (index + 1) (before + chain_slots c) cs
    else Some (refusal.BadChain index)
