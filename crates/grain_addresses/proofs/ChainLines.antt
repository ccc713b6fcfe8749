-- What the line of a chain says, and that of a step, gives what its words give.
use Rattle.std.proofs.Common.{◌≡◌, ℕ, ◌-◌, ◌^◌, Bool, true, false, cond, codes, bytes_eq, List, [], Option, Some, None, Result, Ok, Err, refl, sym, subst}
use Rattle.std.proofs.lemmas.Slice.Eq.{bytes_eq-Decides}
use Rattle.grain_program.specs.Chains.{root_slots}
use Rattle.grain_program.specs.declared.code.chains.Chain.{Chain}
use Rattle.grain_program.specs.declared.code.chains.Root.{Root}
use Rattle.grain_program.specs.declared.code.chains.Root.TheVariants as root
use Rattle.grain_program.specs.declared.code.chains.Step.TheVariants as steps
use Rattle.grain_program.specs.declared.code.chains.Tail.{Tail}
use Rattle.grain_words.specs.Words.{next_word, after_word}
use Rattle.grain_literals.specs.Steps.{and_then, present}
use Rattle.grain_literals.specs.Operands.{number_operand, index}
use Rattle.grain_literals.specs.declared.reasons.Reason.{Reason}
use Rattle.grain_literals.specs.declared.reasons.Reason.TheVariants.{BadOperand, NotBuilt}
use Rattle.grain_listing.specs.ChainWords.{local_root, this_root, root_named, root_operand, tail_of, chain_of, step_of, step_named, index_step, index_ended, property_step, property_ended, method_step, method_ended, flags_of, first_position, last_position}
use Rattle.grain_listing.specs.Statements.{chain_line, step_line}
use Rattle.grain_addresses.specs.Kinds.{slots_begun, step_kind, root_slots_begun, chain_kind}
use Rattle.grain_addresses.specs.declared.kinds.LineKind.TheVariants as kinds
use Rattle.grain_addresses.proofs.Said.{Gives, further, Leaves, number_leaves}

-- a step has a slot for each of its positions
index_gives : (cs : List ℕ) →
    Gives (kinds.Step 2) (and_then (index_step cs) (λ s. Ok (step_line s)))
index_gives cs =
    further (kinds.Step 2) (index cs) (λ a. index_ended a.0 (flags_of a.1)) (λ s. step_line s)
    (λ a. let f = flags_of a.1 in
    further (kinds.Step 2) (first_position f.1)
    (λ p. and_then (last_position p.1) (λ q. Ok (steps.Index a.0 f.0 p.0 q))) (λ s. step_line s)
    (λ p. further (kinds.Step 2) (last_position p.1) (λ q. Ok (steps.Index a.0 f.0 p.0 q))
    (λ s. step_line s) (λ q. refl)))

property_gives : (cs : List ℕ) →
    Gives (kinds.Step 1) (and_then (property_step cs) (λ s. Ok (step_line s)))
property_gives cs =
    further (kinds.Step 1) (index cs)
    (λ a. and_then (index a.1) (λ b. and_then (index b.1)
    (λ c. property_ended a.0 b.0 c.0 (flags_of c.1)))) (λ s. step_line s)
    (λ a. further (kinds.Step 1) (index a.1)
    (λ b. and_then (index b.1) (λ c. property_ended a.0 b.0 c.0 (flags_of c.1))) (λ s. step_line s)
    (λ b. further (kinds.Step 1) (index b.1) (λ c. property_ended a.0 b.0 c.0 (flags_of c.1))
    (λ s. step_line s)
    (λ c. let f = flags_of c.1 in
    further (kinds.Step 1) (last_position f.1)
    (λ p. Ok (steps.Property a.0 b.0 c.0 f.0 p)) (λ s. step_line s) (λ p. refl))))

method_gives : (cs : List ℕ) →
    Gives (kinds.Step 1) (and_then (method_step cs) (λ s. Ok (step_line s)))
method_gives cs =
    further (kinds.Step 1) (index cs)
    (λ a. and_then (number_operand 255 a.1) (λ b. and_then (index b.1)
    (λ c. method_ended a.0 b.0 c.0 (flags_of c.1)))) (λ s. step_line s)
    (λ a. further (kinds.Step 1) (number_operand 255 a.1)
    (λ b. and_then (index b.1) (λ c. method_ended a.0 b.0 c.0 (flags_of c.1))) (λ s. step_line s)
    (λ b. further (kinds.Step 1) (index b.1) (λ c. method_ended a.0 b.0 c.0 (flags_of c.1))
    (λ s. step_line s)
    (λ c. let f = flags_of c.1 in
    further (kinds.Step 1) (last_position f.1)
    (λ p. Ok (steps.Method a.0 b.0 c.0 f.0 p)) (λ s. step_line s) (λ p. refl))))

step_begun : (a : List ℕ × List ℕ) → Gives (kinds.Step (slots_begun (Some a)))
    (and_then (step_named a.0 a.1) (λ s. Ok (step_line s)))
unfolding step_named
step_begun a = at (bytes_eq a.0 (codes "index")) (bytes_eq a.0 (codes "property"))
    (bytes_eq a.0 (codes "method")) where
      at : (i p m : Bool) → Gives (kinds.Step (cond i 2 1))
          (and_then (cond i (index_step a.1) (cond p (property_step a.1)
          (cond m (method_step a.1) (Err BadOperand)))) (λ s. Ok (step_line s)))
      at true p m = index_gives a.1
      at false true m = property_gives a.1
      at false false true = method_gives a.1
      at false false false = tt

pub step_gives : (cs : List ℕ) → Gives (step_kind cs) (and_then (step_of cs) (λ s. Ok (step_line s)))
step_gives cs = at (next_word cs) where
  at : (o : Option (List ℕ × List ℕ)) → Gives (kinds.Step (slots_begun o))
      (and_then (and_then (present BadOperand o) (λ a. step_named a.0 a.1))
      (λ s. Ok (step_line s)))
  at None = tt
  at (Some a) = step_begun a

-- a root with this many slots is read, if one is
abbrev HasSlots : ℕ → Result (Root × List ℕ) Reason → Type 0
HasSlots k (Ok r) = root_slots r.0 ≡ k
HasSlots k (Err e) = Unit {0}

slots_after : {A : Type 0} (k : ℕ) (r : Result A Reason) (go : A → Result (Root × List ℕ) Reason) →
    ((x : A) → HasSlots k (go x)) → HasSlots k (and_then r go)
slots_after k (Ok x) go h = h x
slots_after k (Err e) go h = tt

local_slots : (cs : List ℕ) → HasSlots 0 (local_root cs)
local_slots cs =
    slots_after 0 (index cs)
    (λ a. and_then (number_operand 65535 a.1) (λ b. Ok (root.Local a.0 b.0, b.1)))
    (λ a. slots_after 0 (number_operand 65535 a.1) (λ b. Ok (root.Local a.0 b.0, b.1)) (λ b. refl))

-- a word is no other one
no_other : (w t u : List ℕ) → bytes_eq t u ≡ false → bytes_eq w t ≡ true → bytes_eq w u ≡ false
no_other w t u differ is =
    let same : w ≡ t = (bytes_eq-Decides w t).0 is in
    subst (λ (x : List ℕ). bytes_eq x u ≡ false) (sym same) differ

-- `this` alone has a slot
root_begun : (a : List ℕ × List ℕ) → HasSlots (root_slots_begun (Some a)) (root_named a.0 a.1)
unfolding root_named
root_begun a = at (bytes_eq a.0 (codes "local")) (bytes_eq a.0 (codes "temporary"))
    (bytes_eq a.0 (codes "named")) (bytes_eq a.0 (codes "this"))
    (no_other a.0 (codes "local") (codes "this") refl)
    (no_other a.0 (codes "temporary") (codes "this") refl) where
      at : (l t n h : Bool) → (l ≡ true → h ≡ false) → (t ≡ true → h ≡ false) →
          HasSlots (cond h 1 0) (cond l (local_root a.1) (cond t (Ok (root.Temporary, a.1))
          (cond n (Err NotBuilt) (cond h (Ok (this_root a.1)) (Err BadOperand)))))
      at true t n h first then_no = subst (λ (b : Bool). HasSlots (cond b 1 0) (local_root a.1))
          (sym (first refl)) (local_slots a.1)
      at false true n h first then_no =
          subst (λ (b : Bool). HasSlots (cond b 1 0) (Ok (root.Temporary, a.1)))
          (sym (then_no refl)) refl
      at false false true h first then_no = tt
      at false false false true first then_no = refl
      at false false false false first then_no = tt

root_read : (o : Option (List ℕ × List ℕ)) →
    HasSlots (root_slots_begun o) (and_then (present BadOperand o) (λ a. root_named a.0 a.1))
root_read None = tt
root_read (Some a) = root_begun a

-- a chain that has no step yet
abbrev pub chain_with : ℕ → Root → Tail → Chain
chain_with operands r t = record {
  root = r;
  steps = [];
  tail = t;
  operands = operands;
}

tail_gives : (operands : ℕ) (r : Root × List ℕ) → Gives (kinds.Chain (root_slots r.0))
    (and_then (and_then (tail_of r.1) (λ t. Ok (chain_with operands r.0 t))) (λ c. Ok (chain_line c)))
tail_gives operands r =
    further (kinds.Chain (root_slots r.0)) (tail_of r.1) (λ t. Ok (chain_with operands r.0 t))
    (λ c. chain_line c) (λ t. refl)

-- after the number of a chain's operands
root_gives : (operands : ℕ) (cs : List ℕ) → Gives (chain_kind cs)
    (and_then (and_then (root_operand cs) (λ r. and_then (tail_of r.1)
    (λ t. Ok (chain_with operands r.0 t)))) (λ c. Ok (chain_line c)))
root_gives operands cs = at (root_operand cs) (root_read (next_word cs)) where
  at : (o : Result (Root × List ℕ) Reason) → HasSlots (root_slots_begun (next_word cs)) o →
      Gives (chain_kind cs) (and_then (and_then o (λ r. and_then (tail_of r.1)
      (λ t. Ok (chain_with operands r.0 t)))) (λ c. Ok (chain_line c)))
  at (Ok r) slots = subst (λ (k : ℕ). Gives (kinds.Chain k)
      (and_then (and_then (tail_of r.1) (λ t. Ok (chain_with operands r.0 t)))
      (λ c. Ok (chain_line c)))) slots (tail_gives operands r)
  at (Err e) slots = tt

pub chain_gives : (cs : List ℕ) →
    Gives (chain_kind (after_word cs)) (and_then (chain_of cs) (λ c. Ok (chain_line c)))
chain_gives cs = at (index cs) (number_leaves (2 ^ 32 - 1) cs) where
  at : (o : Result (ℕ × List ℕ) Reason) → Leaves (after_word cs) o →
      Gives (chain_kind (after_word cs)) (and_then (and_then o (λ n. and_then (root_operand n.1)
      (λ r. and_then (tail_of r.1) (λ t. Ok (chain_with n.0 r.0 t))))) (λ c. Ok (chain_line c)))
  at (Ok n) left = subst (λ (rest : List ℕ). Gives (chain_kind rest)
      (and_then (and_then (root_operand n.1) (λ r. and_then (tail_of r.1)
      (λ t. Ok (chain_with n.0 r.0 t)))) (λ c. Ok (chain_line c)))) left (root_gives n.0 n.1)
  at (Err e) left = tt
