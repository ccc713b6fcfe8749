-- Tests that tell whether a fact holds.
use Rattle.std.proofs.Common.{◌≡◌, ℕ, zero, suc, ◌<◌, ◌≤◌, ◌⊎◌, ◌&&◌, ◌||◌, ◌==◌, Bool, true, false, List, [], ◌∷◌, length, get_or, Option, Some, None, refl, sym, subst, inl, inr, arith}
use Rattle.std.specs.Prelude.{nat_lt, nat_le, slice_get, IfSome}
use Rattle.std.proofs.lemmas.Bool.{ltb-true, ltb-false, leb-true, leb-false, eqb-true, eqb-false}
use Rattle.std.specs.List.{AllByRecursion}
use Rattle.std.specs.Int.RustNames.{bit_and}
use Rattle.grain_program.specs.declared.code.instruction_set.Op.{Op}
use Rattle.grain_program.specs.declared.code.fields.Field.{Field}
use Rattle.grain_program.specs.declared.code.fields.Field.TheVariants as field
use Rattle.grain_program.specs.declared.code.parts.AssignOp.{AssignOp}
use Rattle.grain_program.specs.declared.code.chains.Root.{Root}
use Rattle.grain_program.specs.declared.code.chains.Root.TheVariants as root
use Rattle.grain_program.specs.declared.code.chains.Step.{Step}
use Rattle.grain_program.specs.declared.code.chains.Step.TheVariants as step
use Rattle.grain_program.specs.declared.code.chains.Tail.{Tail}
use Rattle.grain_program.specs.declared.code.chains.Tail.TheVariants as tail
use Rattle.grain_program.specs.declared.code.chains.Chain.{Chain}
use Rattle.grain_program.specs.declared.code.parts.Chunk.{Chunk}
use Rattle.grain_program.specs.declared.code.functions.Function.{Function}
use Rattle.grain_program.specs.declared.verifier.refusals.Refusal.{Refusal}
use Rattle.grain_program.specs.declared.code.effects.Flow.{Flow}
use Rattle.grain_program.specs.declared.code.effects.Flow.TheVariants as flow
use Rattle.grain_program.specs.View.{View, no_op, no_chain}
use Rattle.grain_program.specs.Fields.{every}
use Rattle.grain_program.specs.InstructionSet.{fields_of}
use Rattle.grain_program.specs.Indices.{HasAssignOp, IsRootIndexed, IsStepIndexed, IsTailIndexed, IsIndexed, HasChain, InPool, InPools, record_named, root_indexed, step_indexed, steps_indexed, tail_indexed, chain_indexed, in_pool, in_pools, IsNamed, all_below, below_if, is_named}
use Rattle.grain_program.specs.Capabilities.{needs, Permits, permits}
use Rattle.grain_program.specs.Rules.{StaysIn, address_of, rule_of, Precedes, precedes}
use Rattle.grain_program.specs.Owners.{stays_in}

-- the fact holds where the test is true, and not where it is false
abbrev pub Decides : Bool → Type 0 → Type 0
Decides true P = P
Decides false P = P → ⊥

pub decides : (P : Type 0) (b : Bool) → (b ≡ true → P) → (b ≡ false → P → ⊥) → Decides b P
decides P true f g = f refl
decides P false f g = g refl

pub lt_decides : (a b : ℕ) → Decides (nat_lt a b) (a < b)
lt_decides a b = decides (a < b) (nat_lt a b) (λ e. ltb-true a b e) (λ e lt. let le =
    ltb-false a b e in omega arith)

pub both_decide : (P Q : Type 0) (a b : Bool) → Decides a P → Decides b Q → Decides (a && b) (P × Q)
both_decide P Q true true p q = (p, q)
both_decide P Q true false p q = λ h. q h.1
both_decide P Q false b p q = λ h. p h.0

either_decide : (P Q : Type 0) (a b : Bool) → Decides a P → Decides b Q → Decides (a || b) (P ⊎ Q)
either_decide P Q true b p q = inl p
either_decide P Q false true p q = inr q
either_decide P Q false false p q = λ h. elim h [ inl x ↦ p x | inr y ↦ q y ]

pub le_decides : (a b : ℕ) → Decides (nat_le a b) (a ≤ b)
le_decides a b = decides (a ≤ b) (nat_le a b) (λ e. leb-true a b e) (λ e le. let lt =
    leb-false a b e in omega arith)

pub eq_decides : (a b : ℕ) → Decides (a == b) (a ≡ b)
eq_decides a b = decides (a ≡ b) (a == b) (λ e. eqb-true a b e) (λ e same. eqb-false a b e same)

-- the test of which of two comes first decides it
pub precedes_decide : (r s : Refusal) → Decides (precedes r s) (Precedes r s)
precedes_decide r s =
    either_decide (address_of r < address_of s) ((address_of r ≡ address_of s)
    × (rule_of r ≤ rule_of s)) (nat_lt (address_of r) (address_of s))
    ((address_of r == address_of s) && nat_le (rule_of r) (rule_of s))
    (lt_decides (address_of r) (address_of s))
    (both_decide (address_of r ≡ address_of s) (rule_of r ≤ rule_of s) (address_of r == address_of
    s) (nat_le (rule_of r) (rule_of s)) (eq_decides (address_of r) (address_of s))
    (le_decides (rule_of r) (rule_of s)))

-- the test of an instruction's capability decides whether it is there
pub permits_decide : (caps : ℕ) (o : Op) → Decides (permits caps o) (Permits caps o)
permits_decide caps o = eq_decides (bit_and caps (needs o)) (needs o)

-- what a list has at an index, by this default
record Entry {A : Type 0} (default : A) (xs : List A) (i : ℕ) (r : A) : Type 0 where
  inside : i < length xs
  is : get_or xs i default ≡ r

entry_of : {A : Type 0} (default : A) (xs : List A) (i : ℕ) (r : A) → slice_get xs i ≡ Some r
    → Entry default xs i r
entry_of default [] i r e = absurd cc
entry_of default (x ∷ xs) zero r e = record { inside = omega arith; is = cc }
entry_of default (x ∷ xs) (suc i) r e =
    let n = entry_of default xs i r e in record { inside = omega (arith, n.inside); is = n.is }

-- past the end there is the default
pub past_end : {A : Type 0} (default : A) (xs : List A) (i : ℕ) → slice_get xs i ≡ None
    → get_or xs i default ≡ default
past_end default [] i e = refl
past_end default (x ∷ xs) zero e = absurd cc
past_end default (x ∷ xs) (suc i) e = past_end default xs i e

no_entry : {A : Type 0} (xs : List A) (i : ℕ) → slice_get xs i ≡ None → i < length xs → ⊥
no_entry [] i e lt = omega arith
no_entry (x ∷ xs) zero e lt = cc
no_entry (x ∷ xs) (suc i) e lt = no_entry xs i e (omega arith)

named_decides : (p : View) (a : ℕ)
    → Decides (record_named (length p.names) (slice_get p.assign_ops a)) (HasAssignOp p a)
named_decides p a = at (slice_get p.assign_ops a) refl where
  some : (r : AssignOp) → Entry no_op p.assign_ops a r → (b : Bool)
      → Decides b ((r.op_assign_name < length p.names) × (r.op_name < length p.names))
      → Decides b (HasAssignOp p a)
  some r e true h = (
    e.inside,
    subst (λ (x : AssignOp). x.op_assign_name < length p.names)
        (sym e.is) h.0,
    subst (λ (x : AssignOp). x.op_name < length p.names) (sym e.is) h.1,
  )
  some r e false h = λ n. h (
    subst (λ (x : AssignOp). x.op_assign_name < length p.names) e.is n.1,
    subst (λ (x : AssignOp). x.op_name < length p.names) e.is n.2,
  )

  at : (o : Option AssignOp) → slice_get p.assign_ops a ≡ o
      → Decides (record_named (length p.names) o) (HasAssignOp p a)
  at None e = λ n. no_entry p.assign_ops a e n.0
  at (Some r) e =
      some r (entry_of no_op p.assign_ops a r e) (nat_lt r.op_assign_name (length p.names) && nat_lt
      r.op_name (length p.names))
      (both_decide (r.op_assign_name < length p.names) (r.op_name < length p.names)
      (nat_lt r.op_assign_name (length p.names)) (nat_lt r.op_name (length p.names))
      (lt_decides r.op_assign_name (length p.names)) (lt_decides r.op_name (length p.names)))

-- ---- the indices of a chain

root_decides : (p : View) (r : Root) → Decides (root_indexed (length p.names) r) (IsRootIndexed p r)
root_decides p (root.Local name slot) = lt_decides name (length p.names)
root_decides p (root.This q) = tt
root_decides p root.Temporary = tt

three_decide : (P Q R : Type 0) (b : Bool) → Decides b (P × (Q × R)) → Decides b (P × Q × R)
three_decide P Q R true h = (h.0, h.1.0, h.1.1)
three_decide P Q R false h = λ n. h (n.0, (n.1, n.2))

step_decides : (p : View) (s : Step) → Decides (step_indexed (length p.names) s) (IsStepIndexed p s)
step_decides p (step.Index operand flags q bracket) = tt
step_decides p (step.Property name getter setter flags q) =
    let names : ℕ = length p.names in
    three_decide (name < names) (getter < names) (setter < names)
    (nat_lt name names && (nat_lt getter names && nat_lt setter names))
    (both_decide (name < names) ((getter < names) × (setter < names)) (nat_lt name names)
    (nat_lt getter names && nat_lt setter names) (lt_decides name names)
    (both_decide (getter < names) (setter < names) (nat_lt getter names) (nat_lt setter names)
    (lt_decides getter names) (lt_decides setter names)))
step_decides p (step.Method name argc operand flags q) = lt_decides name (length p.names)

steps_decide : (p : View) (ss : List Step)
    → Decides (steps_indexed (length p.names) ss) (AllByRecursion (IsStepIndexed p) ss)
steps_decide p [] = tt
steps_decide p (s ∷ ss) = both_decide (IsStepIndexed p s) (AllByRecursion (IsStepIndexed p) ss)
    (step_indexed (length p.names) s) (steps_indexed (length p.names) ss) (step_decides p s)
    (steps_decide p ss)

tail_decides : (p : View) (t : Tail) → Decides (tail_indexed p t) (IsTailIndexed p t)
tail_decides p tail.Read = tt
tail_decides p (tail.Assign None) = tt
tail_decides p (tail.Assign (Some a)) = named_decides p a

abbrev Parts : View → Chain → Type 0
Parts p c =
    IsRootIndexed p c.root × (AllByRecursion (IsStepIndexed p) c.steps × IsTailIndexed p c.tail)

-- the test of a chain decides whether it is there with its indices
chain_decides : (p : View) (k : ℕ)
    → Decides (chain_indexed p (slice_get p.chains k)) (HasChain p k)
chain_decides p k = at (slice_get p.chains k) refl where
  some : (c : Chain) → Entry no_chain p.chains k c → (b : Bool) → Decides b (Parts p c)
      → Decides b (HasChain p k)
  some c e true h = (
    e.inside,
    subst (IsIndexed p) (sym e.is) (record { root = h.0; steps = h.1.0; tail = h.1.1 }),
  )
  some c e false h = λ n.
      let i = subst (IsIndexed p) e.is n.1 in
      h (i.root, (i.steps, i.tail))

  at : (o : Option Chain) → slice_get p.chains k ≡ o → Decides (chain_indexed p o) (HasChain p k)
  at None e = λ n. no_entry p.chains k e n.0
  at (Some c) e =
      some c (entry_of no_chain p.chains k c e) (chain_indexed p (Some c))
      (both_decide (IsRootIndexed p c.root) (AllByRecursion (IsStepIndexed p) c.steps
      × IsTailIndexed p c.tail) (root_indexed (length p.names) c.root)
      (steps_indexed (length p.names) c.steps && tail_indexed p c.tail) (root_decides p c.root)
      (both_decide (AllByRecursion (IsStepIndexed p) c.steps) (IsTailIndexed p c.tail)
      (steps_indexed (length p.names) c.steps) (tail_indexed p c.tail) (steps_decide p c.steps)
      (tail_decides p c.tail)))

-- the test of one operand decides whether its index is in its pool
pool_decides : (p : View) (f : Field) → Decides (in_pool p f) (InPool p f)
pool_decides p (field.Constant n) = lt_decides n (length p.consts)
pool_decides p (field.Name n) = lt_decides n (length p.names)
pool_decides p (field.Assignment n) = named_decides p n
pool_decides p (field.Chain n) = chain_decides p n
pool_decides p (field.Switch n) = lt_decides n (length p.switches)
pool_decides p (field.Token n) = lt_decides n (length p.tokens)
pool_decides p (field.Slot n) = tt
pool_decides p (field.Target n) = tt
pool_decides p (field.Count n) = tt
pool_decides p (field.Number n) = tt

-- where a test decides of each operand whether a fact holds, the test of all decides whether it
-- holds of all
pub every_decides : (P : Field → Type 0) (test : Field → Bool) → ((f : Field)
    → Decides (test f) (P f)) → (fs : List Field) → Decides (every test fs) (AllByRecursion P fs)
every_decides P test tell [] = tt
every_decides P test tell (f ∷ fs) = both_decide (P f) (AllByRecursion P fs) (test f)
    (every test fs) (tell f) (every_decides P test tell fs)

-- the test of the indices decides whether they are in their pools
pub pools_decide : (p : View) (o : Op) → Decides (in_pools p o) (InPools p o)
pools_decide p o = every_decides (InPool p) (in_pool p) (pool_decides p) (fields_of o)

-- each number of the list is below the end
abbrev AllBelow : ℕ → List ℕ → Type 0
AllBelow end ns = (k n : ℕ) → slice_get ns k ≡ Some n → n < end

all_decide : (end : ℕ) (ns : List ℕ) → Decides (all_below end ns) (AllBelow end ns)
all_decide end [] = λ k n e. absurd cc
all_decide end (x ∷ ns) =
    more (nat_lt x end && all_below end ns) (both_decide (x < end) (AllBelow end ns) (nat_lt x end)
    (all_below end ns) (lt_decides x end) (all_decide end ns)) where
      one : (x < end) × AllBelow end ns → AllBelow end (x ∷ ns)
      one h zero n e = let same : x ≡ n = cc in omega (arith, h.0)
      one h (suc k) n e = h.1 k n e

      more : (b : Bool) → Decides b ((x < end) × AllBelow end ns)
          → Decides b (AllBelow end (x ∷ ns))
      more true h = one h
      more false h = λ all. h (all 0 x refl, λ k n e. all (suc k) n e)

-- the number, if there is one, is below the end
abbrev BelowIf : ℕ → Option ℕ → Type 0
BelowIf end o = IfSome o (λ n. n < end)

below_if_decides : (end : ℕ) (o : Option ℕ) → Decides (below_if end o) (BelowIf end o)
below_if_decides end None = tt
below_if_decides end (Some n) = lt_decides n end

-- the test of a function's names decides whether they are in the pool
pub named_decide : (p : View) (f : Function) → Decides (is_named p f) (IsNamed p f)
named_decide p f =
    at (is_named p f) (both_decide (f.name < names) (BelowIf names f.this_type × AllBelow names
    f.params) (nat_lt f.name names) (below_if names f.this_type && all_below names f.params)
    (lt_decides f.name names) (both_decide (BelowIf names f.this_type) (AllBelow names f.params)
    (below_if names f.this_type) (all_below names f.params) (below_if_decides names f.this_type)
    (all_decide names f.params))) where
      names : ℕ
      names = length p.names

      at : (b : Bool)
          → Decides b ((f.name < names) × (BelowIf names f.this_type × AllBelow names f.params))
          → Decides b (IsNamed p f)
      at true h = record { name = h.0; this_type = h.1.0; params = h.1.1 }
      at false h = λ n. h (n.name, (n.this_type, n.params))

-- the test of the end decides whether the flow stays in the chunk
pub stays_decide : (c : Chunk) (next : ℕ) (w : Flow)
    → Decides (stays_in c.end next w) (StaysIn c next w)
stays_decide c next flow.Next = lt_decides next c.end
stays_decide c next (flow.Jump t) = tt
stays_decide c next (flow.Branch t) = lt_decides next c.end
stays_decide c next (flow.Switch k) = tt
stays_decide c next flow.End = tt
