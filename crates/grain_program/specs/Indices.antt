-- The indices of an instruction, of the pool records that it uses and of a function name entries of
-- their pools.
use Rattle.std.specs.Prelude.{ℕ, ◌≡◌, ◌<◌, ◌&&◌, nat_lt, Bool, true, false, List, [], ◌∷◌, length, slice_get, Option, Some, None, IfSome}
use Rattle.std.specs.List.{AllByRecursion}
use Rattle.grain_program.specs.declared.code.parts.AssignOp.{AssignOp}
use Rattle.grain_program.specs.declared.code.chains.Root.{Root}
use Rattle.grain_program.specs.declared.code.chains.Root.TheVariants as root
use Rattle.grain_program.specs.declared.code.chains.Step.{Step}
use Rattle.grain_program.specs.declared.code.chains.Step.TheVariants as step
use Rattle.grain_program.specs.declared.code.chains.Tail.{Tail}
use Rattle.grain_program.specs.declared.code.chains.Tail.TheVariants as tail
use Rattle.grain_program.specs.declared.code.chains.Chain.{Chain}
use Rattle.grain_program.specs.declared.code.functions.Function.{Function}
use Rattle.grain_program.specs.declared.code.instruction_set.Op.{Op}
use Rattle.grain_program.specs.declared.code.fields.Field.{Field}
use Rattle.grain_program.specs.declared.code.fields.Field.TheVariants as field
use Rattle.grain_program.specs.Fields.{every}
use Rattle.grain_program.specs.InstructionSet.{fields_of}
use Rattle.grain_program.specs.View.{View, assign_op_of, chain_of}

-- there is an op-assignment at the index, and both its names are entries of their pool
abbrev pub HasAssignOp : View → ℕ → Type 0
HasAssignOp p a =
    (a < length p.assign_ops) × ((assign_op_of p a).op_assign_name < length p.names)
    × ((assign_op_of p a).op_name < length p.names)

-- the name of a chain's root, if it has one, is an entry of its pool
abbrev pub IsRootIndexed : View → Root → Type 0
IsRootIndexed p (root.Local name slot) = name < length p.names
IsRootIndexed p (root.This q) = Unit {0}
IsRootIndexed p root.Temporary = Unit {0}

-- the names of a step are entries of their pool
abbrev pub IsStepIndexed : View → Step → Type 0
IsStepIndexed p (step.Index operand flags q bracket) = Unit {0}
IsStepIndexed p (step.Property name getter setter flags q) =
    (name < length p.names) × (getter < length p.names) × (setter < length p.names)
IsStepIndexed p (step.Method name argc operand flags q) = name < length p.names

-- the op-assignment of a tail, if it has one, is there with its names
abbrev pub IsTailIndexed : View → Tail → Type 0
IsTailIndexed p tail.Read = Unit {0}
IsTailIndexed p (tail.Assign None) = Unit {0}
IsTailIndexed p (tail.Assign (Some a)) = HasAssignOp p a

-- each index of a chain names an entry of its pool
pub record IsIndexed (p : View) (c : Chain) : Type 0 where
  pub root : IsRootIndexed p c.root
  pub steps : AllByRecursion (IsStepIndexed p) c.steps
  pub tail : IsTailIndexed p c.tail

-- there is a chain at the index, and each of its indices names an entry of its pool
abbrev pub HasChain : View → ℕ → Type 0
HasChain p k = (k < length p.chains) × IsIndexed p (chain_of p k)

-- an operand that is an index names an entry of its pool
abbrev pub InPool : View → Field → Type 0
InPool p (field.Constant n) = n < length p.consts
InPool p (field.Name n) = n < length p.names
InPool p (field.Assignment n) = HasAssignOp p n
InPool p (field.Chain n) = HasChain p n
InPool p (field.Switch n) = n < length p.switches
InPool p (field.Token n) = n < length p.tokens
InPool p (field.Slot n) = Unit {0}
InPool p (field.Target n) = Unit {0}
InPool p (field.Count n) = Unit {0}
InPool p (field.Number n) = Unit {0}

-- each index of the instruction names an entry of its pool
abbrev pub InPools : View → Op → Type 0
InPools p o = AllByRecursion (InPool p) (fields_of o)

-- the op-assignment is there, and the indices of both its names are below this number
abbrev pub record_named : ℕ → Option AssignOp → Bool
record_named names None = false
record_named names (Some r) = nat_lt r.op_assign_name names && nat_lt r.op_name names

-- the tests of a chain's indices
abbrev pub root_indexed : ℕ → Root → Bool
root_indexed names (root.Local name slot) = nat_lt name names
root_indexed names (root.This q) = true
root_indexed names root.Temporary = true

abbrev pub step_indexed : ℕ → Step → Bool
step_indexed names (step.Index operand flags q bracket) = true
step_indexed names (step.Property name getter setter flags q) =
    nat_lt name names && (nat_lt getter names && nat_lt setter names)
step_indexed names (step.Method name argc operand flags q) = nat_lt name names

abbrev pub steps_indexed : ℕ → List Step → Bool
steps_indexed names [] = true
steps_indexed names (s ∷ ss) = step_indexed names s && steps_indexed names ss

abbrev pub tail_indexed : View → Tail → Bool
tail_indexed p tail.Read = true
tail_indexed p (tail.Assign None) = true
tail_indexed p (tail.Assign (Some a)) = record_named (length p.names) (slice_get p.assign_ops a)

-- there is a chain, and its indices pass the tests
abbrev pub chain_indexed : View → Option Chain → Bool
chain_indexed p None = false
chain_indexed p (Some c) =
    root_indexed (length p.names) c.root
    && (steps_indexed (length p.names) c.steps && tail_indexed p c.tail)

-- the test of one operand
abbrev pub in_pool : View → Field → Bool
in_pool p (field.Constant n) = nat_lt n (length p.consts)
in_pool p (field.Name n) = nat_lt n (length p.names)
in_pool p (field.Assignment n) = record_named (length p.names) (slice_get p.assign_ops n)
in_pool p (field.Chain n) = chain_indexed p (slice_get p.chains n)
in_pool p (field.Switch n) = nat_lt n (length p.switches)
in_pool p (field.Token n) = nat_lt n (length p.tokens)
in_pool p (field.Slot n) = true
in_pool p (field.Target n) = true
in_pool p (field.Count n) = true
in_pool p (field.Number n) = true

-- the test of the indices
abbrev pub in_pools : View → Op → Bool
in_pools p o = every (in_pool p) (fields_of o)

-- the function's name, its parameters' names and the name of its type, if it has one, are entries of
-- the pool
pub record IsNamed (p : View) (f : Function) : Type 0 where
  pub name : f.name < length p.names
  pub this_type : IfSome f.this_type (λ n. n < length p.names)
  pub params : (k n : ℕ) → slice_get f.params k ≡ Some n → n < length p.names

-- each number of the list is below the first one
abbrev pub all_below : ℕ → List ℕ → Bool
all_below end [] = true
all_below end (n ∷ ns) = nat_lt n end && all_below end ns

-- the number, if there is one, is below the first one
abbrev pub below_if : ℕ → Option ℕ → Bool
below_if end None = true
below_if end (Some n) = nat_lt n end

-- the test of a function's names
abbrev pub is_named : View → Function → Bool
is_named p f =
    nat_lt f.name (length p.names)
    && (below_if (length p.names) f.this_type && all_below (length p.names) f.params)
