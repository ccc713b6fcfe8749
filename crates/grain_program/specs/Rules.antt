-- The rules of single instructions and of functions' names: what obeys them, what breaks them, and
-- which breach is the first.
use Rattle.std.specs.Prelude.{ℕ, ◌≡◌, ◌<◌, ◌≤◌, ◌+◌, ◌⊎◌, ◌==◌, ◌&&◌, ◌||◌, nat_lt, nat_le, Bool, List, length, slice_get, Option, Some, None, if◌then◌else◌}
use Rattle.std.specs.List.{AllByRecursion}
use Rattle.grain_program.specs.declared.code.instruction_set.Op.{Op}
use Rattle.grain_program.specs.declared.code.parts.Chunk.{Chunk}
use Rattle.grain_program.specs.declared.code.functions.Function.{Function}
use Rattle.grain_program.specs.declared.verifier.refusals.Refusal.{Refusal}
use Rattle.grain_program.specs.declared.verifier.refusals.Refusal.TheVariants as refusal
use Rattle.grain_program.specs.declared.code.effects.Flow.{Flow}
use Rattle.grain_program.specs.declared.code.effects.Flow.TheVariants as flow
use Rattle.grain_program.specs.declared.code.fields.Field.{Field}
use Rattle.grain_program.specs.declared.code.fields.Field.TheVariants as field
use Rattle.grain_program.specs.View.{View}
use Rattle.grain_program.specs.InstructionSet.{fields_of}
use Rattle.grain_program.specs.Decoding.{op_at}
use Rattle.grain_program.specs.Effects.{flow_of}
use Rattle.grain_program.specs.Indices.{InPools, IsNamed}
use Rattle.grain_program.specs.Capabilities.{Permits}
use Rattle.grain_program.specs.Layout.{layout_fault}
use Rattle.grain_program.specs.Starts.{Start}
use Rattle.grain_program.specs.Chains.{IsFirstBadChain}
use Rattle.grain_program.specs.Switches.{targets_if}

-- an operand that is an address names an instruction of the same chunk, and so does each target of
-- an operand that is a switch
abbrev pub Lands : View → Chunk → Field → Type 0
Lands p c (field.Constant n) = Unit {0}
Lands p c (field.Name n) = Unit {0}
Lands p c (field.Assignment n) = Unit {0}
Lands p c (field.Chain n) = Unit {0}
Lands p c (field.Switch n) = AllByRecursion (Start p.code c) (targets_if (slice_get p.switches n))
Lands p c (field.Token n) = Unit {0}
Lands p c (field.Slot n) = Unit {0}
Lands p c (field.Target n) = Start p.code c n
Lands p c (field.Count n) = Unit {0}
Lands p c (field.Number n) = Unit {0}

-- what goes on to the next address does not leave the chunk
abbrev pub StaysIn : Chunk → ℕ → Flow → Type 0
StaysIn c next flow.Next = next < c.end
StaysIn c next (flow.Jump t) = Unit {0}
StaysIn c next (flow.Branch t) = next < c.end
StaysIn c next (flow.Switch k) = Unit {0}
StaysIn c next flow.End = Unit {0}

-- the instruction at the address, which does not pass its chunk's end
pub record Whole (code : List ℕ) (c : Chunk) (a : ℕ) (r : Op × ℕ) : Type 0 where
  pub is : op_at code a ≡ Some r
  pub inside : a + r.1 ≤ c.end

-- the indices of an instruction name entries of their pools
abbrev pub IndexRule : View → Chunk → ℕ → Op × ℕ → Type 0
IndexRule p c a r = InPools p r.0

-- each target of an instruction is an instruction of its chunk
abbrev pub TargetRule : View → Chunk → ℕ → Op × ℕ → Type 0
TargetRule p c a r = AllByRecursion (Lands p c) (fields_of r.0)

-- an instruction does not go on past its chunk
abbrev pub EndRule : View → Chunk → ℕ → Op × ℕ → Type 0
EndRule p c a r = StaysIn c (a + r.1) (flow_of r.0)

-- the capability that an instruction needs is among the program's
abbrev pub CapabilityRule : View → Chunk → ℕ → Op × ℕ → Type 0
CapabilityRule p c a r = Permits p.caps r.0

-- the instruction at the address obeys the rules of single instructions
pub record Obeys (p : View) (c : Chunk) (a : ℕ) : Type 0 where
  pub read : Op × ℕ
  pub whole : Whole p.code c a read
  pub index : IndexRule p c a read
  pub target : TargetRule p c a read
  pub end : EndRule p c a read
  pub capability : CapabilityRule p c a read

-- every chunk has an instruction, every instruction obeys the rules of single instructions, and
-- every function has names
pub record Splits (p : View) (chunks : List Chunk) : Type 0 where
  pub full : (i : ℕ) (c : Chunk) → slice_get chunks i ≡ Some c → c.entry < c.end
  pub obeys : (i : ℕ) (c : Chunk) (a : ℕ) → slice_get chunks i ≡ Some c → Start p.code c a
      → Obeys p c a
  pub named : (i : ℕ) (f : Function) → slice_get p.functions i ≡ Some f → IsNamed p f

-- the layout is without a fault, and the rules are obeyed that look at no heights
pub record IsSplit (p : View) (chunks : List Chunk) : Type 0 where
  pub laid : layout_fault (length p.code) chunks ≡ None
  pub splits : Splits p chunks

-- an instruction of some chunk begins at the address
pub record InstructionStart (code : List ℕ) (chunks : List Chunk) (a : ℕ) : Type 0 where
  pub number : ℕ
  pub chunk : Chunk
  pub is : slice_get chunks number ≡ Some chunk
  pub start : Start code chunk a

-- no whole instruction is at the address, where one should begin
abbrev pub Unread : List ℕ → List Chunk → ℕ → Type 0
Unread code chunks a =
    (s : InstructionStart code chunks a) × ((r : Op × ℕ) → Whole code s.chunk a r → ⊥)

-- the whole instruction at the address does not obey the rule
abbrev pub Disobeys : List ℕ → List Chunk → (Chunk → ℕ → Op × ℕ → Type 0) → ℕ → Type 0
Disobeys code chunks rule a =
    (s : InstructionStart code chunks a)
    × ((r : Op × ℕ) × Whole code s.chunk a r × (rule s.chunk a r → ⊥))

-- an empty chunk lies at the address
abbrev pub IsEmptyChunk : List Chunk → ℕ → Type 0
IsEmptyChunk chunks a =
    (i : ℕ) × ((c : Chunk) × (slice_get chunks i ≡ Some c) × (c.entry ≡ a) × (c.end ≡ a))

-- a function that is entered at the address has a name that is no entry of the pool
abbrev pub IsMisnamed : View → ℕ → Type 0
IsMisnamed p a =
    (i : ℕ)
    × ((f : Function)
    × (slice_get p.functions i ≡ Some f) × (f.chunk.entry ≡ a) × (IsNamed p f → ⊥))

-- the rule is broken at the address
abbrev pub Breach : View → List Chunk → Refusal → Type 0
Breach p chunks (refusal.Undecodable a) = Unread p.code chunks a
Breach p chunks (refusal.PoolIndex a) = Disobeys p.code chunks (IndexRule p) a ⊎ IsMisnamed p a
Breach p chunks (refusal.JumpTarget a) = Disobeys p.code chunks (TargetRule p) a
Breach p chunks (refusal.FallsOff a) = Disobeys p.code chunks (EndRule p) a ⊎ IsEmptyChunk chunks a
Breach p chunks (refusal.Capability a) = Disobeys p.code chunks (CapabilityRule p) a
-- these are no rules of single instructions
Breach p chunks (refusal.HeightDisagrees a) = ⊥
Breach p chunks (refusal.TooDeep a) = ⊥
Breach p chunks (refusal.Underflow a) = ⊥
Breach p chunks (refusal.HandlerDisagrees a) = ⊥
Breach p chunks (refusal.UnderTry a) = ⊥
Breach p chunks (refusal.BadChain i) = ⊥
Breach p chunks refusal.Memory = ⊥

-- the address of a refusal, or the index of its chain
abbrev pub address_of : Refusal → ℕ
address_of (refusal.Undecodable a) = a
address_of (refusal.PoolIndex a) = a
address_of (refusal.JumpTarget a) = a
address_of (refusal.FallsOff a) = a
address_of (refusal.HeightDisagrees a) = a
address_of (refusal.TooDeep a) = a
address_of (refusal.Underflow a) = a
address_of (refusal.HandlerDisagrees a) = a
address_of (refusal.UnderTry a) = a
address_of (refusal.BadChain i) = i
address_of (refusal.Capability a) = a
address_of refusal.Memory = 0

-- the place of a refusal's rule in the order in which the rules are tested at one address
abbrev pub rule_of : Refusal → ℕ
rule_of (refusal.Undecodable a) = 1
rule_of (refusal.PoolIndex a) = 2
rule_of (refusal.JumpTarget a) = 3
rule_of (refusal.FallsOff a) = 4
rule_of (refusal.HeightDisagrees a) = 5
rule_of (refusal.TooDeep a) = 6
rule_of (refusal.Underflow a) = 7
rule_of (refusal.HandlerDisagrees a) = 8
rule_of (refusal.UnderTry a) = 9
rule_of (refusal.BadChain i) = 10
rule_of (refusal.Capability a) = 12
rule_of refusal.Memory = 13

-- at a lower address, or at the same one by a lower rule or the same
abbrev pub Precedes : Refusal → Refusal → Type 0
Precedes r s =
    (address_of r < address_of s) ⊎ ((address_of r ≡ address_of s) × (rule_of r ≤ rule_of s))

-- the test of which of two comes first
abbrev pub precedes : Refusal → Refusal → Bool
precedes r s =
    nat_lt (address_of r) (address_of s)
    || ((address_of r == address_of s) && nat_le (rule_of r) (rule_of s))

-- the one of two that comes first, if any
abbrev pub earlier : Option Refusal → Option Refusal → Option Refusal
earlier None other = other
earlier (Some r) None = Some r
earlier (Some r) (Some s) = if precedes r s then Some r else Some s

-- the breach of a rule of single instructions, chunks or functions' names that precedes every other
pub record IsFirst (p : View) (chunks : List Chunk) (r : Refusal) : Type 0 where
  pub breach : Breach p chunks r
  pub first : (s : Refusal) → Breach p chunks s → Precedes r s

-- what is refused before chains are looked at: the layout, and else the first breach
abbrev pub RefusedBeforeChains : View → List Chunk → Refusal → Type 0
RefusedBeforeChains p chunks r =
    ((a : ℕ) × (layout_fault (length p.code) chunks ≡ Some a) × (r ≡ refusal.Undecodable a))
    ⊎ ((layout_fault (length p.code) chunks ≡ None) × IsFirst p chunks r)

-- what is refused for the first chain that breaks a rule of chains
abbrev pub RefusedForChain : View → Refusal → Type 0
RefusedForChain p r = (i : ℕ) × IsFirstBadChain p i × (r ≡ refusal.BadChain i)
