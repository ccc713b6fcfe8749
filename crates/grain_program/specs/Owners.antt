-- The table of instruction starts, and the tests of the rules of single instructions by it; the
-- tests of empty chunks and of functions' names.
use Rattle.std.specs.Prelude.{ℕ, ◌≡◌, ◌<◌, ◌+◌, ◌⊎◌, ◌==◌, ◌&&◌, nat_lt, Bool, true, List, [], ◌∷◌, length, slice_get, slice_index_or, Option, Some, None, if◌then◌else◌}
use Rattle.grain_program.specs.declared.code.instruction_set.Op.{Op}
use Rattle.grain_program.specs.declared.code.parts.Chunk.{Chunk}
use Rattle.grain_program.specs.declared.code.functions.Function.{Function}
use Rattle.grain_program.specs.declared.verifier.owners.Owner.{Owner}
use Rattle.grain_program.specs.declared.verifier.refusals.Refusal.{Refusal}
use Rattle.grain_program.specs.declared.verifier.refusals.Refusal.TheVariants as refusal
use Rattle.grain_program.specs.declared.code.effects.Flow.{Flow}
use Rattle.grain_program.specs.declared.code.effects.Flow.TheVariants as flow
use Rattle.grain_program.specs.declared.code.fields.Field.{Field}
use Rattle.grain_program.specs.declared.code.fields.Field.TheVariants as field
use Rattle.grain_program.specs.declared.code.switches.Switch.{Switch}
use Rattle.grain_program.specs.View.{View}
use Rattle.grain_program.specs.Fields.{every}
use Rattle.grain_program.specs.InstructionSet.{fields_of}
use Rattle.grain_program.specs.Decoding.{op_at}
use Rattle.grain_program.specs.Effects.{flow_of}
use Rattle.grain_program.specs.Indices.{in_pools, is_named}
use Rattle.grain_program.specs.Capabilities.{permits}
use Rattle.grain_program.specs.Starts.{Start}
use Rattle.grain_program.specs.Switches.{case_targets, range_targets, targets_if}

-- what stands where no instruction begins
abbrev pub no_owner : Owner
no_owner = record { end = 0 }

-- what stands where an instruction of the chunk begins
abbrev pub owner_of : Chunk → Owner
owner_of c = record { end = c.end }

abbrev pub owner_at : List Owner → ℕ → Owner
owner_at owners a = slice_index_or owners a no_owner

-- an instruction of a chunk begins at the address, and the chunk owns it
abbrev pub IsOwned : List ℕ → List Chunk → List Owner → ℕ → Type 0
IsOwned code chunks owners a =
    (i : ℕ) × ((c : Chunk) × (slice_get chunks i ≡ Some c) × Start code c a
    × (owner_at owners a ≡ owner_of c))

-- each start of the chunks before the number is owned by its chunk, and no other address has an
-- owner
pub record Owned (code : List ℕ) (chunks : List Chunk) (upto : ℕ) (owners : List Owner) : Type 0
  where
    pub long : length owners ≡ length code
    pub owned : (i : ℕ) (c : Chunk) (a : ℕ) → i < upto → slice_get chunks i ≡ Some c
        → Start code c a
        → owner_at owners a ≡ owner_of c
    pub only : (a : ℕ) → (owner_at owners a ≡ no_owner) ⊎ IsOwned code chunks owners a

-- the starts of the chunk have got this owner, and every other address has kept its own
abbrev pub IsMarked : List ℕ → Chunk → List Owner → List Owner → Type 0
IsMarked code c before now =
    (a : ℕ)
    → (Start code c a × (owner_at now a ≡ owner_of c))
    ⊎ ((Start code c a → ⊥) × (owner_at now a ≡ owner_at before a))

-- the chunk of this end owns an instruction at each of the addresses
abbrev pub owns_all : List Owner → ℕ → List ℕ → Bool
owns_all owners end [] = true
owns_all owners end (a ∷ rest) = ((owner_at owners a).end == end) && owns_all owners end rest

-- the end of the one chunk that owns an instruction at each target of the switch, or 0 if there is no
-- such chunk
abbrev pub home_of : List Owner → Switch → ℕ
home_of owners s =
    if owns_all owners (owner_at owners s.default).end (case_targets s.cases)
    && owns_all owners (owner_at owners s.default).end (range_targets s.ranges)
    then (owner_at owners s.default).end else 0

-- an operand that is an address names an instruction that the chunk of this end owns, and so does each
-- target of an operand that is a switch
abbrev pub lands : View → List Owner → ℕ → Field → Bool
lands p owners end (field.Constant n) = true
lands p owners end (field.Name n) = true
lands p owners end (field.Assignment n) = true
lands p owners end (field.Chain n) = true
lands p owners end (field.Switch n) = owns_all owners end (targets_if (slice_get p.switches n))
lands p owners end (field.Token n) = true
lands p owners end (field.Slot n) = true
lands p owners end (field.Target n) = (owner_at owners n).end == end
lands p owners end (field.Count n) = true
lands p owners end (field.Number n) = true

-- what goes on to the next address stays before the end
abbrev pub stays_in : ℕ → ℕ → Flow → Bool
stays_in end next flow.Next = nat_lt next end
stays_in end next (flow.Jump t) = true
stays_in end next (flow.Branch t) = nat_lt next end
stays_in end next (flow.Switch k) = true
stays_in end next flow.End = true

-- the first rule that the instruction read at the address breaks, in a chunk of this end
abbrev pub rule_in : View → List Owner → ℕ → ℕ → Option (Op × ℕ) → Option Refusal
rule_in p owners end a None = Some (refusal.Undecodable a)
rule_in p owners end a (Some r) =
    if nat_lt end (a + r.1) then Some (refusal.Undecodable a)
    else if in_pools p r.0 then
    (if every (lands p owners end) (fields_of r.0) then
    (if stays_in end (a + r.1) (flow_of r.0) then
    (if permits p.caps r.0 then None else Some (refusal.Capability a))
    else Some (refusal.FallsOff a))
    else Some (refusal.JumpTarget a))
    else Some (refusal.PoolIndex a)

-- the first rule that an instruction at the address breaks
abbrev pub rule_at : View → List Owner → ℕ → Option Refusal
rule_at p owners a =
    if (owner_at owners a).end == 0 then None
    else rule_in p owners (owner_at owners a).end a (op_at p.code a)

-- what the search finds at the lowest number below n where it finds something
abbrev pub IsFirstFound : (ℕ → Option Refusal) → ℕ → Option Refusal → Type 0
IsFirstFound f n None = (a : ℕ) → a < n → f a ≡ None
IsFirstFound f n (Some r) =
    (a : ℕ) × ((a < n) × (f a ≡ Some r) × ((b : ℕ) → b < a → f b ≡ None))

-- the refusal of the first empty chunk
abbrev pub first_empty : List Chunk → Option Refusal
first_empty [] = None
first_empty (c ∷ cs) = if c.entry == c.end then Some (refusal.FallsOff c.entry) else first_empty cs

-- the refusal of the first function that has a name that is no entry of the pool
abbrev pub first_misnamed : View → List Function → Option Refusal
first_misnamed p [] = None
first_misnamed p (f ∷ fs) =
    if is_named p f then first_misnamed p fs else Some (refusal.PoolIndex f.chunk.entry)
