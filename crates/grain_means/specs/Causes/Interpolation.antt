-- Which text an interpolation appends to its buffer, and why it raises a fault.
use Rattle.std.specs.Prelude.{◌≡◌, ◌⊎◌, ◌+◌, ℕ, List, [], ◌∷◌, Some, None, true, length, codes}
use Rattle.grain_value.specs.Cells.{flat}
use Rattle.grain_value.specs.Looking.{text_of}
use Rattle.grain_value.specs.Operands.{top}
use Rattle.grain_value.specs.Sizes.{is_over}
use Rattle.grain_value.specs.Writing.{plain, type_name_of}
use Rattle.grain_value.specs.declared.natives.Native.{Native}
use Rattle.grain_value.specs.declared.values.Dynamic.{Dynamic}
use Rattle.grain_fault.specs.Classes.{catchable}
use Rattle.grain_fault.specs.Positions.{at_position_if_none}
use Rattle.grain_fault.specs.Problems.{Problem}
use Rattle.grain_host.specs.Law as reply
use Rattle.grain_program.specs.declared.code.instruction_set.Op.{Op}
use Rattle.grain_program.specs.declared.code.instruction_set.Op.TheVariants as op
use Rattle.grain_means.specs.Worlds.{Came, Failed, Frame, Go, InHost, Setup, World}
use Rattle.grain_means.specs.Comes.{ProgramPoint}
use Rattle.grain_means.specs.Ends.{Ends}
use Rattle.grain_means.specs.Rules.{first_is_read_only, operand_under, position, shown, to_string}
use Rattle.grain_means.specs.Causes.Callbacks.{AsksFirst, asked_by, asked_in}
use Rattle.grain_means.specs.Causes.Questions.{IsCalled, Question, all_args, answered_world, begun, native_asked, reply_to}

-- it appends a segment that is no text, but this as it is read
abbrev pub ShowsSegment : {S : Type 0} → Dynamic → Op → Frame → World S → Type 0
ShowsSegment v op.InterpolateAppend f w =
    (flat w.cells (top f.operands).value ≡ Some v) × (text_of v ≡ None)
ShowsSegment v o f w = ⊥

-- what it asks the host for, where it began in the world w
abbrev pub asks_for_text : {S : Type 0} → Dynamic → Frame → World S → Question S
asks_for_text v f w = record {
  world = begun w;
  name = to_string;
  lent = None;
  args = record (top f.operands) { value = v } ∷ [];
}

-- it asks the host for the text of its segment
abbrev pub AsksToShow : {S : Type 0} → Setup S → Question S → ProgramPoint S → Type 0
AsksToShow m q at = (v : Dynamic) × ShowsSegment v at.instruction at.frame at.world
    × (q ≡ asks_for_text v at.frame at.world)

-- the native that was asked gave this value and left this world, at once or after the calls that it asked
-- for
abbrev pub Gives : {S : Type 0} → Setup S → Question S → Native → ProgramPoint S → Dynamic →
    World S → Type 0
Gives m q n at r u = ((reply_to m q n.key ≡ reply.Done r)
    × (u ≡ answered_world m n.key q.lent q.args q.world))
    ⊎ ((a : AsksFirst m q n at.frame at.world)
    × Ends m (Go (InHost (asked_by m a)) (asked_in m a)) (Came r) u)

-- or it ended so with this fault
abbrev pub EndsBy : {S : Type 0} → Setup S → Question S → Native → ProgramPoint S → Problem →
    World S → Type 0
EndsBy m q n at x u = ((y : Problem) × (reply_to m q n.key ≡ reply.Failed y)
    × (x ≡ at_position_if_none (position m at.frame) y)
    × (u ≡ answered_world m n.key q.lent q.args q.world))
    ⊎ ((a : AsksFirst m q n at.frame at.world)
    × Ends m (Go (InHost (asked_by m a)) (asked_in m a)) (Failed x) u)

-- The native gave a lent cell, or ended with a fault that a script may catch, or it is not called, since it
-- would write what can only be read; and it left this world.
abbrev pub IsPassedOver : {S : Type 0} → Setup S → Question S → Native → ProgramPoint S → World S →
    Type 0
IsPassedOver m q n at u = (IsCalled q n
    × (((r : Dynamic) × Gives m q n at r u × (flat u.cells r ≡ None))
    ⊎ ((x : Problem) × EndsBy m q n at x u × (catchable x ≡ true))))
    ⊎ ((n.writes ≡ true) × (first_is_read_only (all_args q) ≡ true) × (u ≡ q.world))

-- The instruction appends this text, in this world: the segment, or its plain text where the host has no
-- native, or what the native gave, or the name of the segment's type.
pub data Renders {S : Type 0} (m : Setup S) (at : ProgramPoint S) : List ℕ → World S → Type 0 where
  as_text : {s : List ℕ} (v : Dynamic) →
      flat at.world.cells (top at.frame.operands).value ≡ Some v → text_of v ≡ Some s →
      Renders m at s (begun at.world)
  as_plain : (v : Dynamic) → ShowsSegment v at.instruction at.frame at.world →
      native_asked m (asks_for_text v at.frame at.world) ≡ None →
      Renders m at (plain v) (begun at.world)
  as_given : {u : World S} (v : Dynamic) → ShowsSegment v at.instruction at.frame at.world →
      (n : Native) → native_asked m (asks_for_text v at.frame at.world) ≡ Some n →
      IsCalled (asks_for_text v at.frame at.world) n → (r z : Dynamic) →
      Gives m (asks_for_text v at.frame at.world) n at r u → flat u.cells r ≡ Some z →
      Renders m at (shown z) u
  as_type : {u : World S} (v : Dynamic) → ShowsSegment v at.instruction at.frame at.world →
      (n : Native) → native_asked m (asks_for_text v at.frame at.world) ≡ Some n →
      IsPassedOver m (asks_for_text v at.frame at.world) n at u →
      Renders m at (type_name_of v) (record u { passed = u.passed + 1; trace = [] })

-- it appends this text to a buffer, which is this value as it is read then
abbrev pub AppendsTo : {S : Type 0} → Setup S → List ℕ → Dynamic → Op → ProgramPoint S → Type 0
AppendsTo {S = S} m s b op.InterpolateAppend at = (u : World S) × Renders m at s u
    × (flat u.cells (operand_under 1 at.frame.operands).value ≡ Some b)
AppendsTo m s b o at = ⊥

-- it ends with this buffer
abbrev pub EndsBuffer : {S : Type 0} → Dynamic → Op → Frame → World S → Type 0
EndsBuffer b op.InterpolateEnd f w = flat w.cells (top f.operands).value ≡ Some b
EndsBuffer b o f w = ⊥

-- it asks for a text as a buffer, and reads a value of this type
abbrev pub LacksBuffer : {S : Type 0} → Setup S → List ℕ → ProgramPoint S → Type 0
LacksBuffer m t at = (b : Dynamic) × (text_of b ≡ None) × (t ≡ type_name_of b)
    × (EndsBuffer b at.instruction at.frame at.world
    ⊎ ((s : List ℕ) × AppendsTo m s b at.instruction at))

-- the buffer becomes too long
abbrev pub AppendsTooMuch : {S : Type 0} → Setup S → List ℕ → ProgramPoint S → Type 0
AppendsTooMuch m what at = (what ≡ codes "Length of string") × ((s : List ℕ) × (b : Dynamic)
    × (t : List ℕ) × AppendsTo m s b at.instruction at × (text_of b ≡ Some t)
    × (is_over m.engine.limits.text (length t + length s) ≡ true))
