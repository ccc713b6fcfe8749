-- Where an assignment writes: an entry of the scope, the frame's `this`, or the cell that one of them
-- is.
use Rattle.std.specs.Prelude.{◌≡◌, ◌<◌, ◌≤◌, ℕ, List, [], Option, Some, None, IfSome, is_some, length, option_map, slice_get, slice_set, true, false}
use Rattle.grain_value.specs.declared.values.Dynamic.{Dynamic}
use Rattle.grain_value.specs.declared.values.Dynamic.TheVariants as dynamic
use Rattle.grain_value.specs.declared.values.Held.{Held}
use Rattle.grain_value.specs.Scopes.{set_held}
use Rattle.grain_value.specs.Operands.{read_write, top}
use Rattle.grain_value.specs.Cells.{idle, lent, is_busy, standing}
use Rattle.grain_means.specs.Worlds.{Place}
use Rattle.grain_means.specs.Rules.{Home, InScope, InCell, AtPlace, Receiver, held_at}
use Rattle.grain_ops.specs.Outcomes.{Outcome, NotBuiltIn, Gave}
use Rattle.grain_frame.specs.declared.activations.Activation.{Activation}
use Rattle.grain_program.specs.View.{View, name_of}
use Rattle.grain_frame.specs.Abstraction.{this_of}
use Rattle.grain_frame.specs.Receivers.{with_newest}
use Rattle.grain_ops.specs.Answers.{FailsSo}
use Rattle.grain_ops.specs.declared.answers.AssignAnswer.{AssignAnswer}
use Rattle.grain_ops.specs.declared.answers.AssignAnswer.TheVariants as assigned
use Rattle.grain_frame.specs.declared.runs.Run.{Run}
use Rattle.grain_frame.specs.declared.assignments.Assignment.{Assignment}
use Rattle.grain_frame.specs.declared.targets.Target.{Target}
use Rattle.grain_frame.specs.declared.targets.Target.TheVariants as to

-- the cell is not lent
abbrev pub FreeCell : {H : Type 0} → Run H → ℕ → Type 0
FreeCell s n = option_map is_busy (slice_get s.cells n) ≡ Some false

-- there is something, which can be written
abbrev pub CanBeWritten : Option Held → Type 0
CanBeWritten None = ⊥
CanBeWritten (Some h) = h.read_only ≡ false

-- the entry is there; or the cell is not lent; or the frame has a `this`, which can be written
abbrev pub CanBeLent : {H : Type 0} → Run H → Target → Type 0
CanBeLent s (to.Entry i) = i < length s.scope
CanBeLent s (to.Cell n) = FreeCell s n
CanBeLent s to.This = CanBeWritten (this_of s)

-- the entry is there; or the cell is lent; or the frame has a `this`
abbrev pub IsLentAt : {H : Type 0} → Run H → Target → Type 0
IsLentAt s (to.Entry i) = i < length s.scope
IsLentAt s (to.Cell n) = option_map is_busy (slice_get s.cells n) ≡ Some true
IsLentAt s to.This = is_some (this_of s) ≡ true

-- the target holds this
abbrev pub HoldsAt : {H : Type 0} → Run H → Target → Held → Type 0
HoldsAt s (to.Entry i) h = held_at s.scope i ≡ Some h
HoldsAt s (to.Cell n) h = slice_get s.cells n ≡ Some (idle h)
HoldsAt s to.This h = this_of s ≡ Some h

-- what the target holds, as a value
abbrev pub value_or_unit : Option Held → Dynamic
value_or_unit None = dynamic.Unit
value_or_unit (Some h) = h.value

abbrev pub content_at : {H : Type 0} → Run H → Target → Dynamic
content_at s (to.Entry i) = value_or_unit (held_at s.scope i)
content_at s (to.Cell n) = standing (slice_get s.cells n)
content_at s to.This = value_or_unit (this_of s)

-- the target holds its content so that it can be written
abbrev pub HoldsWritable : {H : Type 0} → Run H → Target → Type 0
HoldsWritable s t = HoldsAt s t (read_write (content_at s t))

-- the run without what the target holds
abbrev pub taken_out : {H : Type 0} → Run H → Target → Held → Run H
taken_out s (to.Entry i) h = record s { scope = set_held s.scope i (read_write dynamic.Unit) }
taken_out s (to.Cell n) h = record s { cells = slice_set s.cells n (lent h) }
taken_out s to.This h =
    record s { receivers = with_newest (read_write dynamic.Unit) s.receivers }

-- the run with this in the target
abbrev pub put_in : {H : Type 0} → Run H → Target → Held → Run H
put_in s (to.Entry i) h = record s { scope = set_held s.scope i h }
put_in s (to.Cell n) h = record s { cells = slice_set s.cells n (idle h) }
put_in s to.This h = record s { receivers = with_newest h s.receivers }

-- where the target's value is held in the meaning, if the frame's `this` stands at this place
abbrev pub home_of : Target → Option Place → Home
home_of (to.Entry i) place = InScope i
home_of (to.Cell n) place = InCell n
home_of to.This None = InScope 0
home_of to.This (Some p) = AtPlace p

-- the target, or the cell that its value is
abbrev pub target_in : Target → Option ℕ → Target
target_in t None = t
target_in t (Some n) = to.Cell n

-- what the target holds, as a native is lent it
abbrev pub receiver_at : Target → Option Place → Held → Receiver
receiver_at t place h = record { home = home_of t place; held = h }

-- the last operand as it was read: the content of its cell that was kept, or the operand itself
abbrev pub kept_value : Option Dynamic → Dynamic → Dynamic
kept_value None v = v
kept_value (Some u) v = u

abbrev pub kept_operand : Option Dynamic → List Held → Held
kept_operand kept operands =
    record { value = kept_value kept (top operands).value; read_only = (top operands).read_only }

-- the name of what is assigned to: that of a variable, and `this` has none
abbrev pub assigned_name : View → Option ℕ → List ℕ
assigned_name p None = []
assigned_name p (Some n) = name_of p n

-- an op-assignment can be done: its target can be lent, the operand is there, and the names are in
-- their pool
pub record CanAssign {H : Type 0} (p : View) (f : Activation) (s : Run H) (a : Assignment) :
    Type 0 where
  pub inside : f.base ≤ length s.scope
  pub target : CanBeLent s a.target
  pub operand : 0 < length s.stacks.operands
  pub ahead : f.address < a.next
  pub first : a.operator.op_assign_name < length p.names
  pub second : a.operator.op_name < length p.names
  pub variable : IfSome a.variable (λ n. n < length p.names)

-- an op-assignment writes the target if it is done, with the flag that it had, and changes nothing
-- else
abbrev pub AssignedTarget : {H : Type 0} → AssignAnswer → Outcome → (old new : Run H) → Target →
    Held → Type 0
AssignedTarget assigned.NotBuiltIn o s s' t h = (o ≡ NotBuiltIn) × (s' ≡ s)
AssignedTarget assigned.Done o s s' t h =
    (v : Dynamic) × (o ≡ Gave v) × (s' ≡ put_in s t (record h { value = v }))
AssignedTarget (assigned.Failed x) o s s' t h = FailsSo x o × (s' ≡ s)
