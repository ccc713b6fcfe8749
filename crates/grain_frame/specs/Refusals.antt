-- What an assignment to the entry of a slot, or to `this`, finds before it writes: a target, or why
-- there is none.
use Rattle.std.specs.Prelude.{◌≡◌, ◌⊎◌, ◌||◌, ℕ, List, Some, None, true, false, is_some, Result, Ok, Err}
use Rattle.grain_value.specs.declared.values.Held.{Held}
use Rattle.grain_value.specs.Looking.{cell_of}
use Rattle.grain_value.specs.Operands.{top}
use Rattle.grain_value.specs.Cells.{flat}
use Rattle.grain_fault.specs.declared.faults.MalformedKind.TheVariants as kind
use Rattle.grain_fault.specs.Problems.{Problem, Plain, AssignmentToConstant, DataRace, Malformed, UnboundThis}
use Rattle.grain_program.specs.View.{View, position_of}
use Rattle.grain_means.specs.Rules.{flag_of_cell, held_at, race_text}
use Rattle.grain_frame.specs.Abstraction.{this_of}
use Rattle.grain_frame.specs.Targets.{HoldsAt, target_in}
use Rattle.grain_frame.specs.declared.runs.Run.{Run}
use Rattle.grain_frame.specs.declared.targets.Target.{Target}
use Rattle.grain_frame.specs.declared.targets.Target.TheVariants as to
use Rattle.grain_frame.specs.declared.targets.TargetRefusal.{TargetRefusal}
use Rattle.grain_frame.specs.declared.targets.TargetRefusal.TheVariants as refusal

-- what stands here holds this and can be written, it or its cell is the target, and it and the last
-- operand can be read
pub record FindsTarget {H : Type 0} (s : Run H) (here t : Target) (h : Held) : Type 0 where
  pub there : HoldsAt s here h
  pub found : t ≡ target_in here (cell_of h.value)
  pub readable : is_some (flat s.cells (top s.stacks.operands).value) ≡ true
  pub writable : (h.read_only || flag_of_cell (cell_of h.value) s.cells) ≡ false
  pub free : is_some (flat s.cells h.value) ≡ true

-- nothing is assigned to what holds this: the operand can be read, and what is held can only be read, or
-- is a lent cell
abbrev pub IsConstant : {H : Type 0} → Run H → Held → Type 0
IsConstant s h = (is_some (flat s.cells (top s.stacks.operands).value) ≡ true)
    × ((h.read_only || flag_of_cell (cell_of h.value) s.cells) ≡ true)

abbrev pub IsLentCell : {H : Type 0} → Run H → Held → Type 0
IsLentCell s h = (is_some (flat s.cells (top s.stacks.operands).value) ≡ true)
    × ((h.read_only || flag_of_cell (cell_of h.value) s.cells) ≡ false)
    × (flat s.cells h.value ≡ None)

-- or the operand is a lent cell
abbrev pub IsLentThere : {H : Type 0} → Run H → Held → Type 0
IsLentThere s h = (flat s.cells (top s.stacks.operands).value ≡ None) ⊎ IsLentCell s h

-- nothing is assigned to the entry at this index
abbrev pub Refuses : {H : Type 0} → Run H → ℕ → TargetRefusal → Type 0
Refuses s i (refusal.NoEntry j) = (j ≡ i) × (held_at s.scope i ≡ None)
Refuses s i refusal.Lent = (h : Held) × (held_at s.scope i ≡ Some h) × IsLentThere s h
Refuses s i refusal.Constant = (h : Held) × (held_at s.scope i ≡ Some h) × IsConstant s h
Refuses s i refusal.Unbound = ⊥

-- nothing is assigned to `this`
abbrev pub RefusesThis : {H : Type 0} → Run H → TargetRefusal → Type 0
RefusesThis s (refusal.NoEntry j) = ⊥
RefusesThis s refusal.Lent = (flat s.cells (top s.stacks.operands).value ≡ None)
    ⊎ ((h : Held) × (this_of s ≡ Some h) × IsLentCell s h)
RefusesThis s refusal.Constant = (h : Held) × (this_of s ≡ Some h) × IsConstant s h
RefusesThis s refusal.Unbound =
    (is_some (flat s.cells (top s.stacks.operands).value) ≡ true) × (this_of s ≡ None)

-- where an assignment to the entry at this index writes, or why it does not
abbrev pub FindsAt : {H : Type 0} → Run H → ℕ → Result Target TargetRefusal → Type 0
FindsAt s i (Ok t) = (h : Held) × FindsTarget s (to.Entry i) t h
FindsAt s i (Err r) = Refuses s i r

-- where an assignment to `this` writes, or why it does not
abbrev pub FindsThis : {H : Type 0} → Run H → Result Target TargetRefusal → Type 0
FindsThis s (Ok t) = (h : Held) × FindsTarget s to.This t h
FindsThis s (Err r) = RefusesThis s r

-- the fault that is raised where nothing is assigned to what has this name, at the position of an
-- address, where the scope has this length
abbrev pub refusal_fault : View → (size address : ℕ) → List ℕ → TargetRefusal → Problem
refusal_fault p size address name (refusal.NoEntry i) =
    Plain (Malformed (kind.SlotPastScope i size)) (position_of p address)
refusal_fault p size address name refusal.Lent =
    Plain (DataRace (race_text name)) (position_of p address)
refusal_fault p size address name refusal.Constant =
    Plain (AssignmentToConstant name) (position_of p address)
refusal_fault p size address name refusal.Unbound = Plain UnboundThis (position_of p address)
