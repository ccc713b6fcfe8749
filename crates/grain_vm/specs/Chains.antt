-- How the code does a chain: what it finds of the root, what it takes from the operands, and where the
-- root is while the walk is under way.
use Rattle.std.specs.Prelude.{◌≡◌, ◌<◌, ◌≤◌, ◌+◌, ◌&&◌, ◌||◌, ℕ, List, [], Bool, true, false, Option, Some, None, Result, Ok, Err, length, option_map, is_some, slice_get, slice_set}
use Rattle.grain_value.specs.declared.values.Dynamic.{Dynamic}
use Rattle.grain_value.specs.declared.values.Dynamic.TheVariants as dynamic
use Rattle.grain_value.specs.declared.values.Held.{Held}
use Rattle.grain_value.specs.declared.stores.Cell.{Cell}
use Rattle.grain_value.specs.Cells.{content, flat, idle, is_busy, lent}
use Rattle.grain_value.specs.Operands.{below, read_write, top, under}
use Rattle.grain_value.specs.Scopes.{set_held}
use Rattle.grain_fault.specs.declared.faults.MalformedKind.TheVariants as kind
use Rattle.grain_fault.specs.Problems.{Problem, Plain, AssignmentToConstant, DataRace, Malformed, UnboundThis}
use Rattle.grain_fault.specs.declared.places.Position.{Position}
use Rattle.grain_program.specs.Chains.{assigns, chain_takes}
use Rattle.grain_program.specs.View.{View, position_of}
use Rattle.grain_program.specs.declared.code.chains.Chain.{Chain}
use Rattle.grain_program.specs.declared.code.chains.Root.{Root}
use Rattle.grain_program.specs.declared.code.chains.Root.TheVariants as root
use Rattle.grain_program.specs.declared.code.chains.Tail.{Tail}
use Rattle.grain_program.specs.declared.code.chains.Tail.TheVariants as tail
use Rattle.grain_means.specs.Worlds.{Frame, Place}
use Rattle.grain_means.specs.Rules.{flag_of_cell, held_at, only_read, race_text, trees_in}
use Rattle.grain_means.specs.Rules.Chains.{assigned_operand, lent_cell, root_name, root_operands, steps_operands}
use Rattle.grain_frame.specs.Abstraction.{frame_in, this_of}
use Rattle.grain_frame.specs.Receivers.{with_newest}
use Rattle.grain_frame.specs.Targets.{kept_value}
use Rattle.grain_frame.specs.declared.activations.Activation.{Activation}
use Rattle.grain_vm.specs.declared.chain_operands.Taken.{Taken}
use Rattle.grain_vm.specs.declared.roots.ChainRefusal.{ChainRefusal}
use Rattle.grain_vm.specs.declared.roots.ChainRefusal.TheVariants as refusal
use Rattle.grain_vm.specs.declared.roots.FoundRoot.{FoundRoot}
use Rattle.grain_vm.specs.declared.roots.Home.{Home}
use Rattle.grain_vm.specs.declared.roots.Home.TheVariants as home
use Rattle.grain_frame.specs.declared.runs.Run.{Run}

-- the index of the entry that is the root, if the root is an entry
abbrev pub root_index : ℕ → Root → ℕ
root_index base (root.Local name slot) = base + slot
root_index base (root.This q) = base
root_index base root.Temporary = base

-- what a root holds, if it is there; i is the index of its entry
abbrev pub root_held : {H : Type 0} → Run H → ℕ → Root → Option Held
root_held s i (root.Local name slot) = held_at s.scope i
root_held s i (root.This q) = this_of s
root_held s i root.Temporary = Some (top s.stacks.operands)

-- where a root is held if it is no cell that is lent
abbrev pub plain_home : ℕ → Root → Home
plain_home i (root.Local name slot) = home.Entry i
plain_home i (root.This q) = home.This
plain_home i root.Temporary = home.Operand

abbrev pub home_in : ℕ → Root → Option ℕ → Home
home_in i r None = plain_home i r
home_in i r (Some n) = home.Cell n

-- whether the value that the chain assigns, if any, is not a lent cell
abbrev pub can_read : List Cell → Tail → Held → Bool
can_read cells tail.Read h = true
can_read cells (tail.Assign op) h = is_some (flat cells h.value)

-- a chain's operands are there: those of its root, those of its steps, and what it assigns
pub record HasChainOperands (c : Chain) (ops : List Held) : Type 0 where
  pub whole : chain_takes c ≤ length ops
  pub root : root_operands c.root ≤ length ops
  pub steps : c.operands + root_operands c.root ≤ length ops
  pub value : assigns c.tail ≡ true → c.operands + root_operands c.root < length ops

-- whether what is lent for the walk can only be read: the root, or the content of the cell that it is
abbrev pub lent_flag : List Cell → Option ℕ → Held → Bool
lent_flag cells cell h = h.read_only || flag_of_cell cell cells

-- the chain's root holds h, the walk may begin there, and f says where it is held and
-- whether it is read-only
pub record RootFound {H : Type 0} (p : View) (s : Run H) (base : ℕ) (c : Chain) (f : FoundRoot)
    (h : Held) : Type 0 where
  pub there : root_held s (root_index base c.root) c.root ≡ Some h
  pub home : f.home ≡ home_in (root_index base c.root) c.root (lent_cell p c.steps h)
  pub flag : f.read_only ≡ lent_flag s.cells (lent_cell p c.steps h) h
  pub writable : (assigns c.tail && only_read s.cells h) ≡ false
  pub readable : can_read s.cells c.tail (assigned_operand c s.stacks.operands) ≡ true

-- the root's slot is past the scope, and this is its index
abbrev pub IsPastScope : ℕ → Root → ℕ → Type 0
IsPastScope base (root.This q) i = ⊥
IsPastScope base r i = i ≡ root_index base r

-- the root is `this`
abbrev pub IsThis : Root → Type 0
IsThis (root.Local name slot) = ⊥
IsThis (root.This q) = Unit {0}
IsThis root.Temporary = ⊥

-- why no walk begins: the root's slot is past the scope; or the root is `this`, and the frame has
-- none; or the root can only be read, and the chain assigns to it; or what the chain assigns is a lent
-- cell
abbrev pub RefusesChain : {H : Type 0} → Run H → ℕ → Chain → ChainRefusal → Type 0
RefusesChain s base c (refusal.NoEntry i) =
    IsPastScope base c.root i × (root_held s (root_index base c.root) c.root ≡ None)
RefusesChain s base c refusal.Unbound =
    IsThis c.root × (root_held s (root_index base c.root) c.root ≡ None)
RefusesChain s base c refusal.Constant =
    (h : Held) × (root_held s (root_index base c.root) c.root ≡ Some h)
    × ((assigns c.tail && only_read s.cells h) ≡ true)
RefusesChain s base c refusal.Lent =
    (h : Held) × (root_held s (root_index base c.root) c.root ≡ Some h)
    × ((assigns c.tail && only_read s.cells h) ≡ false)
    × (can_read s.cells c.tail (assigned_operand c s.stacks.operands) ≡ false)

-- why there is no root; i is the index of its entry
abbrev pub refusal_in : Root → ℕ → ChainRefusal
refusal_in (root.Local name slot) i = refusal.NoEntry i
refusal_in (root.This q) i = refusal.Unbound
refusal_in root.Temporary i = refusal.NoEntry i

abbrev pub FindsRoot : {H : Type 0} → View → Run H → ℕ → Chain → Result FoundRoot ChainRefusal →
    Type 0
FindsRoot p s base c (Ok f) = (h : Held) × RootFound p s base c f h
FindsRoot p s base c (Err r) = RefusesChain s base c r

-- the position of a fault of a chain's root: the root's own, or else that of this address
abbrev pub root_position_at : View → ℕ → Root → Position
root_position_at p address (root.Local name slot) = position_of p address
root_position_at p address (root.This q) = q
root_position_at p address root.Temporary = position_of p address

-- the fault for which no walk begins, with the position of this address; `size` is the
-- length of the scope
abbrev pub chain_fault : View → ℕ → ℕ → Root → ChainRefusal → Problem
chain_fault p size address r (refusal.NoEntry i) =
    Plain (Malformed (kind.SlotPastScope i size)) (position_of p address)
chain_fault p size address r refusal.Constant =
    Plain (AssignmentToConstant (root_name p r)) (root_position_at p address r)
chain_fault p size address r refusal.Unbound = Plain UnboundThis (root_position_at p address r)
chain_fault p size address r refusal.Lent = Plain (DataRace (race_text [])) (position_of p address)

-- the content of what a chain assigns was kept, if that is a cell
abbrev pub KeepsValue : List Cell → Tail → Held → Option Dynamic → Type 0
KeepsValue cells tail.Read h kept = Unit {0}
KeepsValue cells (tail.Assign op) h kept = flat cells h.value ≡ Some (kept_value kept h.value)

-- the chain's operands, without the root, were copied
abbrev pub TakesCopies : {H : Type 0} → Run H → Chain → Taken → Type 0
TakesCopies s c t =
    (t.operands ≡ trees_in (steps_operands c s.stacks.operands))
    × KeepsValue s.cells c.tail (assigned_operand c s.stacks.operands) t.kept

-- the root, if it is an operand; any other root is held elsewhere
abbrev pub root_operand : Root → List Held → Held
root_operand (root.Local name slot) ops = read_write dynamic.Unit
root_operand (root.This q) ops = read_write dynamic.Unit
root_operand root.Temporary ops = top ops

abbrev pub without_root : Root → List Held → List Held
without_root (root.Local name slot) ops = ops
without_root (root.This q) ops = ops
without_root root.Temporary ops = below ops

-- the value that a chain assigns: the copy that was kept, if the operand is a cell, or else
-- the operand itself
abbrev pub value_taken : Tail → Option Dynamic → Held → Dynamic
value_taken tail.Read kept h = dynamic.Unit
value_taken (tail.Assign op) kept h = kept_value kept h.value

abbrev pub without_value : Tail → List Held → List Held
without_value tail.Read ops = ops
without_value (tail.Assign op) ops = below ops

-- the operands after the chain's steps and root are taken away
abbrev pub between : Chain → List Held → List Held
between c ops = under c.operands (without_root c.root ops)

-- the operands after all of the chain's are taken away
abbrev pub left_by : Chain → List Held → List Held
left_by c ops = without_value c.tail (between c ops)

-- a root can be taken from this home
abbrev pub CanTake : {H : Type 0} → Run H → Home → Type 0
CanTake s (home.Entry i) = i < length s.scope
CanTake s (home.Cell n) = option_map is_busy (slice_get s.cells n) ≡ Some false
CanTake s home.Operand = Unit {0}
CanTake s home.This = is_some (this_of s) ≡ true

-- a root can be put back there: the entry is there still, or the frame has a `this` still
abbrev pub CanPutBack : {H : Type 0} → Run H → Home → Type 0
CanPutBack s (home.Entry i) = i < length s.scope
CanPutBack s (home.Cell n) = Unit {0}
CanPutBack s home.Operand = Unit {0}
CanPutBack s home.This = is_some (this_of s) ≡ true

-- h was taken from this home; if it was an entry or a `this`, `operand` is now in its place
abbrev pub RootTaken : {H : Type 0} → Run H → Home → Held → Held → Run H → Type 0
RootTaken s (home.Entry i) operand h s' =
    (held_at s.scope i ≡ Some h) × (s' ≡ record s { scope = set_held s.scope i operand })
RootTaken s (home.Cell n) operand h s' =
    (slice_get s.cells n ≡ Some (idle h)) × (s' ≡ record s { cells = slice_set s.cells n (lent h) })
RootTaken s home.Operand operand h s' = (h ≡ operand) × (s' ≡ s)
RootTaken s home.This operand h s' =
    (this_of s ≡ Some h)
    × (s' ≡ record s { receivers = with_newest operand s.receivers })

-- the run with this root put back at its home
abbrev pub with_root : {H : Type 0} → Run H → Home → Held → Run H
with_root s (home.Entry i) h = record s { scope = set_held s.scope i h }
with_root s (home.Cell n) h = record s { cells = slice_set s.cells n (idle h) }
with_root s home.Operand h = s
with_root s home.This h = record s { receivers = with_newest h s.receivers }

-- whether the root can be taken: it is not a lent cell
abbrev pub is_free : {H : Type 0} → Run H → Home → Bool
is_free s (home.Entry i) = true
is_free s (home.Cell n) = is_some (content (slice_get s.cells n))
is_free s home.Operand = true
is_free s home.This = true

-- the frame without the chain's operands, which blames the step of this slot, if any
abbrev pub walked_frame : {H : Type 0} → Activation → Run H → Chain → Option ℕ → Option Place → Frame
walked_frame f s c blamed place = record (frame_in f s place) {
  operands = under (chain_takes c) s.stacks.operands;
  slot = blamed;
}
