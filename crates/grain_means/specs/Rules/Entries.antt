-- Entries of a scope are read, declared, written, and become cells.
use Rattle.std.specs.Prelude.{ℕ, ◌+◌, slice_set, List, [], ◌∷◌, ◌++◌, Option, Some, None, Bool, if◌then◌else◌, length, slice_get}
use Rattle.grain_value.specs.declared.values.Dynamic.{Dynamic}
use Rattle.grain_value.specs.declared.values.Dynamic.TheVariants as dynamic
use Rattle.grain_value.specs.declared.values.Held.{Held}
use Rattle.grain_value.specs.Scopes.{set_held, new_entry}
use Rattle.grain_value.specs.Looking.{cell_of}
use Rattle.grain_value.specs.Cells.{idle}
use Rattle.grain_value.specs.declared.stores.Cell.{Cell}
use Rattle.grain_value.specs.Operands.{top, below, read_write}
use Rattle.grain_fault.specs.declared.faults.MalformedKind.TheVariants as kind
use Rattle.grain_fault.specs.Problems.{Plain, AssignmentToConstant, TooManyVariables, Malformed}
use Rattle.grain_program.specs.View.{name_of}
use Rattle.grain_means.specs.Worlds.{Frame, World, Act, Setup}
use Rattle.grain_means.specs.Places.{put}
use Rattle.grain_means.specs.Rules.Homes.{Home, InScope, InCell, AtPlace, in_entry}
use Rattle.grain_means.specs.Rules.Frames.{stepped, held_at, is_full, name_at, is_read_only}
use Rattle.grain_means.specs.Rules.Faults.{position, marked, raised, data_race}
use Rattle.grain_means.specs.Rules.Going.{onward, pushed}
use Rattle.grain_means.specs.Rules.Reads.{flattened}

module _ {S : Type 0} (m : Setup S) where
  -- a cell is written, unless its content is lent
  abbrev pub cell_written : Option Cell → ℕ → Held → List ℕ → Frame → World S →
      (World S → Act S) → Act S
  cell_written None n h name f w go = data_race m name f w
  cell_written (Some c) n h name f w go =
      if c.busy then data_race m name f w
      else marked m f w (λ w1. go (record w1 { cells = slice_set w1.cells n (idle h) }))

  -- this is written; faults call where it is written by the name
  abbrev pub written_at : Home → Held → List ℕ → Frame → World S → (World S → Act S) → Act S
  written_at (InScope i) h name f w go =
      marked m f w (λ w1. go (record w1 { scope = set_held w1.scope i h }))
  written_at (InCell n) h name f w go = cell_written (slice_get w.cells n) n h name f w go
  written_at (AtPlace p) h name f w go =
      marked m f w (λ w1. go (record w1 { roots = put w1.roots p h.value }))

  -- a slot past the scope
  abbrev pub slot_past_scope : Frame → ℕ → World S → Act S
  slot_past_scope f i w =
      raised m f (Plain (Malformed (kind.SlotPastScope i (length w.scope))) (position m f)) w

  abbrev pub at_entry : Option Held → Frame → ℕ → World S → (Held → Act S) → Act S
  at_entry None f i w go = slot_past_scope f i w
  at_entry (Some h) f i w go = go h

  -- what the entry of a slot holds, and then what follows from it
  abbrev pub at_slot : Frame → ℕ → World S → (Held → Act S) → Act S
  at_slot f slot w go = at_entry (held_at w.scope (f.base + slot)) f (f.base + slot) w go

  abbrev pub load_local : ℕ → ℕ → Frame → World S → Act S
  load_local slot next f w =
      at_slot f slot w
      (λ h. flattened m h (name_at w.scope (f.base + slot)) f w
      (λ v. pushed m f next f.operands v w))

  -- what an entry holds, of which a cell stays a cell
  abbrev pub load_shared : ℕ → ℕ → Frame → World S → Act S
  load_shared slot next f w = at_slot f slot w (λ h. pushed m f next f.operands h.value w)

  -- what an entry holds goes to a new cell, which the entry then is; an entry that is a cell stays
  abbrev pub shared : Option ℕ → Held → ℕ → ℕ → Frame → World S → Act S
  shared None h slot next f w =
      marked m f w (λ w1. marked m f (record w1 { cells = w1.cells ++ idle h ∷ [] }) (λ w2.
      onward m f (stepped f next f.operands) (record w2 {
        scope = set_held w2.scope (f.base + slot)
            (read_write (dynamic.Cell (length w1.cells)));
      })))
  shared (Some n) h slot next f w = onward m f (stepped f next f.operands) w

  abbrev pub share : ℕ → ℕ → Frame → World S → Act S
  share slot next f w = at_slot f slot w (λ h. shared (cell_of h.value) h slot next f w)

  -- one entry more, which can only be read where the flag says so
  abbrev pub declare : Bool → List ℕ → ℕ → Frame → World S → Act S
  declare read_only name next f w =
      flattened m (top f.operands) [] f w (λ v.
      if is_full m.engine.limits.variables w.scope
      then raised m f (Plain TooManyVariables (position m f)) w
      else
      marked m f w (λ w1. onward m f (stepped f next (below f.operands)) (record w1 {
        scope = w1.scope ++
            new_entry name (record { value = v; read_only = read_only }) ∷ [];
      })))

  -- an assignment to an entry that can only be read
  abbrev pub assignment_to_constant : ℕ → Frame → World S → Act S
  assignment_to_constant n f w =
      raised m f (Plain (AssignmentToConstant (name_of m.program n)) (position m f)) w

  -- this is written, with which the last operand is used up
  abbrev pub assigned_at : Home → Held → List ℕ → ℕ → Frame → World S → Act S
  assigned_at a h name next f w =
      written_at a h name f w (onward m f (stepped f next (below f.operands)))

  -- this into the entry of a slot, which holds something so far, or into the cell that it is
  abbrev pub write_entry : Held → ℕ → Held → List ℕ → ℕ → Frame → World S → Act S
  write_entry before slot h name next f w =
      assigned_at (in_entry (f.base + slot) (cell_of before.value)) h name next f w

  -- the last operand, as it is written into an entry that is a cell, or into any other
  abbrev pub operand_for : Option ℕ → Frame → World S → (Dynamic → Act S) → Act S
  operand_for None f w go = go (top f.operands).value
  operand_for (Some n) f w go = flattened m (top f.operands) [] f w go

  -- the last operand into the entry, whatever stands there, with this flag
  abbrev pub store_local : Bool → ℕ → ℕ → Frame → World S → Act S
  store_local read_only slot next f w =
      at_slot f slot w (λ h. operand_for (cell_of h.value) f w
      (λ v. write_entry h slot (record { value = v; read_only = read_only }) [] next f w))

  abbrev pub assign : ℕ → ℕ → ℕ → Frame → World S → Act S
  assign slot n next f w =
      at_slot f slot w (λ h. flattened m (top f.operands) (name_of m.program n) f w (λ v.
      if is_read_only w h then assignment_to_constant n f w else
      write_entry h slot (record h { value = v }) (name_of m.program n) next f w))
