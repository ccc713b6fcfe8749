-- Frames, the entries of a scope, and what they hold.
use Rattle.std.specs.Prelude.{ℕ, ◌||◌, List, [], Option, Some, None, Bool, false, nat_le, length, option_map, slice_get}
use Rattle.grain_value.specs.declared.values.Held.{Held}
use Rattle.grain_value.specs.declared.scopes.Entry.{Entry}
use Rattle.grain_value.specs.Scopes.{held_of}
use Rattle.grain_value.specs.Looking.{cell_of}
use Rattle.grain_value.specs.Cells.{content_flag}
use Rattle.grain_value.specs.declared.stores.Cell.{Cell}
use Rattle.grain_value.specs.Operands.{under}
use Rattle.grain_program.specs.declared.code.parts.Chunk.{Chunk}
use Rattle.grain_program.specs.View.{or_empty}
use Rattle.grain_means.specs.Worlds.{Place, Frame, World}

-- a frame at another address, with other operands
abbrev pub stepped : Frame → ℕ → List Held → Frame
stepped f address operands = record f { address = address; operands = operands }

-- a frame without its last n operands
abbrev pub without : ℕ → Frame → Frame
without n f = record f { operands = under n f.operands }

-- a frame at a chunk's entry, on a scope of this length, under a `this`
abbrev pub frame_at : Chunk → ℕ → Option Place → Frame
frame_at c size this =
    record {
      address = c.entry;
      operands = [];
      cursors = [];
      totals = [];
      handlers = [];
      base = size;
      floor = size;
      this = this;
      slot = None;
      position = None;
    }

-- what the entry at an index of a scope holds, if any
abbrev pub held_at : List Entry → ℕ → Option Held
held_at scope i = option_map held_of (slice_get scope i)

abbrev pub is_full : ℕ → List Entry → Bool
is_full limit scope = nat_le limit (length scope)

-- the name of the entry at an index of a scope, if there is one
abbrev pub name_at : List Entry → ℕ → List ℕ
name_at scope i = or_empty (option_map (λ e. e.name) (slice_get scope i))

abbrev pub flag_of_cell : Option ℕ → List Cell → Bool
flag_of_cell None cells = false
flag_of_cell (Some n) cells = content_flag (slice_get cells n)

-- whether what is held can only be read: by its own flag, or by that of the content of its cell, if it is
-- one of these cells
abbrev pub only_read : List Cell → Held → Bool
only_read cells h = h.read_only || flag_of_cell (cell_of h.value) cells

abbrev pub is_read_only : {S : Type 0} → World S → Held → Bool
is_read_only w h = only_read w.cells h

-- what is held, or else the other
abbrev pub held_or : Held → Option Held → Held
held_or h None = h
held_or h (Some g) = g
