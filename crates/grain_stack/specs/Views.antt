-- What a caller sees of the stacks: the operands, handlers, cursors and totals of each frame, the
-- trace, and how often a frame was entered.
use Rattle.std.specs.Prelude.{◌≡◌, ℕ, ◌+◌, ◌-◌, ◌^◌, nat_lt, if◌then◌else◌, Bool, false, List, [], ◌∷◌, ◌++◌}
use Rattle.grain_value.specs.declared.values.Dynamic.{Dynamic}
use Rattle.grain_value.specs.declared.values.Held.{Held}
use Rattle.grain_value.specs.Operands.{read_write}
use Rattle.grain_fault.specs.declared.traces.Fault.{Fault}
use Rattle.grain_stack.specs.declared.cursors.Cursor.{Cursor}
use Rattle.grain_stack.specs.declared.handlers.Handler.{Handler}
use Rattle.grain_stack.specs.declared.totals.Total.{Total}

-- a frame's own operands, how many it may have at most, whether it has noted a fault, and its own
-- handlers, cursors and totals, the innermost first
pub record StackFrame : Type 0 where
  pub operands : List Held
  pub room : ℕ
  pub noted : Bool
  pub handlers : List Handler
  pub cursors : List Cursor
  pub totals : List Total

-- The innermost frame, and the frames around it, the inner ones first. Around the outermost frame
-- stands one more, in which there is no room: it is the innermost one while no frame is entered.
pub record StacksView : Type 0 where
  pub operands : List Held
  pub room : ℕ
  pub noted : Bool
  pub handlers : List Handler
  pub cursors : List Cursor
  pub totals : List Total
  pub outer : List StackFrame
  pub trace : List Fault
  -- how often a frame was entered, at most 2^64 - 1
  pub entered : ℕ

-- no frame is entered, and nothing is noted
abbrev pub no_frames : StacksView
no_frames = record {
  operands = [];
  room = 0;
  noted = false;
  handlers = [];
  cursors = [];
  totals = [];
  outer = [];
  trace = [];
  entered = 0;
}

abbrev pub innermost : StacksView → StackFrame
innermost s = record {
  operands = s.operands;
  room = s.room;
  noted = s.noted;
  handlers = s.handlers;
  cursors = s.cursors;
  totals = s.totals;
}

-- one more, up to 2^64 - 1
abbrev pub counted_up : ℕ → ℕ
counted_up n = if nat_lt n (2 ^ 64 - 1) then n + 1 else n

-- a frame more, which may have n operands
abbrev pub with_frame : ℕ → StacksView → StacksView
with_frame room s = record s {
  operands = [];
  room = room;
  noted = false;
  handlers = [];
  cursors = [];
  totals = [];
  outer = innermost s ∷ s.outer;
  entered = counted_up s.entered;
}

-- the innermost frame is left, and the one around it is the innermost
abbrev pub without_frame : List StackFrame → StacksView → StacksView
without_frame [] s = s
without_frame (f ∷ fs) s =
    record s {
      operands = f.operands;
      room = f.room;
      noted = f.noted;
      handlers = f.handlers;
      cursors = f.cursors;
      totals = f.totals;
      outer = fs;
    }

-- the innermost frame has no handlers, cursors and totals
pub record IsBare (s : StacksView) : Type 0 where
  pub handlers : s.handlers ≡ []
  pub cursors : s.cursors ≡ []
  pub totals : s.totals ≡ []

-- the same frame without its handlers, cursors and totals
abbrev pub bare : StacksView → StacksView
bare s = record s { handlers = []; cursors = []; totals = [] }

-- no frame is entered, and no operand, handler, cursor and total is held
pub record IsIdle (s : StacksView) : Type 0 where
  pub operands : s.operands ≡ []
  pub handlers : s.handlers ≡ []
  pub cursors : s.cursors ≡ []
  pub totals : s.totals ≡ []
  pub outer : s.outer ≡ []

-- the frames are as they were: only the trace and the number of entries may differ
abbrev pub IsLeft : (old new : StacksView) → Type 0
IsLeft old new = new ≡ record old { trace = new.trace; entered = new.entered }

-- one operand more, which can be written
abbrev pub with_value : Dynamic → StacksView → StacksView
with_value v s = record s { operands = s.operands ++ read_write v ∷ [] }

-- the innermost frame, without its handlers, cursors and totals, and the one around it, which
-- become one with the operands of both
abbrev pub joined_frame : List StackFrame → StacksView → StacksView
joined_frame [] s = s
joined_frame (f ∷ fs) s = record s {
  operands = f.operands ++ s.operands;
  room = f.room;
  noted = f.noted;
  handlers = f.handlers;
  cursors = f.cursors;
  totals = f.totals;
  outer = fs;
}
