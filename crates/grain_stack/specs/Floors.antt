-- How what all frames have lies in lists. The operands lie in one, in which each frame's begin
-- where those of the frame around it end. Handlers, cursors and totals have one each, of entries
-- with the depth of their frame.
use Rattle.std.specs.Prelude.{ℕ, ◌+◌, ◌≤◌, Bool, if◌then◌else◌, List, [], ◌∷◌, length, take, drop, reverse}
use Rattle.std.specs.Vec.{vec_capacity}
use Rattle.grain_value.specs.declared.values.Held.{Held}
use Rattle.grain_stack.specs.declared.cursors.Cursor.{Cursor}
use Rattle.grain_stack.specs.declared.floors.Floor.{Floor}
use Rattle.grain_stack.specs.declared.frame_entries.FrameEntry.{FrameEntry}
use Rattle.grain_stack.specs.declared.handlers.Handler.{Handler}
use Rattle.grain_stack.specs.declared.stacks.Stacks.TheInside.{Inside}
use Rattle.grain_stack.specs.declared.totals.Total.{Total}
use Rattle.grain_stack.specs.Entries.{entries_at, IsOrdered}
use Rattle.grain_stack.specs.Views.{StackFrame, StacksView}

-- what all frames have besides their operands, the newest first
pub record Belongings : Type 0 where
  pub handlers : List (FrameEntry Handler)
  pub cursors : List (FrameEntry Cursor)
  pub totals : List (FrameEntry Total)

abbrev pub belongings : Inside → Belongings
belongings s = record { handlers = s.handlers; cursors = s.cursors; totals = s.totals }

-- nothing is of a frame further in than this depth, and the newer ones are of frames further in
pub record AreOrdered (depth : ℕ) (b : Belongings) : Type 0 where
  pub handlers : IsOrdered depth b.handlers
  pub cursors : IsOrdered depth b.cursors
  pub totals : IsOrdered depth b.totals

-- the frames with these floors, the inner ones first, on these operands and belongings
abbrev pub frames_on : List Held → Belongings → List Floor → List StackFrame
frames_on xs b [] = []
frames_on xs b (f ∷ fs) =
    record {
      operands = drop f.bottom xs;
      room = f.room;
      noted = f.noted;
      handlers = entries_at (length fs) b.handlers;
      cursors = entries_at (length fs) b.cursors;
      totals = entries_at (length fs) b.totals;
    }
    ∷ frames_on (take f.bottom xs) b fs

-- each floor lies at or below the one above it, and there are slots for its frame's operands
abbrev pub Nested : ℕ → ℕ → List Floor → Type 0
Nested slots bottom [] = Unit {0}
Nested slots bottom (f ∷ fs) =
    (f.bottom ≤ bottom) × (f.bottom + f.room ≤ slots) × Nested slots f.bottom fs

-- how many frames have not noted a fault
abbrev pub unnoted : Bool → List Floor → ℕ
unnoted noted [] = 0
unnoted noted (f ∷ fs) = (if noted then 0 else 1) + unnoted f.noted fs

abbrev pub floors : Inside → List Floor
floors s = reverse s.outer

abbrev pub stacks_view : Inside → StacksView
stacks_view s = record {
  operands = drop s.bottom s.slots.operands;
  room = s.room;
  noted = s.noted;
  handlers = entries_at (length (floors s)) s.handlers;
  cursors = entries_at (length (floors s)) s.cursors;
  totals = entries_at (length (floors s)) s.totals;
  outer = frames_on (take s.bottom s.slots.operands) (belongings s) (floors s);
  trace = s.trace.items;
  entered = s.entered;
}

-- The operands of the innermost frame are there and have their slots, the floors are in order, the
-- trace has room for an entry of each frame that has not noted a fault, and what else the frames have
-- is in the order of the frames.
pub record IsSound (s : Inside) : Type 0 where
  pub bottom : s.bottom ≤ length s.slots.operands
  pub room : s.bottom + s.room ≤ s.slots.slots
  pub nested : Nested s.slots.slots s.bottom (floors s)
  pub notes : length s.trace.items + unnoted s.noted (floors s) ≤ vec_capacity s.trace
  pub ordered : AreOrdered (length (floors s)) (belongings s)
