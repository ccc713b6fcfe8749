-- What frames have, the newest first. Each entry has the number of frames around its own: the depth
-- of its frame.
use Rattle.std.specs.Prelude.{◌≡◌, ℕ, ◌<◌, ◌≤◌, ◌==◌, if◌then◌else◌, List, [], ◌∷◌, Option, Some, None}
use Rattle.grain_stack.specs.declared.frame_entries.FrameEntry.{FrameEntry}

module _ {T : Type 0} where
  -- what the frame at a depth has
  abbrev pub entries_at : ℕ → List (FrameEntry T) → List T
  entries_at depth [] = []
  entries_at depth (e ∷ es) =
      if e.depth == depth then e.item ∷ entries_at depth es
      else entries_at depth es

  -- no entry is of a frame further in than this depth, nor than the entries that are newer
  abbrev pub IsOrdered : ℕ → List (FrameEntry T) → Type 0
  IsOrdered depth [] = Unit {0}
  IsOrdered depth (e ∷ es) = (e.depth ≤ depth) × IsOrdered e.depth es

  -- the innermost frame, which is at this depth, now has these items, and each frame around it has
  -- what it had
  pub record Becomes (depth : ℕ) (old new : List (FrameEntry T)) (items : List T) : Type 0 where
    pub own : entries_at depth new ≡ items
    pub outer : (d : ℕ) → d < depth → entries_at d new ≡ entries_at d old
    pub ordered : IsOrdered depth new

  -- the innermost of what a frame has, if it has anything
  abbrev pub first_of : List T → Option T
  first_of [] = None
  first_of (x ∷ xs) = Some x

  -- the same with another in the innermost one's place
  abbrev pub with_first : T → List T → List T
  with_first w [] = []
  with_first w (x ∷ xs) = w ∷ xs

  -- the newest of what all frames have, if they have anything
  abbrev pub newest_of : List (FrameEntry T) → Option T
  newest_of [] = None
  newest_of (e ∷ es) = Some e.item

  -- the same with another in the newest one's place
  abbrev pub with_newest : List (FrameEntry T) → T → List (FrameEntry T)
  with_newest [] w = []
  with_newest (e ∷ es) w = record e { item = w } ∷ es
