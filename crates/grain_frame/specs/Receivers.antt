-- The `this` of the frames that have one, the newest first.
use Rattle.std.specs.Prelude.{◌≡◌, ◌==◌, ℕ, List, [], ◌∷◌, Option, Some, None, is_some, if◌then◌else◌}
use Rattle.grain_value.specs.declared.values.Held.{Held}
use Rattle.grain_frame.specs.declared.receivers.Bound.{Bound}

-- what the newest holds, if it is of this level
abbrev pub bound_at : ℕ → List Bound → Option Held
bound_at level [] = None
bound_at level (b ∷ bs) = if b.level == level then Some b.held else None

-- all but the newest, if that is of this level; or else all
abbrev pub others_at : ℕ → List Bound → List Bound
others_at level [] = []
others_at level (b ∷ bs) = if b.level == level then bs else b ∷ bs

-- what the newest holds, and all but the newest
abbrev pub newest_held : List Bound → Option Held
newest_held [] = None
newest_held (b ∷ bs) = Some b.held

abbrev pub without_newest : List Bound → List Bound
without_newest [] = []
without_newest (b ∷ bs) = bs

-- the newest holds this
abbrev pub with_newest : Held → List Bound → List Bound
with_newest h [] = []
with_newest h (b ∷ bs) = record b { held = h } ∷ bs

-- at a level, those of other levels are as they were, and there is one of this level exactly if there
-- was one
abbrev pub KeepsBound : ℕ → (before after : List Bound) → Type 0
KeepsBound level before after =
    (others_at level after ≡ others_at level before)
    × (is_some (bound_at level after) ≡ is_some (bound_at level before))
