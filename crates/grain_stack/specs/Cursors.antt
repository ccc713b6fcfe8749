-- The items that a cursor has left.
use Rattle.std.specs.Prelude.{◌≡◌, ℕ, pos, if◌then◌else◌, List, [], ◌∷◌, map, drop, Option, Some, None}
use Rattle.std.specs.Str.{chars, is_utf8}
use Rattle.grain_value.specs.Items.{integers_in}
use Rattle.grain_value.specs.Tree.{Tree, integer, character}
use Rattle.grain_value.specs.Looking.{cell_of}
use Rattle.grain_value.specs.View.{tree, value_of}
use Rattle.grain_value.specs.declared.values.Dynamic.{Dynamic}
use Rattle.grain_stack.specs.declared.cursors.Left.{Left}
use Rattle.grain_stack.specs.declared.cursors.Left.TheVariants as left

-- bytes as items
abbrev pub bytes_in : List ℕ → List Tree
bytes_in bytes = map (λ b. integer (pos b)) bytes

-- the characters of bytes as items, and none where the bytes are no text
abbrev pub characters_in : List ℕ → List Tree
characters_in bytes = if is_utf8 bytes then map character (chars bytes) else []

-- the items that are left
abbrev pub items_left : Left → List Tree
items_left (left.Values values next) = drop next values
items_left (left.Bytes bytes next) = bytes_in (drop next bytes)
items_left (left.Characters text next) = characters_in (drop next text)
items_left (left.Range from to inclusive) = integers_in from to inclusive

-- the cell that the first item is, if it is one
abbrev pub first_cell : List Tree → Option ℕ
first_cell [] = None
first_cell (t ∷ ts) = cell_of (value_of t)

-- the items are the integers of a range
abbrev pub IsRange : Left → Type 0
IsRange (left.Values values next) = ⊥
IsRange (left.Bytes bytes next) = ⊥
IsRange (left.Characters text next) = ⊥
IsRange (left.Range from to inclusive) = Unit {0}

-- of the items before, the first is given and those after are left, or there was none
abbrev pub Gives : (before : List Tree) → Option Dynamic → (after : List Tree) → Type 0
Gives before None after = (before ≡ []) × (after ≡ [])
Gives before (Some item) after = before ≡ tree item ∷ after
