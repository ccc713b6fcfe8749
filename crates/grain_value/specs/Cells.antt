-- The cells of a store, each of which is named by its position.
use Rattle.std.specs.Prelude.{ℕ, suc, max, Bool, true, false, ◌&&◌, not, List, Option, Some, None, slice_get, if◌then◌else◌}
use Rattle.grain_value.specs.Tree.{Tree, Trees, Fields, array, dict, pointer, cell, unit, boolean, integer, character, text, blob, range, foreign, no_trees, more_trees, no_fields, more_fields}
use Rattle.grain_value.specs.declared.stores.Cell.{Cell}
use Rattle.grain_value.specs.declared.values.Held.{Held}
use Rattle.grain_value.specs.declared.values.Dynamic.{Dynamic}
use Rattle.grain_value.specs.declared.values.Dynamic.TheVariants as dynamic
use Rattle.grain_value.specs.Looking.{cell_of}

-- a cell that holds this and is not lent
abbrev pub idle : Held → Cell
idle h = record { held = h; busy = false }

-- the same cell while its content is lent: unit stands in for it, with its flag
abbrev pub lent : Held → Cell
lent h = record { held = record h { value = dynamic.Unit }; busy = true }

-- whether the cell's content is lent
abbrev pub is_busy : Cell → Bool
is_busy c = c.busy

-- whether the cell's content is read-only
abbrev pub is_read_only : Cell → Bool
is_read_only c = c.held.read_only

-- what a cell has: unit while its content is lent
abbrev pub held_value : Cell → Dynamic
held_value c = c.held.value

-- the same, and unit of a cell that is not there
abbrev pub standing : Option Cell → Dynamic
standing None = dynamic.Unit
standing (Some c) = held_value c

-- what a cell holds, if it is there and its content is not lent
abbrev pub content : Option Cell → Option Dynamic
content None = None
content (Some c) = if c.busy then None else Some c.held.value

-- whether the content of the cell can only be read, if it is there
abbrev pub content_flag : Option Cell → Bool
content_flag None = false
content_flag (Some c) = c.held.read_only

abbrev seen_by : Option ℕ → List Cell → Dynamic → Dynamic
seen_by None cells v = v
seen_by (Some n) cells v = standing (slice_get cells n)

-- a value as its kind is asked for: of a cell it is that of what the cell has
abbrev pub seen : List Cell → Dynamic → Dynamic
seen cells v = seen_by (cell_of v) cells v

abbrev flat_by : Option ℕ → List Cell → Dynamic → Option Dynamic
flat_by None cells v = Some v
flat_by (Some n) cells v = content (slice_get cells n)

-- a value as it is read: of a cell what the cell holds, and nothing where that is lent
abbrev pub flat : List Cell → Dynamic → Option Dynamic
flat cells v = flat_by (cell_of v) cells v

abbrev pub is_cell : Tree → Bool
is_cell unit = false
is_cell (boolean b) = false
is_cell (integer n) = false
is_cell (character c) = false
is_cell (text s) = false
is_cell (array ts) = false
is_cell (blob s) = false
is_cell (dict es) = false
is_cell (pointer name ts) = false
is_cell (range a b i) = false
is_cell (foreign k n) = false
is_cell (cell n) = true

abbrev mutual
  -- no cell stands directly inside an array or a map; the values of a pointer may be cells
  pub is_clean : Tree → Bool
  is_clean unit = true
  is_clean (boolean b) = true
  is_clean (integer n) = true
  is_clean (character c) = true
  is_clean (text s) = true
  is_clean (array ts) = clean_items ts
  is_clean (blob s) = true
  is_clean (dict es) = clean_fields es
  is_clean (pointer name ts) = clean_curry ts
  is_clean (range a b i) = true
  is_clean (foreign k n) = true
  is_clean (cell n) = true

  clean_items : Trees → Bool
  clean_items no_trees = true
  clean_items (more_trees t ts) = not (is_cell t) && (is_clean t && clean_items ts)

  clean_fields : Fields → Bool
  clean_fields no_fields = true
  clean_fields (more_fields k t es) = not (is_cell t) && (is_clean t && clean_fields es)

  clean_curry : Trees → Bool
  clean_curry no_trees = true
  clean_curry (more_trees t ts) = is_clean t && clean_curry ts

abbrev mutual
  -- one more than the greatest cell that a value names, and 0 where it names none
  pub cell_bound : Tree → ℕ
  cell_bound unit = 0
  cell_bound (boolean b) = 0
  cell_bound (integer n) = 0
  cell_bound (character c) = 0
  cell_bound (text s) = 0
  cell_bound (array ts) = items_bound ts
  cell_bound (blob s) = 0
  cell_bound (dict es) = fields_bound es
  cell_bound (pointer name ts) = items_bound ts
  cell_bound (range a b i) = 0
  cell_bound (foreign k n) = 0
  cell_bound (cell n) = suc n

  pub items_bound : Trees → ℕ
  items_bound no_trees = 0
  items_bound (more_trees t ts) = max (cell_bound t) (items_bound ts)

  pub fields_bound : Fields → ℕ
  fields_bound no_fields = 0
  fields_bound (more_fields k t es) = max (cell_bound t) (fields_bound es)
