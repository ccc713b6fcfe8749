-- How much a value holds: the elements of arrays, the values of maps, and the bytes of texts.
use Rattle.std.specs.Prelude.{ℕ, ◌+◌, ◌-◌, ◌^◌, Bool, ◌&&◌, ◌||◌, List, Option, Some, None, length, min, nat_lt, codes, if◌then◌else◌}
use Rattle.grain_value.specs.Tree.{Tree, Trees, Fields, unit, boolean, integer, character, text, array, blob, dict, pointer, range, foreign, cell, no_trees, more_trees, no_fields, more_fields, pack, pack_fields}
use Rattle.grain_value.specs.Maps.{Entries}
use Rattle.grain_value.specs.declared.values.Dynamic.{Dynamic}
use Rattle.grain_value.specs.declared.values.Dynamic.TheVariants as dynamic
use Rattle.grain_value.specs.declared.values.Limits.{Limits}
use Rattle.grain_value.specs.declared.stores.Cell.{Cell}
use Rattle.grain_value.specs.Cells.{flat}

-- elements of arrays, values of maps, bytes of texts: numbers without a greatest
abbrev pub Sizes : Type 0
Sizes = ℕ × ℕ × ℕ

abbrev pub nothing : Sizes
nothing = (0, 0, 0)

abbrev pub one_element : Sizes
one_element = (1, 0, 0)

abbrev pub one_value : Sizes
one_value = (0, 1, 0)

abbrev pub plus : Sizes → Sizes → Sizes
plus a b = (a.0 + b.0, a.1 + b.1, a.2 + b.2)

abbrev mutual
  -- what a value adds to the array or the map in which it stands, beside its place there; a blob is
  -- counted as an array that stands there
  pub inner_sizes : Tree → Sizes
  inner_sizes unit = nothing
  inner_sizes (boolean b) = nothing
  inner_sizes (integer n) = nothing
  inner_sizes (character c) = nothing
  inner_sizes (text s) = (0, 0, length s)
  inner_sizes (array ts) = element_sizes ts
  inner_sizes (blob s) = (length s + 1, 0, 0)
  inner_sizes (dict es) = field_sizes es
  inner_sizes (pointer name ts) = nothing
  inner_sizes (range a b i) = nothing
  inner_sizes (foreign k n) = nothing
  inner_sizes (cell n) = nothing

  pub element_sizes : Trees → Sizes
  element_sizes no_trees = nothing
  element_sizes (more_trees t ts) = plus (plus one_element (inner_sizes t)) (element_sizes ts)

  pub field_sizes : Fields → Sizes
  field_sizes no_fields = nothing
  field_sizes (more_fields k t es) = plus (plus one_value (inner_sizes t)) (field_sizes es)

abbrev pub array_sizes : List Tree → Sizes
array_sizes ts = element_sizes (pack ts)

abbrev pub map_sizes : Entries → Sizes
map_sizes es = field_sizes (pack_fields es)

-- the sizes of a value that stands in no other and is no cell
abbrev pub plain_sizes : Dynamic → Sizes
plain_sizes dynamic.Unit = nothing
plain_sizes (dynamic.Bool b) = nothing
plain_sizes (dynamic.Int n) = nothing
plain_sizes (dynamic.Char c) = nothing
plain_sizes (dynamic.Text t) = (0, 0, length t)
plain_sizes (dynamic.Array ts) = array_sizes ts
plain_sizes (dynamic.Blob s) = (length s, 0, 0)
plain_sizes (dynamic.Map es) = map_sizes es
plain_sizes (dynamic.Pointer p) = nothing
plain_sizes (dynamic.Range from to inclusive) = nothing
plain_sizes (dynamic.Foreign kind number) = nothing
plain_sizes (dynamic.Cell number) = nothing

abbrev sizes_if_read : Option Dynamic → Sizes
sizes_if_read None = nothing
sizes_if_read (Some v) = plain_sizes v

-- the sizes of a value that stands in no other: a cell is measured by what it holds, and counts
-- nothing while its content is lent or where there is no such cell
abbrev pub data_sizes : List Cell → Dynamic → Sizes
data_sizes cells v = sizes_if_read (flat cells v)

-- a number as a `usize` counts: it stops at the greatest
abbrev pub stopped : ℕ → ℕ
stopped n = min n (2 ^ 64 - 1)

abbrev pub counted : Sizes → Sizes
counted p = (stopped p.0, stopped p.1, stopped p.2)

-- whether a number is over a limit; a limit of 0 is none
abbrev pub is_over : (limit n : ℕ) → Bool
is_over limit n = nat_lt 0 limit && nat_lt limit n

-- whether any size of values is limited
abbrev pub limits_sizes : Limits → Bool
limits_sizes l = nat_lt 0 l.text || (nat_lt 0 l.array || nat_lt 0 l.map)

-- what is over its limit: the texts, or else the arrays, or else the maps
abbrev pub too_large : Limits → Sizes → Option (List ℕ)
too_large l s =
    if is_over l.text s.2 then Some (codes "Length of string") else
    if is_over l.array s.0 then Some (codes "Size of array/BLOB") else
    if is_over l.map s.1 then Some (codes "Size of object map") else None
