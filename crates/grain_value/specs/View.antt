-- The tree of a value, and the value of a tree.
use Rattle.std.specs.Prelude.{ℕ, List, map, String, string_bytes}
use Rattle.std.specs.declared.alloc.Global.{Global}
use Rattle.grain_value.specs.Tree.{Tree, unit, boolean, integer, character, text, array, blob, dict, pointer, range, foreign, cell, pack, pack_fields, unpack, unpack_fields}
use Rattle.grain_value.specs.declared.values.Dynamic.{Dynamic}
use Rattle.grain_value.specs.declared.values.Dynamic.TheVariants.{Unit, Bool, Int, Char, Text, Array, Blob, Map, Pointer, Range, Foreign, Cell}

abbrev pub tree : Dynamic → Tree
tree Unit = unit
tree (Bool b) = boolean b
tree (Int n) = integer n
tree (Char c) = character c
tree (Text s) = text s
tree (Array ts) = array (pack ts)
tree (Blob s) = blob s
tree (Map es) = dict (pack_fields es)
tree (Pointer p) = pointer p.name (pack p.curry)
tree (Range from to inclusive) = range from to inclusive
tree (Foreign kind number) = foreign kind number
tree (Cell number) = cell number

-- the value that a tree is
abbrev pub value_of : Tree → Dynamic
value_of unit = Unit
value_of (boolean b) = Bool b
value_of (integer n) = Int n
value_of (character c) = Char c
value_of (text s) = Text s
value_of (array ts) = Array (unpack ts)
value_of (blob s) = Blob s
value_of (dict es) = Map (unpack_fields es)
value_of (pointer name ts) = Pointer (record { name = name; curry = unpack ts })
value_of (range a b i) = Range a b i
value_of (foreign k n) = Foreign k n
value_of (cell n) = Cell n

abbrev pub trees : List Dynamic → List Tree
trees ds = map tree ds

abbrev pub entry : String Global × Dynamic → List ℕ × Tree
entry e = (string_bytes e.0, tree e.1)

abbrev pub entries_view : List (String Global × Dynamic) → List (List ℕ × Tree)
entries_view es = map entry es
