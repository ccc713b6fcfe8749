-- What a value is, if it is of one kind.
use Rattle.std.specs.Prelude.{ℕ, ℤ, Bool, true, false, List, Option, Some, None}
use Rattle.grain_value.specs.Maps.{Entries}
use Rattle.grain_value.specs.declared.values.Dynamic.{Dynamic}
use Rattle.grain_value.specs.declared.values.FnPtr.{FnPtr}
use Rattle.grain_value.specs.declared.values.Dynamic.TheVariants as dynamic

-- whether the value is unit
abbrev pub is_unit : Dynamic → Bool
is_unit dynamic.Unit = true
is_unit (dynamic.Bool b) = false
is_unit (dynamic.Int n) = false
is_unit (dynamic.Char c) = false
is_unit (dynamic.Text t) = false
is_unit (dynamic.Array ts) = false
is_unit (dynamic.Blob s) = false
is_unit (dynamic.Map es) = false
is_unit (dynamic.Pointer p) = false
is_unit (dynamic.Range from to inclusive) = false
is_unit (dynamic.Foreign kind number) = false
is_unit (dynamic.Cell number) = false

-- the truth value, if it is one
abbrev pub truth_of : Dynamic → Option Bool
truth_of dynamic.Unit = None
truth_of (dynamic.Bool b) = Some b
truth_of (dynamic.Int n) = None
truth_of (dynamic.Char c) = None
truth_of (dynamic.Text t) = None
truth_of (dynamic.Array ts) = None
truth_of (dynamic.Blob s) = None
truth_of (dynamic.Map es) = None
truth_of (dynamic.Pointer p) = None
truth_of (dynamic.Range from to inclusive) = None
truth_of (dynamic.Foreign kind number) = None
truth_of (dynamic.Cell number) = None

-- the integer, if it is one
abbrev pub integer_of : Dynamic → Option ℤ
integer_of dynamic.Unit = None
integer_of (dynamic.Bool b) = None
integer_of (dynamic.Int n) = Some n
integer_of (dynamic.Char c) = None
integer_of (dynamic.Text t) = None
integer_of (dynamic.Array ts) = None
integer_of (dynamic.Blob s) = None
integer_of (dynamic.Map es) = None
integer_of (dynamic.Pointer p) = None
integer_of (dynamic.Range from to inclusive) = None
integer_of (dynamic.Foreign kind number) = None
integer_of (dynamic.Cell number) = None

-- the character, if it is one
abbrev pub character_of : Dynamic → Option ℕ
character_of dynamic.Unit = None
character_of (dynamic.Bool b) = None
character_of (dynamic.Int n) = None
character_of (dynamic.Char c) = Some c
character_of (dynamic.Text t) = None
character_of (dynamic.Array ts) = None
character_of (dynamic.Blob s) = None
character_of (dynamic.Map es) = None
character_of (dynamic.Pointer p) = None
character_of (dynamic.Range from to inclusive) = None
character_of (dynamic.Foreign kind number) = None
character_of (dynamic.Cell number) = None

-- the text, if it is one
abbrev pub text_of : Dynamic → Option (List ℕ)
text_of dynamic.Unit = None
text_of (dynamic.Bool b) = None
text_of (dynamic.Int n) = None
text_of (dynamic.Char c) = None
text_of (dynamic.Text t) = Some t
text_of (dynamic.Array ts) = None
text_of (dynamic.Blob s) = None
text_of (dynamic.Map es) = None
text_of (dynamic.Pointer p) = None
text_of (dynamic.Range from to inclusive) = None
text_of (dynamic.Foreign kind number) = None
text_of (dynamic.Cell number) = None

-- the pairs of the map, if it is one
abbrev pub map_of : Dynamic → Option Entries
map_of dynamic.Unit = None
map_of (dynamic.Bool b) = None
map_of (dynamic.Int n) = None
map_of (dynamic.Char c) = None
map_of (dynamic.Text t) = None
map_of (dynamic.Array ts) = None
map_of (dynamic.Blob s) = None
map_of (dynamic.Map es) = Some es
map_of (dynamic.Pointer p) = None
map_of (dynamic.Range from to inclusive) = None
map_of (dynamic.Foreign kind number) = None
map_of (dynamic.Cell number) = None

-- whether the value owns no memory
abbrev pub owns_no_memory : Dynamic → Bool
owns_no_memory dynamic.Unit = true
owns_no_memory (dynamic.Bool b) = true
owns_no_memory (dynamic.Int n) = true
owns_no_memory (dynamic.Char c) = true
owns_no_memory (dynamic.Text t) = false
owns_no_memory (dynamic.Array ts) = false
owns_no_memory (dynamic.Blob s) = false
owns_no_memory (dynamic.Map es) = false
owns_no_memory (dynamic.Pointer p) = false
owns_no_memory (dynamic.Range from to inclusive) = true
owns_no_memory (dynamic.Foreign kind number) = true
owns_no_memory (dynamic.Cell number) = true

-- the number of the cell, if it is one
abbrev pub cell_of : Dynamic → Option ℕ
cell_of dynamic.Unit = None
cell_of (dynamic.Bool b) = None
cell_of (dynamic.Int n) = None
cell_of (dynamic.Char c) = None
cell_of (dynamic.Text t) = None
cell_of (dynamic.Array ts) = None
cell_of (dynamic.Blob s) = None
cell_of (dynamic.Map es) = None
cell_of (dynamic.Pointer p) = None
cell_of (dynamic.Range from to inclusive) = None
cell_of (dynamic.Foreign kind number) = None
cell_of (dynamic.Cell number) = Some number

-- the pointer, if it is one
abbrev pub pointer_of : Dynamic → Option FnPtr
pointer_of dynamic.Unit = None
pointer_of (dynamic.Bool b) = None
pointer_of (dynamic.Int n) = None
pointer_of (dynamic.Char c) = None
pointer_of (dynamic.Text t) = None
pointer_of (dynamic.Array ts) = None
pointer_of (dynamic.Blob s) = None
pointer_of (dynamic.Map es) = None
pointer_of (dynamic.Pointer p) = Some p
pointer_of (dynamic.Range from to inclusive) = None
pointer_of (dynamic.Foreign kind number) = None
pointer_of (dynamic.Cell number) = None
