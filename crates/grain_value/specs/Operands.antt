-- The operands of a frame: held values, the newest last.
use Rattle.std.specs.Prelude.{ℕ, ◌+◌, ◌-◌, List, [], ◌∷◌, ◌++◌, false, length, take, drop, map, slice_index_or}
use Rattle.grain_value.specs.declared.values.Dynamic.{Dynamic}
use Rattle.grain_value.specs.declared.values.Dynamic.TheVariants as dynamic
use Rattle.grain_value.specs.declared.values.Held.{Held}
use Rattle.grain_value.specs.declared.scopes.Entry.{Entry}
use Rattle.grain_value.specs.Scopes.{new_entry}

-- a value, held so that it may be written
abbrev pub read_write : Dynamic → Held
read_write v = record { value = v; read_only = false }

-- the value that is held
abbrev pub value_in : Held → Dynamic
value_in h = h.value

abbrev pub values_in : List Held → List Dynamic
values_in hs = map value_in hs

-- the last operand, or unit if there is none
abbrev pub top : List Held → Held
top [] = read_write dynamic.Unit
top (x ∷ []) = x
top (x ∷ y ∷ xs) = top (y ∷ xs)

-- all operands but the last one
abbrev pub below : List Held → List Held
below xs = take (length xs - 1) xs

-- all operands but the last n
abbrev pub under : ℕ → List Held → List Held
under n xs = take (length xs - n) xs

-- the last n operands
abbrev pub arguments : ℕ → List Held → List Held
arguments n xs = drop (length xs - n) xs

-- the last operand moved below n others
abbrev pub rotated : ℕ → List Held → List Held
rotated n xs =
    let others = drop (length xs - (n + 1)) xs in take (length xs - (n + 1)) xs ++ drop n others ++
    take n others

-- what stays where a value was taken: one that owns no memory
abbrev pub left_behind : Dynamic → Dynamic
left_behind dynamic.Unit = dynamic.Unit
left_behind (dynamic.Bool b) = dynamic.Bool b
left_behind (dynamic.Int n) = dynamic.Int n
left_behind (dynamic.Char c) = dynamic.Char c
left_behind (dynamic.Text t) = dynamic.Unit
left_behind (dynamic.Array ts) = dynamic.Unit
left_behind (dynamic.Blob s) = dynamic.Unit
left_behind (dynamic.Map es) = dynamic.Unit
left_behind (dynamic.Pointer p) = dynamic.Unit
left_behind (dynamic.Range from to inclusive) = dynamic.Range from to inclusive
left_behind (dynamic.Foreign kind number) = dynamic.Foreign kind number
left_behind (dynamic.Cell number) = dynamic.Cell number

-- an operand as an entry of a scope, which can be written, under the name of an index
abbrev pub bound_entry : List (List ℕ) → ℕ → Held → Entry
bound_entry names n h = new_entry (slice_index_or names n []) (read_write h.value)

-- operands as the entries of a scope, under the names of the indices
abbrev pub bound_entries : List (List ℕ) → List ℕ → List Held → List Entry
bound_entries names [] hs = []
bound_entries names (n ∷ ns) [] = []
bound_entries names (n ∷ ns) (h ∷ hs) = bound_entry names n h ∷ bound_entries names ns hs
