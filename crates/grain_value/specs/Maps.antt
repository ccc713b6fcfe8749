-- A map's pairs of key and value, in ascending order of key by bytes.
use Rattle.std.specs.Prelude.{ℕ, List, Option}
use Rattle.std.specs.Ordering.{nat_cmp}
use Rattle.std.specs.Cmp.Lexicographic.{slice_cmp}
use Rattle.std.specs.List.Sorted.{IsStrictlySortedBy}
use Rattle.std.specs.Map.{keys_of, lookup}
use Rattle.std.specs.BTreeMap.{insert_entry, is_at}
use Rattle.grain_value.specs.Tree.{Tree}

abbrev pub Entries : Type 0
Entries = List (List ℕ × Tree)

-- the value at the key
abbrev pub entry_at : List ℕ → Entries → Option Tree
entry_at key es = lookup (is_at (slice_cmp nat_cmp key)) es

-- the pairs, with the value at the key
abbrev pub put_entry : List ℕ → Tree → Entries → Entries
put_entry key t es = insert_entry (slice_cmp nat_cmp) es key t

-- the keys ascend
abbrev pub IsAscending : Entries → Type 0
IsAscending es = IsStrictlySortedBy (slice_cmp nat_cmp) (keys_of es)
