-- Labels with their addresses, in ascending order of label.
use Rattle.std.specs.Prelude.{ℕ, List, Option}
use Rattle.std.specs.Ordering.{nat_cmp}
use Rattle.std.specs.Cmp.Lexicographic.{slice_cmp}
use Rattle.std.specs.Map.{lookup}
use Rattle.std.specs.BTreeMap.{insert_entry, is_at}

abbrev pub Addresses : Type 0
Addresses = List (List ℕ × ℕ)

-- the address of the label, where it is known
abbrev pub address_of : List ℕ → Addresses → Option ℕ
address_of label known = lookup (is_at (slice_cmp nat_cmp label)) known

-- the labels with one more
abbrev pub with_label : List ℕ → ℕ → Addresses → Addresses
with_label label address known = insert_entry (slice_cmp nat_cmp) known label address
