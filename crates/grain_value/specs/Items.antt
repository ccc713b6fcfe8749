-- What a loop goes over: the items of a value, one after the other.
use Rattle.std.specs.Prelude.{ℕ, zero, suc, ℤ, pos, negsuc, ◌+ℤ◌, ◌-ℤ◌, Bool, List, [], ◌∷◌, Option, Some, None, map, if◌then◌else◌}
use Rattle.std.specs.Str.{chars}
use Rattle.grain_value.specs.Tree.{Tree, integer, character}
use Rattle.grain_value.specs.declared.values.Dynamic.{Dynamic}
use Rattle.grain_value.specs.declared.values.Dynamic.TheVariants as dynamic

-- the n integers from this one on
abbrev pub integers_from : ℤ → ℕ → List Tree
integers_from from zero = []
integers_from from (suc n) = integer from ∷ integers_from (from +ℤ pos 1) n

-- an integer, or 0 for one below it
abbrev pub at_least_zero : ℤ → ℕ
at_least_zero (pos n) = n
at_least_zero (negsuc n) = 0

-- how many integers a range has: none if it goes backwards
abbrev pub range_length : ℤ → ℤ → Bool → ℕ
range_length from to inclusive =
    at_least_zero ((if inclusive then to +ℤ pos 1 else to) -ℤ from)

-- the integers of a range, ascending
abbrev pub integers_in : ℤ → ℤ → Bool → List Tree
integers_in from to inclusive = integers_from from (range_length from to inclusive)

-- the items of an array, of a text (its characters), of a byte string (its bytes, as integers) and of a
-- range; no other value has items
abbrev pub items_of : Dynamic → Option (List Tree)
items_of dynamic.Unit = None
items_of (dynamic.Bool b) = None
items_of (dynamic.Int n) = None
items_of (dynamic.Char c) = None
items_of (dynamic.Text s) = Some (map character (chars s))
items_of (dynamic.Array ts) = Some ts
items_of (dynamic.Blob s) = Some (map (λ b. integer (pos b)) s)
items_of (dynamic.Map es) = None
items_of (dynamic.Pointer p) = None
items_of (dynamic.Range from to inclusive) = Some (integers_in from to inclusive)
items_of (dynamic.Foreign kind number) = None
items_of (dynamic.Cell number) = None
