-- A path leads from a value to one inside it: at each step to an element of an array, or to the value
-- at a key of a map.
use Rattle.std.specs.Prelude.{ℕ, ◌-◌, ◌^◌, min, ℤ, pos, List, [], ◌∷◌, Option, Some, None, Result, Ok, Err, slice_get, slice_set, length, IsOk}
use Rattle.std.specs.Ordering.{nat_cmp}
use Rattle.std.specs.Cmp.Lexicographic.{slice_cmp}
use Rattle.std.specs.Map.{set_value}
use Rattle.std.specs.BTreeMap.{is_at}
use Rattle.grain_value.specs.Tree.{Tree, array, dict, pack, pack_fields, unpack, unpack_fields}
use Rattle.grain_value.specs.View.{tree, value_of}
use Rattle.grain_value.specs.Maps.{Entries, entry_at}
use Rattle.grain_value.specs.declared.values.Dynamic.{Dynamic}
use Rattle.grain_value.specs.declared.values.paths.PathStep.{PathStep}
use Rattle.grain_value.specs.declared.values.paths.PathStep.TheVariants.{Index, Key}
use Rattle.grain_value.specs.declared.values.value_faults.ValueFault.{ValueFault}
use Rattle.grain_value.specs.declared.values.value_faults.ValueFault.TheVariants.{Bounds, NoKey, NotIndexable}

-- an index as a fault reports it: one past the integers is the greatest of them
abbrev pub reported : ℕ → ℤ
reported i = pos (min i (2 ^ 63 - 1))

-- the element at index i of n, if it is there
abbrev pub element : Option Tree → ℕ → ℕ → Result Tree ValueFault
element (Some t) n i = Ok t
element None n i = Err (Bounds n (reported i))

-- the value at a key, if it is there
abbrev pub keyed : Option Tree → Result Tree ValueFault
keyed (Some t) = Ok t
keyed None = Err NoKey

-- the value one step down
abbrev pub child : PathStep → Tree → Result Tree ValueFault
child (Index i) (array ts) = element (slice_get (unpack ts) i) (length (unpack ts)) i
child (Key k) (dict es) = keyed (entry_at k (unpack_fields es))
child s t = Err NotIndexable

-- the pairs, with a value at a key that is there
abbrev pub set_entry : List ℕ → Tree → Entries → Entries
set_entry key t es = set_value (is_at (slice_cmp nat_cmp key)) es t

-- a value, with another one step down, where one is there
abbrev pub set_child : PathStep → Tree → Tree → Tree
set_child (Index i) c (array ts) = array (pack (slice_set (unpack ts) i c))
set_child (Key k) c (dict es) = dict (pack_fields (set_entry k c (unpack_fields es)))
set_child s c t = t

abbrev pub and_then : (Tree → Result Tree ValueFault) → Result Tree ValueFault →
    Result Tree ValueFault
and_then f (Ok t) = f t
and_then f (Err e) = Err e

-- the value at the end of a path, or why there is none
abbrev pub at : List PathStep → Tree → Result Tree ValueFault
at [] t = Ok t
at (s ∷ p) t = and_then (λ c. at p c) (child s t)

abbrev pub or_same : (Tree → Tree) → Tree → Result Tree ValueFault → Tree
or_same f t (Ok c) = f c
or_same f t (Err e) = t

-- a value, with another at the end of a path, where the path leads somewhere
abbrev pub put : List PathStep → Tree → Tree → Tree
put [] new t = new
put (s ∷ p) new t = or_same (λ c. set_child s (put p new c) t) t (child s t)

-- a path leads to a value
abbrev pub Leads : List PathStep → Tree → Type 0
Leads p t = IsOk (at p t)

-- the same for a value
abbrev pub put_value : List PathStep → Dynamic → Dynamic → Dynamic
put_value p new d = value_of (put p (tree new) (tree d))
