-- What a fragment of a program is, whatever memory holds it. A block holds a list of items, and a
-- clause sees the fragments inside it as trees.
use Rattle.std.specs.Prelude.{ℕ, ◌+◌, List, [], ◌∷◌}

mutual
  pub data FragmentTree : Type 0 where
    -- the constant at an index of the pool of constants
    literal : ℕ → FragmentTree
    -- the variable whose name stands at an index of the pool of names
    variable : ℕ → FragmentTree
    this : FragmentTree
    block : ItemTrees → FragmentTree

  pub data ItemTree : Type 0 where
    -- binds the name at an index of the pool of names to the fragment's value
    binding : ℕ → FragmentTree → ItemTree
    evaluation : FragmentTree → ItemTree

  pub data ItemTrees : Type 0 where
    no_items : ItemTrees
    more_items : ItemTree → ItemTrees → ItemTrees

-- a list of items, as it stands inside a block
abbrev pub pack_items : List ItemTree → ItemTrees
pack_items [] = no_items
pack_items (t ∷ ts) = more_items t (pack_items ts)

-- and back
abbrev pub unpack_items : ItemTrees → List ItemTree
unpack_items no_items = []
unpack_items (more_items t ts) = t ∷ unpack_items ts

-- more than the weight of each block inside
abbrev mutual
  pub fragment_weight : FragmentTree → ℕ
  fragment_weight (literal i) = 0
  fragment_weight (variable i) = 0
  fragment_weight this = 0
  fragment_weight (block ts) = item_weights ts + 1

  pub item_weight : ItemTree → ℕ
  item_weight (binding i t) = fragment_weight t
  item_weight (evaluation t) = fragment_weight t

  pub item_weights : ItemTrees → ℕ
  item_weights no_items = 0
  item_weights (more_items t ts) = item_weight t + item_weights ts + 1
