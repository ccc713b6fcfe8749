-- What a value is, whatever memory holds it. A value holds lists of values, and a clause sees those
-- inside it as trees.
use Rattle.std.specs.Prelude.{ℕ, ◌+◌, ℤ, Bool, List, [], ◌∷◌}

mutual
  pub data Tree : Type 0 where
    unit : Tree
    boolean : Bool → Tree
    integer : ℤ → Tree
    -- a code point
    character : ℕ → Tree
    -- bytes, which are UTF-8
    text : List ℕ → Tree
    array : Trees → Tree
    blob : List ℕ → Tree
    -- keys, which are UTF-8, with their values; the keys ascend
    dict : Fields → Tree
    -- a function's name, and the values that stand before its arguments
    pointer : List ℕ → Trees → Tree
    -- from, to, and whether the range has its end
    range : ℤ → ℤ → Bool → Tree
    -- a host's value: its kind and its number
    foreign : ℕ → ℕ → Tree
    -- a cell of the store, by its number
    cell : ℕ → Tree

  pub data Trees : Type 0 where
    no_trees : Trees
    more_trees : Tree → Trees → Trees

  pub data Fields : Type 0 where
    no_fields : Fields
    more_fields : List ℕ → Tree → Fields → Fields

-- a list of values, as it stands inside a value
abbrev pub pack : List Tree → Trees
pack [] = no_trees
pack (t ∷ ts) = more_trees t (pack ts)

abbrev pub pack_fields : List (List ℕ × Tree) → Fields
pack_fields [] = no_fields
pack_fields (e ∷ es) = more_fields e.0 e.1 (pack_fields es)

-- and back
abbrev pub unpack : Trees → List Tree
unpack no_trees = []
unpack (more_trees t ts) = t ∷ unpack ts

abbrev pub unpack_fields : Fields → List (List ℕ × Tree)
unpack_fields no_fields = []
unpack_fields (more_fields k t es) = (k, t) ∷ unpack_fields es

-- more than the weight of each value inside
abbrev mutual
  pub weight : Tree → ℕ
  weight unit = 0
  weight (boolean b) = 0
  weight (integer n) = 0
  weight (character c) = 0
  weight (text s) = 0
  weight (array ts) = weights ts + 1
  weight (blob s) = 0
  weight (dict es) = field_weights es + 1
  weight (pointer name ts) = weights ts + 1
  weight (range a b i) = 0
  weight (foreign k n) = 0
  weight (cell n) = 0

  pub weights : Trees → ℕ
  weights no_trees = 0
  weights (more_trees t ts) = weight t + weights ts + 1

  pub field_weights : Fields → ℕ
  field_weights no_fields = 0
  field_weights (more_fields k t es) = weight t + field_weights es + 1
