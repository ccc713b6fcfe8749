-- A value and its tree give each other back, so values are equal where their trees are.
use Rattle.std.specs.Prelude.{◌≡◌, ℕ, List, [], ◌∷◌, refl}
use Rattle.std.proofs.Common.{sym, ap, ◌∙◌}
use Rattle.grain_value.specs.Tree.{Tree, Trees, Fields, unit, boolean, integer, character, text, array, blob, dict, pointer, range, foreign, cell, no_trees, more_trees, no_fields, more_fields, pack, pack_fields, unpack, unpack_fields}
use Rattle.grain_value.specs.View.{tree, value_of}
use Rattle.grain_value.specs.declared.values.Dynamic.{Dynamic}
use Rattle.grain_value.specs.declared.values.Dynamic.TheVariants.{Unit, Bool, Int, Char, Text, Array, Blob, Map, Pointer, Range, Foreign, Cell}

pub unpack-pack : (ts : List Tree) → unpack (pack ts) ≡ ts
unpack-pack [] = refl
unpack-pack (t ∷ ts) = ap (λ l. t ∷ l) (unpack-pack ts)

pub pack-unpack : (ts : Trees) → pack (unpack ts) ≡ ts
pack-unpack no_trees = refl
pack-unpack (more_trees t ts) = ap (more_trees t) (pack-unpack ts)

pub unpack-pack_fields : (es : List (List ℕ × Tree)) → unpack_fields (pack_fields es) ≡ es
unpack-pack_fields [] = refl
unpack-pack_fields (e ∷ es) = ap (λ l. e ∷ l) (unpack-pack_fields es)

pub pack-unpack_fields : (es : Fields) → pack_fields (unpack_fields es) ≡ es
pack-unpack_fields no_fields = refl
pack-unpack_fields (more_fields k t es) = ap (more_fields k t) (pack-unpack_fields es)

pub value_of-tree : (d : Dynamic) → value_of (tree d) ≡ d
value_of-tree Unit = refl
value_of-tree (Bool b) = refl
value_of-tree (Int n) = refl
value_of-tree (Char c) = refl
value_of-tree (Text s) = refl
value_of-tree (Array ts) = ap Array (unpack-pack ts)
value_of-tree (Blob s) = refl
value_of-tree (Map es) = ap Map (unpack-pack_fields es)
value_of-tree (Pointer p) =
    ap (λ ts. Pointer (record { name = p.name; curry = ts })) (unpack-pack p.curry)
value_of-tree (Range a b i) = refl
value_of-tree (Foreign k n) = refl
value_of-tree (Cell n) = refl

pub tree-value_of : (t : Tree) → tree (value_of t) ≡ t
tree-value_of unit = refl
tree-value_of (boolean b) = refl
tree-value_of (integer n) = refl
tree-value_of (character c) = refl
tree-value_of (text s) = refl
tree-value_of (array ts) = ap array (pack-unpack ts)
tree-value_of (blob s) = refl
tree-value_of (dict es) = ap dict (pack-unpack_fields es)
tree-value_of (pointer name ts) = ap (pointer name) (pack-unpack ts)
tree-value_of (range a b i) = refl
tree-value_of (foreign k n) = refl
tree-value_of (cell n) = refl

pub tree_inj : (d e : Dynamic) → tree d ≡ tree e → d ≡ e
tree_inj d e h = sym (value_of-tree d) ∙ ap value_of h ∙ value_of-tree e

pub value_is : (d : Dynamic) (t : Tree) → tree d ≡ t → d ≡ value_of t
value_is d t h = sym (value_of-tree d) ∙ ap value_of h
