-- Each value inside a value weighs less.
use Rattle.std.specs.Prelude.{◌≤◌, max, List, [], ◌∷◌, map, String}
use Rattle.std.specs.declared.alloc.Global.{Global}
use Rattle.std.proofs.Common.{arith}
use denote.Param.Weighed.{most}
use Rattle.grain_value.specs.Tree.{weight, weights, field_weights, pack, pack_fields}
use Rattle.grain_value.specs.View.{tree, trees, entries_view}
use Rattle.grain_value.specs.declared.values.Dynamic.{Dynamic}
use Rattle.grain_value.specs.declared.values.Dynamic.TheVariants.{Unit, Bool, Int, Char, Text, Array, Blob, Map, Pointer, Range, Foreign, Cell}
use Rattle.grain_value.specs.declared.values.Array.TheDeep.{deep-Dynamic}

pub deep_le-weight : (d : Dynamic) → deep-Dynamic d ≤ weight (tree d)
deep_le-weight Unit = omega arith
deep_le-weight (Bool b) = omega arith
deep_le-weight (Int n) = omega arith
deep_le-weight (Char c) = omega arith
deep_le-weight (Text s) = omega arith
deep_le-weight (Array ts) = omega arith
deep_le-weight (Blob s) = omega arith
deep_le-weight (Map es) = omega arith
deep_le-weight (Pointer p) = omega arith
deep_le-weight (Range a b i) = omega arith
deep_le-weight (Foreign k n) = omega arith
deep_le-weight (Cell n) = omega arith

pub most_le-weights : (ds : List Dynamic) → most (λ d. deep-Dynamic d) ds ≤
    weights (pack (trees ds))
most_le-weights [] = omega arith
most_le-weights (d ∷ ds) = omega (arith, deep_le-weight d, most_le-weights ds)

pub depth_le-weights : (ds : List Dynamic) → max (most (λ d. deep-Dynamic d) ds) 0 ≤
    weights (pack (trees ds))
depth_le-weights ds = omega (arith, most_le-weights ds)

pub most_le-field_weights : (es : List (String Global × Dynamic)) →
    most (λ d. deep-Dynamic d) (map (λ e. e.1) es) ≤ field_weights (pack_fields (entries_view es))
most_le-field_weights [] = omega arith
most_le-field_weights (e ∷ es) = omega (arith, deep_le-weight e.1, most_le-field_weights es)

pub depth_le-field_weights : (es : List (String Global × Dynamic)) →
    max (most (λ d. deep-Dynamic d) (map (λ e. e.1) es)) 0 ≤
    field_weights (pack_fields (entries_view es))
depth_le-field_weights es = omega (arith, most_le-field_weights es)
