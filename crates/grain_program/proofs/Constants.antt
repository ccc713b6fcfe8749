-- A constant that stands in its pool.
use Rattle.std.proofs.Common.{◌≡◌, ◌∙◌, ℕ, zero, suc, List, [], ◌∷◌, Some, slice_get, slice_index_or, sym, ap}
use Rattle.grain_value.specs.Tree.{Tree, unit}
use Rattle.grain_value.specs.View.{tree, value_of}
use Rattle.grain_value.specs.laws.Same.{value_of-tree}
use Rattle.grain_value.specs.declared.values.Dynamic.{Dynamic}

-- the entry that is there is the entry, whatever stands past the end
there : (ts : List Tree) (i : ℕ) (t : Tree) → slice_get ts i ≡ Some t →
    slice_index_or ts i unit ≡ t
there [] i t e = absurd cc
there (x ∷ ts) zero t e = cc
there (x ∷ ts) (suc i) t e = there ts i t e

pub constant_at : (ts : List Tree) (i : ℕ) (v : Dynamic) → slice_get ts i ≡ Some (tree v) →
    v ≡ value_of (slice_index_or ts i unit)
constant_at ts i v e = sym (value_of-tree v) ∙ ap value_of (sym (there ts i (tree v) e))
