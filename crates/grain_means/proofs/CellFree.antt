-- A value that names no cell is clean.
use Rattle.std.proofs.Common.{◌≡◌, ℕ, Bool, true, not, ◌&&◌, List, refl, arith}
use Rattle.std.proofs.Math.Nat.{le-max_left, le-max_right}
use Rattle.grain_value.specs.Cells.{cell_bound, fields_bound, is_cell, is_clean, items_bound}
use Rattle.grain_value.specs.Tree.{Tree, Trees, Fields, array, dict, pointer, cell, unit, boolean, integer, character, text, blob, range, foreign, no_trees, more_trees, no_fields, more_fields}
use Rattle.grain_value.specs.View.{tree}
use Rattle.grain_value.specs.declared.values.Dynamic.{Dynamic}
use Rattle.grain_host.specs.Clean.{both_true}
use Rattle.grain_means.specs.Contained.{Names}

-- a tree that names no cell is none
none_here : (t : Tree) → cell_bound t ≡ 0 → not (is_cell t) ≡ true
none_here unit e = refl
none_here (boolean b) e = refl
none_here (integer n) e = refl
none_here (character c) e = refl
none_here (text s) e = refl
none_here (array ts) e = refl
none_here (blob s) e = refl
none_here (dict es) e = refl
none_here (pointer name ts) e = refl
none_here (range a b i) e = refl
none_here (foreign k n) e = refl
none_here (cell n) e = absurd cc

-- what names no cell is clean
mutual
  no_cells : (t : Tree) → cell_bound t ≡ 0 → is_clean t ≡ true
  no_cells unit e = refl
  no_cells (boolean b) e = refl
  no_cells (integer n) e = refl
  no_cells (character c) e = refl
  no_cells (text s) e = refl
  no_cells (array ts) e = no_items ts e
  no_cells (blob s) e = refl
  no_cells (dict es) e = no_fields_in es e
  no_cells (pointer name ts) e = no_curry name ts e
  no_cells (range a b i) e = refl
  no_cells (foreign k n) e = refl
  no_cells (cell n) e = refl

  no_items : (ts : Trees) → items_bound ts ≡ 0 → is_clean (array ts) ≡ true
  no_items no_trees e = refl
  no_items (more_trees t ts) e =
      let here : cell_bound t ≡ 0 =
      omega (arith, e, le-max_left (cell_bound t) (items_bound ts)) in
      let later : items_bound ts ≡ 0 =
      omega (arith, e, le-max_right (cell_bound t) (items_bound ts)) in
      both_true (not (is_cell t)) (is_clean t && is_clean (array ts)) (none_here t here)
      (both_true (is_clean t) (is_clean (array ts)) (no_cells t here) (no_items ts later))

  no_fields_in : (es : Fields) → fields_bound es ≡ 0 → is_clean (dict es) ≡ true
  no_fields_in no_fields e = refl
  no_fields_in (more_fields k t es) e =
      let here : cell_bound t ≡ 0 =
      omega (arith, e, le-max_left (cell_bound t) (fields_bound es)) in
      let later : fields_bound es ≡ 0 =
      omega (arith, e, le-max_right (cell_bound t) (fields_bound es)) in
      both_true (not (is_cell t)) (is_clean t && is_clean (dict es)) (none_here t here)
      (both_true (is_clean t) (is_clean (dict es)) (no_cells t here) (no_fields_in es later))

  no_curry : (name : List ℕ) (ts : Trees) → items_bound ts ≡ 0 →
      is_clean (pointer name ts) ≡ true
  no_curry name no_trees e = refl
  no_curry name (more_trees t ts) e =
      both_true (is_clean t) (is_clean (pointer name ts))
      (no_cells t (omega (arith, e, le-max_left (cell_bound t) (items_bound ts))))
      (no_curry name ts (omega (arith, e, le-max_right (cell_bound t) (items_bound ts))))

pub none_names : (clean : Bool) (n : ℕ) (v : Dynamic) → cell_bound (tree v) ≡ 0 →
    Names clean n v
none_names clean n v none = (omega (arith, none), λ s. no_cells (tree v) none)
