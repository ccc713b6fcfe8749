-- One more line whose token is clean and names no cell.
use Rattle.std.proofs.Common.{◌≡◌, Bool, true, false, List, [], ◌∷◌, ◌++◌, refl, sym, subst, arith, if◌then◌else◌}
use Rattle.grain_value.specs.View.{tree}
use Rattle.grain_value.specs.Cells.{cell_bound, is_clean}
use Rattle.grain_host.specs.Clean.{both_true, first_true, second_true}
use Rattle.grain_host.specs.Stops.{ArePlain, stops_bound, stops_clean}
use Rattle.grain_host.specs.declared.stop_lines.StopLine.{StopLine}

module _ (l : StopLine) (clean : is_clean (tree l.value) ≡ true)
    (cell_free : cell_bound (tree l.value) ≡ 0) where
  all_clean : (ls : List StopLine) → stops_clean ls ≡ true → stops_clean (ls ++ l ∷ []) ≡ true
  all_clean [] h = both_true (is_clean (tree l.value)) true clean refl
  all_clean (s ∷ ls) h =
      both_true (is_clean (tree s.value)) (stops_clean (ls ++ l ∷ []))
      (first_true (is_clean (tree s.value)) (stops_clean ls) h)
      (all_clean ls (second_true (is_clean (tree s.value)) (stops_clean ls) h))

  no_cell : (ls : List StopLine) → stops_bound ls ≡ 0 → stops_bound (ls ++ l ∷ []) ≡ 0
  no_cell [] h = omega (arith, cell_free)
  no_cell (s ∷ ls) h =
      let rest : stops_bound ls ≡ 0 = omega (arith, h) in omega (arith, h, no_cell ls rest)

  pub plain_after : (added : Bool) (ls after : List StopLine) → ArePlain ls →
      after ≡ (if added then ls ++ l ∷ [] else ls) → ArePlain after
  plain_after true ls after h is =
      subst ArePlain (sym is) (all_clean ls h.0, no_cell ls h.1)
  plain_after false ls after h is = subst ArePlain (sym is) h
