-- The lines at which a run ends, each with its token.
use Rattle.std.specs.Prelude.{ℕ, ◌≡◌, max, Bool, true, ◌&&◌, List, [], ◌∷◌, Option, Some, None, ◌==◌, if◌then◌else◌}
use Rattle.grain_value.specs.View.{tree}
use Rattle.grain_value.specs.Cells.{cell_bound, is_clean}
use Rattle.grain_value.specs.declared.values.Dynamic.{Dynamic}
use Rattle.grain_host.specs.declared.stop_lines.StopLine.{StopLine}

-- the value of the first line for the number
abbrev pub stop_at : ℕ → List StopLine → Option Dynamic
stop_at n [] = None
stop_at n (l ∷ ls) = if l.count == n then Some l.value else stop_at n ls

-- one more than the greatest cell that the tokens of these lines name, and 0 where they name none
abbrev pub stops_bound : List StopLine → ℕ
stops_bound [] = 0
stops_bound (l ∷ ls) = max (cell_bound (tree l.value)) (stops_bound ls)

-- whether the tokens of these lines are clean
abbrev pub stops_clean : List StopLine → Bool
stops_clean [] = true
stops_clean (l ∷ ls) = is_clean (tree l.value) && stops_clean ls

-- the tokens of these lines are clean and name no cell
abbrev pub ArePlain : List StopLine → Type 0
ArePlain ls = (stops_clean ls ≡ true) × (stops_bound ls ≡ 0)
