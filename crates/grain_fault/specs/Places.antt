-- Positions: a line and a column, or none.
use Rattle.std.specs.Prelude.{ℕ, Bool, Option, Some, None, ◌==◌, ◌||◌, if◌then◌else◌}
use Rattle.grain_fault.specs.declared.places.Position.{Position}

abbrev pub nowhere : Position
nowhere = record { line = 0; column = 0 }

abbrev pub place_at : ℕ → ℕ → Position
place_at line column = record { line = line; column = column }

abbrev pub is_nowhere : Position → Bool
is_nowhere p = p.line == 0

abbrev pub line_of : Position → Option ℕ
line_of p = if p.line == 0 then None else Some p.line

-- the start of a line is no column
abbrev pub column_of : Position → Option ℕ
column_of p = if (p.line == 0) || (p.column == 0) then None else Some p.column
