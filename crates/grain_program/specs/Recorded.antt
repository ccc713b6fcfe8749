-- The positions that are recorded for instructions.
use Rattle.std.specs.Prelude.{ℕ, suc, ◌<◌, ◌≤◌, List, [], ◌∷◌, length}
use Rattle.grain_program.specs.declared.code.parts.PositionEntry.{PositionEntry}
use Rattle.grain_program.specs.View.{View}

-- the addresses ascend strictly from the first number on, and are below the second
abbrev pub Ascends : ℕ → ℕ → List PositionEntry → Type 0
Ascends low end [] = Unit {0}
Ascends low end (e ∷ es) = (low ≤ e.address) × (e.address < end) × Ascends (suc e.address) end es

-- the recorded addresses ascend strictly, and are below the code's length
abbrev pub HasOrder : View → Type 0
HasOrder p = Ascends 0 (length p.code) p.positions
