-- How the code is compared with a walk by itself, which `play` defines.
use Rattle.std.specs.Prelude.{◌≡◌, ◌≤◌, ℕ, List, Option, Bool}
use Rattle.grain_value.specs.declared.values.Held.{Held}
use Rattle.grain_value.specs.declared.stores.Cell.{Cell}
use Rattle.grain_means.specs.Simulation.{NoStopWithin, StopsHere}
use Rattle.grain_means.specs.Tasks.{Task, Own, play}

-- With these cells, a walk by itself that begins at the state `old` with the task `start` comes to the
-- state `new`, where the task `now` is left to do. `out` says that memory is out there.
pub record WalksOn (cells : List Cell) (old : Own) (start : Task) (out : Bool) (new : Own)
    (now : Task) : Type 0 where
  pub order : old.passed ≤ new.passed
  pub equal : (stop : Option ℕ) → NoStopWithin stop old.passed new.passed →
      StopsHere out stop new.passed → play stop cells start old ≡ play stop cells now new

abbrev pub own : List Held → ℕ → Own
own roots passed = record { roots = roots; passed = passed }
