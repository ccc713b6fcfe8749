-- How many instructions were begun and marks passed.
use Rattle.std.specs.Prelude.{ℕ, ◌+◌}

pub record StepsView : Type 0 where
  -- instructions of earlier runs
  pub before : ℕ
  -- instructions and marks of the run that is under way
  pub begun : ℕ
  pub passed : ℕ

-- all instructions so far
abbrev pub instructions : StepsView → ℕ
instructions c = c.before + c.begun
