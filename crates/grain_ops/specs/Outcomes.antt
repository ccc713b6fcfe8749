-- What a built-in operator gives.
use Rattle.std.specs.Prelude.{ℕ, List}
use Rattle.grain_value.specs.declared.values.Dynamic.{Dynamic}

pub data Outcome : Type 0 where
  -- no built-in takes these values
  NotBuiltIn : Outcome
  -- a value
  Gave : Dynamic → Outcome
  -- an arithmetic fault with this text
  ArithmeticFault : List ℕ → Outcome
  -- the fault that data is too large, with what of it is
  TooLarge : List ℕ → Outcome
