-- What an engine says of callbacks and of the sizes of values.
use Rattle.std.specs.Prelude.{◌≡◌, ◌⊎◌, ℕ, Bool, List, Option, Some, None, Result, Ok, Err}
use Rattle.grain_fault.specs.Places.{nowhere}
use Rattle.grain_fault.specs.declared.faults.EvalAltResult.{EvalAltResult}
use Rattle.grain_fault.specs.declared.faults.EvalAltResult.TheVariants as fault
use Rattle.grain_global.specs.declared.engines.Engine.{Engine}

-- the same engine, where natives may call functions of the program back or not
abbrev pub with_callbacks : Bool → Engine → Engine
with_callbacks callbacks e = record e { callbacks = callbacks }

-- nothing is too large, or the fault says what is, without a position; for the fault memory may be out
abbrev pub IsWithin : {A : Type 0} → Option (List ℕ) → Result A EvalAltResult → Type 0
IsWithin None (Ok a) = Unit {0}
IsWithin None (Err x) = ⊥
IsWithin (Some what) (Ok a) = ⊥
IsWithin (Some what) (Err x) = (x ≡ fault.ErrorDataTooLarge what nowhere) ⊎ (x ≡ fault.Memory)
