-- What was read, without where it lies in memory.
use Rattle.std.specs.Prelude.{ℕ, List, Result, Ok, Err}
use Rattle.std.specs.Borrow.{Bor}
use Rattle.grain_literals.specs.declared.reasons.Reason.{Reason}

abbrev pub name_view : Result (ℕ × ℕ × Bor (List ℕ)) Reason → Result (ℕ × ℕ × List ℕ) Reason
name_view (Ok x) = Ok (x.0, x.1, x.2.now)
name_view (Err e) = Err e
