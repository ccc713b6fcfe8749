-- Flags and the lines that turn them, as names.
use Rattle.std.specs.Prelude.{ℕ, List, map, Result, Ok, Err}
use Rattle.std.specs.Borrow.{Bor}
use Rattle.grain_literals.specs.declared.reasons.Reason.{Reason}
use Rattle.grain_listing.specs.declared.flags.Flag.{Flag}

abbrev pub names_view : List (Bor (List ℕ)) → List (List ℕ)
names_view names = map (λ name. name.now) names

-- an entry of a table of flags
abbrev pub row_view : Bor (List ℕ) × Flag → List ℕ × Flag
row_view x = (x.0.now, x.1)

abbrev pub named_view : Result (Bor (List ℕ) × Flag) Reason → Result (List ℕ × Flag) Reason
named_view (Ok x) = Ok (row_view x)
named_view (Err e) = Err e

abbrev pub name_view : Result (Bor (List ℕ)) Reason → Result (List ℕ) Reason
name_view (Ok name) = Ok name.now
name_view (Err e) = Err e
