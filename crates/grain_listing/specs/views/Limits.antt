-- The lines that set limits, as names with their numbers.
use Rattle.std.specs.Prelude.{ℕ, ◌≡◌, ◌<◌, List, map, Result, Ok, Err, codes, bytes_eq, true}
use Rattle.std.specs.Option.{ForSome}
use Rattle.std.specs.Borrow.{Bor}
use Rattle.grain_literals.specs.declared.reasons.Reason.{Reason}
use Rattle.grain_listing.specs.Settings.{entry_named}
use Rattle.grain_listing.specs.declared.limits.Limit.{Limit}
use Rattle.grain_listing.specs.declared.limits.LimitLine.{LimitLine}

abbrev pub limit_line_view : LimitLine → List ℕ × ℕ
limit_line_view l = (l.name.now, l.number)

abbrev pub limits_view : List LimitLine → List (List ℕ × ℕ)
limits_view ls = map limit_line_view ls

-- an entry of a table of limits
abbrev pub row_view : Bor (List ℕ) × Limit → List ℕ × Limit
row_view x = (x.0.now, x.1)

abbrev pub named_view : Result (Bor (List ℕ) × Limit) Reason → Result (List ℕ × Limit) Reason
named_view (Ok x) = Ok (row_view x)
named_view (Err e) = Err e

abbrev pub set_view : Result LimitLine Reason → Result (List ℕ × ℕ) Reason
set_view (Ok l) = Ok (limit_line_view l)
set_view (Err e) = Err e

-- a line that sets the operations allows at least one
abbrev pub Allows : List ℕ → ℕ → Type 0
Allows name n = bytes_eq (codes "operations") name ≡ true → 0 < n

-- at least one operation is allowed, if lines set how many
abbrev pub AreAllowed : List LimitLine → Type 0
AreAllowed ls = ForSome (entry_named (codes "operations") (limits_view ls)) (λ x. 0 < x.1)
