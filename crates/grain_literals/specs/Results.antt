-- What was read, without where it lies in memory.
use Rattle.std.specs.Prelude.{ℕ, List, Result, Ok, Err}
use Rattle.std.specs.Borrow.{Bor}
use Rattle.grain_value.specs.Scopes.{new_entry}
use Rattle.grain_value.specs.declared.scopes.Entry.{Entry}
use Rattle.grain_literals.specs.declared.literals.ScopeEntry.{ScopeEntry}
use Rattle.grain_literals.specs.declared.reasons.Reason.{Reason}

-- an operand and what is left after it
abbrev pub operand_view : {A : Type 0} → Result (A × Bor (List ℕ)) Reason →
    Result (A × List ℕ) Reason
operand_view (Ok x) = Ok (x.0, x.1.now)
operand_view (Err e) = Err e

abbrev pub word_view : Result (Bor (List ℕ) × Bor (List ℕ)) Reason →
    Result (List ℕ × List ℕ) Reason
word_view (Ok x) = Ok (x.0.now, x.1.now)
word_view (Err e) = Err e

abbrev pub entry_view : Result ScopeEntry Reason → Result Entry Reason
entry_view (Ok e) = Ok (new_entry e.name e.held)
entry_view (Err e) = Err e
