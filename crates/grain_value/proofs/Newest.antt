-- The newest entry of a name, sought from the end.
use Rattle.std.proofs.Common.{◌≡◌, ◌<◌, ℕ, zero, suc, true, List, [], ◌∷◌, length, get_or, drop, Some, None, bytes_eq, ap, arith}
use Rattle.grain_value.specs.Scopes.{last_of}
use Rattle.grain_value.specs.declared.scopes.Entry.{Entry}

-- an entry of the name is the last if none follows it
pub last_at : (name : List ℕ) (es : List Entry) (i : ℕ) (e : Entry) → i < length es →
    e ≡ get_or es i e → bytes_eq e.name name ≡ true → last_of name (drop (suc i) es) ≡ None →
    Some i ≡ last_of name es
last_at name [] i e lt is same none = absurd (omega arith)
last_at name (x ∷ es) zero e lt is same none =
    let named : bytes_eq x.name name ≡ true = rw (← is) same in
    rw (none, named)
last_at name (x ∷ es) (suc i) e lt is same none =
    rw (← last_at name es i e (omega arith) is same none) (ap (λ (n : ℕ). Some n) (omega arith))
