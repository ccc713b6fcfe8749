-- What a list becomes once the entry that it lent is given back.
use Rattle.std.specs.Prelude.{ℕ, Option, List, slice_set}
use Rattle.std.specs.Borrow.{LendsIf, MutBor, Fml, RattleType}
use Rattle.grain_value.specs.contracts.lists.List.{the_row}

-- when the loan ends, the entry at the index is the last value of the reference, and all others are
-- as they were; the list is as it was if nothing was lent
abbrev pub LendsEntry : (T : RattleType) → MutBor (List T.Denot) → ℕ → Option (MutBor T.Denot)
    → Fml
LendsEntry T l i r = LendsIf (the_row T) T l r (slice_set l.now i) l.now
