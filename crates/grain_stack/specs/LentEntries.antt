-- What entries become once the one that they lent is given back.
use Rattle.std.specs.Prelude.{List}
use Rattle.std.specs.Borrow.{Lends, MutBor, Fml, RattleType}
use Rattle.grain_stack.specs.Entries.{with_newest}
use Rattle.grain_stack.specs.declared.frame_entries.FrameEntry.{FrameEntry}
use Rattle.grain_stack.specs.contracts.frame_entries.FrameEntries.{the_row}

-- when the loan ends, the newest entry has the last value of the reference
abbrev pub LendsNewest : (T : RattleType) → MutBor (List (FrameEntry T.Denot)) → MutBor T.Denot
    → Fml
LendsNewest T es r = Lends (the_row T) T es r (with_newest es.now)
