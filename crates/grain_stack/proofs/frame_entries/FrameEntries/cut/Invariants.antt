-- The newest go one by one.
use Rattle.std.proofs.Common.{drop}
use Rattle.grain_stack.specs.Entries.{entries_at, Becomes}
use Rattle.grain_stack.proofs.frame_entries.FrameEntries.cut.Given as goal

abbrev pub invariant-cut : goal.invariant-cut
invariant-cut g l =
    Becomes l.depth l.initial.self l.self (drop l.counter (entries_at l.depth l.initial.self))
