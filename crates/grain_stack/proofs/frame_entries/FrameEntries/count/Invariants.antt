-- What was seen of the frame's entries.
use Rattle.std.proofs.Common.{reverse}
use Rattle.grain_stack.proofs.Depths.{Seen}
use Rattle.grain_stack.proofs.frame_entries.FrameEntries.count.Given as goal

abbrev pub invariant-own : goal.invariant-own
invariant-own g l = Seen l.depth (reverse l.self-inside.entries.items) l.count
