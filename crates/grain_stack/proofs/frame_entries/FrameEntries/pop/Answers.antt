use Rattle.grain_stack.proofs.Depths.{taken_last}
use Rattle.grain_stack.proofs.frame_entries.FrameEntries.pop.Goals as goal

pub returns : goal.returns
returns g c = (
  c.in-Some.newest.depth,
  taken_last c.self.inside.entries.items c.pop.new.self.items _ c.in-Some.newest
      c.in-Some.ensures.items c.self.view_is,
)
