use Rattle.grain_stack.proofs.Depths.{put_last}
use Rattle.grain_stack.proofs.frame_entries.FrameEntries.push.Goals as goal

pub returns : goal.returns
returns g c = put_last c.self.inside.entries.items _ _ _ c.in_ok-push.ensures.items c.self.view_is
