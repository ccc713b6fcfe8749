use Rattle.std.proofs.Common.{◌∙◌, length, sym, ap}
use Rattle.std.proofs.lemmas.List.{length-reverse}
use Rattle.grain_stack.proofs.frame_entries.FrameEntries.len.Goals as goal

pub returns : goal.returns
returns g c =
    c.len.ensures
    ∙ (c.self.inside.entries.ok.0 ∙ sym (length-reverse c.self.inside.entries.items)
    ∙ ap length c.self.view_is)
