-- The newest entry is the last, and the others stay where they are.
use Rattle.std.proofs.Common.{◌∙◌, refl, sym}
use Rattle.grain_stack.proofs.Depths.{last_at, last_written}
use Rattle.grain_stack.proofs.frame_entries.FrameEntries.newest_mut.Goals as goal

pub returns : goal.returns
returns g c =
    let items = c.self.inside.entries.items in
    let many = c.len-last.ensures ∙ c.self.inside.entries.ok.0 in (
      (
        refl,
        λ w. last_written items c.args.self.now c.len-last.result c.index_mut-newest.result.now many
            c.self.view_is c.requires.there c.index_mut-newest.ensures.value w,
      ),
      record {
        writes_back = tt;
        value =
            sym (last_at items c.args.self.now c.len-last.result c.index_mut-newest.result.now many
            c.self.view_is c.requires.there c.index_mut-newest.ensures.value);
      },
    )
