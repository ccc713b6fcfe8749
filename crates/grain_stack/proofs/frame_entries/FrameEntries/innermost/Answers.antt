-- The newest entry is of another frame, or there is none.
use Rattle.std.proofs.Common.{◌≡◌, ◌∙◌, ◌-◌, Some, None, length, slice_get, sym, ap}
use Rattle.std.specs.Option.{option_copied}
use Rattle.grain_stack.proofs.Depths.{innermost_of_another, innermost_of_none}
use Rattle.grain_stack.proofs.frame_entries.FrameEntries.innermost.Goals as goal
use Rattle.grain_stack.proofs.frame_entries.FrameEntries.innermost.Goals.{in_default-via-in-Some+else-newest-depth, in_default-via-in_default}

pub returns-in_default : goal.returns-in_default
returns-in_default g c = elim c.in_default.branch [
  | in_default-via-in-Some+else-newest-depth w ↦
      (let items = c.self.inside.entries.items in
      let last : slice_get items (length items - 1) ≡ Some w.in-Some.newest.now =
      rw (← c.deref.ensures.value)
      (sym c.last.ensures.value ∙ ap option_copied w.in-Some.is) in
      innermost_of_another c.args.depth items c.args.self.now w.in-Some.newest.now c.self.view_is
      c.requires last w.if-newest-depth.false)
  | in_default-via-in_default w ↦
      (let items = c.self.inside.entries.items in
      let last : slice_get items (length items - 1) ≡ None =
      rw (← c.deref.ensures.value)
      (sym c.last.ensures.value ∙ ap option_copied w.in_default.is) in
      innermost_of_none c.args.depth items c.args.self.now c.self.view_is last)
]
