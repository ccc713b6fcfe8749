use Rattle.std.proofs.Common.{◌≡◌, ◌<◌, ◌∙◌, length, take, ap}
use Rattle.grain_stack.specs.Views.{StacksView, bare, joined_frame}
use Rattle.grain_stack.specs.Filled.{Filled}
use Rattle.grain_stack.specs.Floors.{frames_on, floors, belongings, stacks_view}
use Rattle.grain_stack.proofs.Nesting.{left_view}
use Rattle.grain_stack.proofs.stacks.Stacks.leave.Goals as goal

pub returns : goal.returns
returns c =
    let some :
    0 < length
    (frames_on (take c.self.inside.bottom c.self.inside.slots.operands)
    (belongings c.self.inside) (floors c.self.inside)) = rw (ap (λ (v : StacksView). v.outer) c.self.view_is)
    c.requires.entered in
    let gone : c.drop_entries.new.self ≡
    bare (stacks_view (record c.self.inside { slots = c.truncate.new.self })) =
    c.drop_entries.ensures in
    rw (← c.self.view_is)
    (c.join_frame.ensures ∙ ap (λ (v : StacksView). joined_frame v.outer v) gone
    ∙ left_view c.self.inside c.truncate.new.self
    (ap (λ (v : Filled). v.operands) c.truncate.ensures) some)
