-- The newest handler is the frame's.
use Rattle.std.proofs.Common.{◌<◌, ◌∙◌, length, sym, subst}
use Rattle.grain_stack.specs.Entries.{entries_at}
use Rattle.grain_stack.specs.Floors.{floors, stacks_view}
use Rattle.grain_stack.specs.Views.{StacksView}
use Rattle.grain_stack.proofs.Belonging.{handlers_view, handlers_sound, handler_taken}
use Rattle.grain_stack.proofs.Depths.{some_there, popped_at, popped_is}
use Rattle.grain_stack.proofs.stacks.Stacks.pop_handler.Goals as goal

pub pop-requires : goal.pop-requires
pop-requires c =
    let some : 0 < length (entries_at (length (floors c.self.inside)) c.self.inside.handlers) =
    subst (λ (v : StacksView). 0 < length v.handlers) (sym c.self.view_is) c.requires.there in
    record { there = some_there _ c.self.inside.handlers some }

pub invariant_of-self : goal.invariant_of-self
invariant_of-self c =
    let some : 0 < length (entries_at (length (floors c.self.inside)) c.self.inside.handlers) =
    subst (λ (v : StacksView). 0 < length v.handlers) (sym c.self.view_is) c.requires.there in
    handlers_sound c.self.inside c.pop.new.self _ c.self.invariant
    (popped_at _ c.self.inside.handlers c.pop.new.self c.pop.result c.self.invariant.ordered.handlers
    some c.pop.ensures)

pub returns : goal.returns
returns c =
    let some : 0 < length (entries_at (length (floors c.self.inside)) c.self.inside.handlers) =
    subst (λ (v : StacksView). 0 < length v.handlers) (sym c.self.view_is) c.requires.there in
    sym c.self.view_is
    ∙ handler_taken (stacks_view c.self.inside)
    (stacks_view (record c.self.inside { handlers = c.pop.new.self })) c.pop.result _
    (handlers_view c.self.inside c.pop.new.self _ c.self.invariant
    (popped_at _ c.self.inside.handlers c.pop.new.self c.pop.result c.self.invariant.ordered.handlers
    some c.pop.ensures))
    (popped_is _ c.self.inside.handlers c.pop.new.self c.pop.result c.self.invariant.ordered.handlers
    some c.pop.ensures)
