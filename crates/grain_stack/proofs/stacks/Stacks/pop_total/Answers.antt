-- The newest total is the frame's.
use Rattle.std.proofs.Common.{◌<◌, ◌∙◌, length, sym, subst}
use Rattle.grain_stack.specs.Entries.{entries_at}
use Rattle.grain_stack.specs.Floors.{floors, stacks_view}
use Rattle.grain_stack.specs.Views.{StacksView}
use Rattle.grain_stack.proofs.Belonging.{totals_view, totals_sound, total_taken}
use Rattle.grain_stack.proofs.Depths.{some_there, popped_at, popped_is}
use Rattle.grain_stack.proofs.stacks.Stacks.pop_total.Goals as goal

pub pop-requires : goal.pop-requires
pop-requires c =
    let some : 0 < length (entries_at (length (floors c.self.inside)) c.self.inside.totals) =
    subst (λ (v : StacksView). 0 < length v.totals) (sym c.self.view_is) c.requires.there in
    record { there = some_there _ c.self.inside.totals some }

pub invariant_of-self : goal.invariant_of-self
invariant_of-self c =
    let some : 0 < length (entries_at (length (floors c.self.inside)) c.self.inside.totals) =
    subst (λ (v : StacksView). 0 < length v.totals) (sym c.self.view_is) c.requires.there in
    totals_sound c.self.inside c.pop.new.self _ c.self.invariant
    (popped_at _ c.self.inside.totals c.pop.new.self c.pop.result c.self.invariant.ordered.totals
    some c.pop.ensures)

pub returns : goal.returns
returns c =
    let some : 0 < length (entries_at (length (floors c.self.inside)) c.self.inside.totals) =
    subst (λ (v : StacksView). 0 < length v.totals) (sym c.self.view_is) c.requires.there in
    sym c.self.view_is
    ∙ total_taken (stacks_view c.self.inside)
    (stacks_view (record c.self.inside { totals = c.pop.new.self })) c.pop.result _
    (totals_view c.self.inside c.pop.new.self _ c.self.invariant
    (popped_at _ c.self.inside.totals c.pop.new.self c.pop.result c.self.invariant.ordered.totals
    some c.pop.ensures))
    (popped_is _ c.self.inside.totals c.pop.new.self c.pop.result c.self.invariant.ordered.totals
    some c.pop.ensures)
