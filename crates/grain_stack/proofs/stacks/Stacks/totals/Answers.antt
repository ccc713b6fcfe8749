-- The frame's depth is how many frames wait.
use Rattle.std.proofs.Common.{◌∙◌, ℕ, length, ap}
use Rattle.grain_stack.specs.Entries.{entries_at}
use Rattle.grain_stack.specs.Views.{StacksView}
use Rattle.grain_stack.proofs.Belonging.{depth_is, ordered_here}
use Rattle.grain_stack.proofs.stacks.Stacks.totals.Goals as goal

pub count-requires : goal.count-requires
count-requires c =
    (ordered_here c.self.inside c.len-depth.result c.self.invariant c.len-depth.ensures.value).totals

pub returns : goal.returns
returns c =
    c.count.ensures
    ∙ ap (λ (n : ℕ). length (entries_at n c.self.inside.totals))
    (depth_is c.self.inside c.len-depth.result c.len-depth.ensures.value)
    ∙ ap (λ (v : StacksView). length v.totals) c.self.view_is
