-- The frame's depth is how many frames wait.
use Rattle.std.proofs.Common.{◌∙◌, ℕ, ap}
use Rattle.grain_stack.specs.Entries.{entries_at, first_of}
use Rattle.grain_stack.specs.Views.{StacksView}
use Rattle.grain_stack.proofs.Belonging.{depth_is, ordered_here}
use Rattle.grain_stack.proofs.stacks.Stacks.innermost_handler.Goals as goal

pub innermost-requires : goal.innermost-requires
innermost-requires c =
    (ordered_here c.self.inside c.len-depth.result c.self.invariant c.len-depth.ensures.value).handlers

pub returns : goal.returns
returns c =
    c.innermost.ensures
    ∙ ap (λ (n : ℕ). first_of (entries_at n c.self.inside.handlers))
    (depth_is c.self.inside c.len-depth.result c.len-depth.ensures.value)
    ∙ ap (λ (v : StacksView). first_of v.handlers) c.self.view_is
