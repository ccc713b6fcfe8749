-- The frame's depth is how many frames wait.
use Rattle.std.proofs.Common.{◌≡◌, ◌≤◌, ◌∙◌, ℕ, List, length, sym, subst, ap}
use Rattle.grain_stack.specs.declared.totals.Total.{Total}
use Rattle.grain_stack.specs.Entries.{entries_at}
use Rattle.grain_stack.specs.Views.{StacksView}
use Rattle.grain_stack.proofs.Belonging.{depth_is, ordered_here, totals_view, totals_sound}
use Rattle.grain_stack.proofs.Depths.{cut_at}
use Rattle.grain_stack.proofs.stacks.Stacks.cut_totals.Goals as goal

pub cut-requires : goal.cut-requires
cut-requires c =
    let own : entries_at c.len-depth.result c.self.inside.totals ≡ c.args.self.now.totals =
    ap (λ (n : ℕ). entries_at n c.self.inside.totals)
    (depth_is c.self.inside c.len-depth.result c.len-depth.ensures.value)
    ∙ ap (λ (v : StacksView). v.totals) c.self.view_is in
    record {
      ordered =
          (ordered_here c.self.inside c.len-depth.result c.self.invariant
          c.len-depth.ensures.value).totals;
      there = subst (λ (xs : List Total). c.args.count ≤ length xs) (sym own) c.requires.there;
    }

pub invariant_of-self : goal.invariant_of-self
invariant_of-self c =
    totals_sound c.self.inside c.cut.new.self _ c.self.invariant
    (cut_at _ c.len-depth.result c.args.count c.self.inside.totals c.cut.new.self
    (depth_is c.self.inside c.len-depth.result c.len-depth.ensures.value) c.cut.ensures)

pub returns : goal.returns
returns c =
    rw (← c.self.view_is)
    (totals_view c.self.inside c.cut.new.self _ c.self.invariant
    (cut_at _ c.len-depth.result c.args.count c.self.inside.totals c.cut.new.self
    (depth_is c.self.inside c.len-depth.result c.len-depth.ensures.value) c.cut.ensures))
