-- The newest total is the frame's, and its frame stays the same.
use Rattle.std.proofs.Common.{◌<◌, ◌∙◌, length, refl, sym, subst, ap}
use Rattle.grain_stack.specs.Entries.{entries_at, first_of, with_newest}
use Rattle.grain_stack.specs.Floors.{floors}
use Rattle.grain_stack.specs.Lending.{with_total}
use Rattle.grain_stack.specs.Views.{StacksView}
use Rattle.grain_stack.proofs.Belonging.{totals_view, totals_sound}
use Rattle.grain_stack.proofs.Depths.{some_there, newest_first, written}
use Rattle.grain_stack.proofs.stacks.Stacks.total_mut.Goals as goal

pub newest_mut-requires : goal.newest_mut-requires
newest_mut-requires c =
    let some : 0 < length (entries_at (length (floors c.self.inside)) c.self.inside.totals) =
    subst (λ (v : StacksView). 0 < length v.totals) (sym c.self.view_is) c.requires.there in
    record { there = some_there _ c.self.inside.totals some }

pub invariant_of-self-lent : goal.invariant_of-self-lent
invariant_of-self-lent c =
    let some : 0 < length (entries_at (length (floors c.self.inside)) c.self.inside.totals) =
    subst (λ (v : StacksView). 0 < length v.totals) (sym c.self.view_is) c.requires.there in
    λ w. totals_sound c.self.inside (with_newest c.self.inside.totals w) _ c.self.invariant
    (written _ c.self.inside.totals w c.self.invariant.ordered.totals some)

pub returns : goal.returns
returns c =
    let some : 0 < length (entries_at (length (floors c.self.inside)) c.self.inside.totals) =
    subst (λ (v : StacksView). 0 < length v.totals) (sym c.self.view_is) c.requires.there in (
      (
        refl,
        λ w. totals_view c.self.inside (with_newest c.self.inside.totals w) _ c.self.invariant
            (written _ c.self.inside.totals w c.self.invariant.ordered.totals some)
            ∙ ap (λ (v : StacksView). with_total v w) c.self.view_is,
      ),
      record {
        writes_back = tt;
        value =
            c.newest_mut.ensures.value
            ∙ newest_first _ c.self.inside.totals c.self.invariant.ordered.totals some
            ∙ ap (λ (v : StacksView). first_of v.totals) c.self.view_is;
      },
    )
