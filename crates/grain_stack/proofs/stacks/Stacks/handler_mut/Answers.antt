-- The newest handler is the frame's, and its frame stays the same.
use Rattle.std.proofs.Common.{◌<◌, ◌∙◌, length, refl, sym, subst, ap}
use Rattle.grain_stack.specs.Entries.{entries_at, first_of, with_newest}
use Rattle.grain_stack.specs.Floors.{floors}
use Rattle.grain_stack.specs.Lending.{with_handler}
use Rattle.grain_stack.specs.Views.{StacksView}
use Rattle.grain_stack.proofs.Belonging.{handlers_view, handlers_sound}
use Rattle.grain_stack.proofs.Depths.{some_there, newest_first, written}
use Rattle.grain_stack.proofs.stacks.Stacks.handler_mut.Goals as goal

pub newest_mut-requires : goal.newest_mut-requires
newest_mut-requires c =
    let some : 0 < length (entries_at (length (floors c.self.inside)) c.self.inside.handlers) =
    subst (λ (v : StacksView). 0 < length v.handlers) (sym c.self.view_is) c.requires.there in
    record { there = some_there _ c.self.inside.handlers some }

pub invariant_of-self-lent : goal.invariant_of-self-lent
invariant_of-self-lent c =
    let some : 0 < length (entries_at (length (floors c.self.inside)) c.self.inside.handlers) =
    subst (λ (v : StacksView). 0 < length v.handlers) (sym c.self.view_is) c.requires.there in
    λ w. handlers_sound c.self.inside (with_newest c.self.inside.handlers w) _ c.self.invariant
    (written _ c.self.inside.handlers w c.self.invariant.ordered.handlers some)

pub returns : goal.returns
returns c =
    let some : 0 < length (entries_at (length (floors c.self.inside)) c.self.inside.handlers) =
    subst (λ (v : StacksView). 0 < length v.handlers) (sym c.self.view_is) c.requires.there in (
      (
        refl,
        λ w. handlers_view c.self.inside (with_newest c.self.inside.handlers w) _ c.self.invariant
            (written _ c.self.inside.handlers w c.self.invariant.ordered.handlers some)
            ∙ ap (λ (v : StacksView). with_handler v w) c.self.view_is,
      ),
      record {
        writes_back = tt;
        value =
            c.newest_mut.ensures.value
            ∙ newest_first _ c.self.inside.handlers c.self.invariant.ordered.handlers some
            ∙ ap (λ (v : StacksView). first_of v.handlers) c.self.view_is;
      },
    )
