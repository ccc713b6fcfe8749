-- The place of the scope that is put aside is no longer spare.
use Rattle.std.proofs.Common.{rules, ◌∙◌, ◌+◌, ◌≤◌, length, slice_set}
use Rattle.grain_frame.proofs.Spares.{first_spare, spare_after}
use Rattle.grain_frame.proofs.saved.SavedScopes.save.Goals as goal

pub invariant_of-self : goal.invariant_of-self
invariant_of-self c =
    let long : c.self.inside.saved + 1
    ≤ length (slice_set c.self.inside.scopes.items c.self.inside.saved c.swap.new.x) =
    search rules in (
      long,
      spare_after c.self.inside.scopes.items c.self.inside.saved (search rules)
          c.self.invariant.1 c.swap.new.x,
    )

pub returns-then-self-len-clause-scope : goal.returns-then-self-len-clause-scope
returns-then-self-len-clause-scope c =
    c.swap.ensures.y_after ∙ c.index_mut.ensures.value
    ∙ first_spare c.self.inside.scopes.items c.self.inside.saved (search rules) c.self.invariant.1
    c.index_mut.result.now
