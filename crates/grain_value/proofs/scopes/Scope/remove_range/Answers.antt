-- Some entries go, and so do their slots.
use Rattle.std.proofs.Common.{◌∙◌, ◌+◌, ◌++◌, List, take, drop, ap, arith}
use Rattle.grain_value.specs.declared.scopes.Entry.{Entry}
use Rattle.grain_value.proofs.Spares.{removed, removed_spare}
use Rattle.grain_value.proofs.scopes.Scope.remove_range.Goals as goal

pub invariant_of-self : goal.invariant_of-self
invariant_of-self c =
    rw (c.drop-drain.ensures.items, c.drain.ensures.kept)
    (removed_spare c.self.inside.height c.min-start.result c.min-count.result
    c.self.inside.slots.items (omega arith) c.self.invariant)

pub returns : goal.returns
returns c =
    rw (c.drop-drain.ensures.items, c.drain.ensures.kept)
    (removed c.self.inside.height c.args.start c.args.count c.min-start.result c.min-count.result
    c.self.inside.slots.items c.min-start.ensures c.min-count.ensures c.self.invariant.within
    ∙ ap (λ (l : List Entry). take c.args.start l ++ drop (c.args.start + c.args.count) l)
    c.self.view_is)
