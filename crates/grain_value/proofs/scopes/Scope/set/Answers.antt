-- A write of an entry that keeps its name.
use Rattle.std.proofs.Common.{◌<◌, arith}
use Rattle.std.proofs.lemmas.List.{length-take-le}
use Rattle.grain_value.proofs.Spares.{held_written}
use Rattle.grain_value.proofs.scopes.Scope.set.Goals as goal

pub returns : goal.returns
returns c =
    let h = c.self.inside.height in
    let xs = c.self.inside.slots.items in
    let there : c.args.index < h =
    omega (
      arith,
      rw (← c.self.view_is) at c.requires,
      length-take-le h xs c.self.invariant.within,
    ) in
    rw (← c.self.view_is)
    (held_written h c.args.index xs c.index_mut.result.now c.args.held there c.self.invariant.within
    c.index_mut.ensures.value)
