-- An entry that gets an alias keeps all else.
use Rattle.std.proofs.Common.{◌<◌, is_ok, arith}
use Rattle.std.proofs.lemmas.List.{length-take-le}
use Rattle.grain_value.proofs.Spares.{alias_written, kept_spare}
use Rattle.grain_value.proofs.scopes.Scope.add_alias_by_index.Goals as goal

pub invariant_of-self : goal.invariant_of-self
invariant_of-self c =
    let h = c.self.inside.height in
    let xs = c.self.inside.slots.items in
    let there : c.args.index < h =
    omega (
      arith,
      rw (← c.self.view_is) at c.requires,
      length-take-le h xs c.self.invariant.within,
    ) in
    kept_spare h c.args.index xs
    (record c.index_mut.result.now { aliases = c.add_alias.new.aliases }) there c.self.invariant

pub returns : goal.returns
returns c =
    let h = c.self.inside.height in
    let xs = c.self.inside.slots.items in
    let there : c.args.index < h =
    omega (
      arith,
      rw (← c.self.view_is) at c.requires,
      length-take-le h xs c.self.invariant.within,
    ) in
    alias_written (is_ok c.add_alias.result) h c.args.index xs c.args.self.now
    c.index_mut.result.now c.args.alias c.add_alias.new.aliases c.self.view_is there
    c.self.invariant.within c.index_mut.ensures.value c.add_alias.ensures
