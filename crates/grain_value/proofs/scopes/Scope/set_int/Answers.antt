-- A write of an entry that keeps its name.
use Rattle.std.proofs.Common.{◌≡◌, ◌<◌, false, rules, arith}
use Rattle.std.proofs.lemmas.List.{length-take-le}
use Rattle.grain_value.specs.declared.values.Dynamic.TheVariants as dynamic
use Rattle.grain_value.proofs.Spares.{held_written}
use Rattle.grain_value.proofs.scopes.Scope.set_int.Goals as goal

pub returns : goal.returns
returns c =
    let h = c.self.inside.height in
    let xs = c.self.inside.slots.items in
    let there : c.args.index < h =
    omega (
      arith,
      rw (← c.self.view_is) at c.requires,
      length-take-le h xs c.self.invariant.within,
    ) in
    let set : c.set_int.new.self ≡ dynamic.Int c.args.integer = search rules in
    let written : c.if-held.held.read_only ≡ false = search rules in
    rw (← c.self.view_is, set, written)
    (held_written h c.args.index xs c.index_mut.result.now
    (record { value = dynamic.Int c.args.integer; read_only = false }) there c.self.invariant.within
    c.index_mut.ensures.value)
