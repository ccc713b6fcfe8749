-- The first entry of the name from the end is the newest.
use Rattle.std.proofs.Common.{◌≡◌, ◌∙◌, ◌<◌, ◌-◌, suc, true, drop, take, None, bytes_eq, ap, arith}
use Rattle.std.proofs.lemmas.List.{length-take-le}
use Rattle.grain_value.specs.Scopes.{last_of}
use Rattle.grain_value.proofs.Newest.{last_at}
use Rattle.grain_value.proofs.Spares.{entry_at}
use Rattle.grain_value.proofs.scopes.Scope.search.Goals as goal

pub returns-then-eq : goal.returns-then-eq
returns-then-eq c =
    let i = c.loop-index.index - 1 in
    let h = c.self.inside.height in
    let xs = c.self.inside.slots.items in
    let es = take h xs in
    let name = c.args.name.now in
    let entry = c.index.result.now in
    let next : suc i ≡ c.loop-index.index = omega arith in
    let named : bytes_eq entry.name name ≡ true = cc in
    let low : i < h = omega arith in
    let none : last_of name (drop (suc i) es) ≡ None =
    rw (next, c.self.view_is) c.loop-index.invariant in
    last_at name es i entry (omega (arith, low, length-take-le h xs c.self.invariant.within))
    (entry_at i h xs entry low c.index.ensures) named none
    ∙ ap (last_of name) c.self.view_is
