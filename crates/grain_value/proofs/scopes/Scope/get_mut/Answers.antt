-- The entry that is lent keeps its name.
use Rattle.std.proofs.Common.{◌<◌, length, take, arith}
use Rattle.std.proofs.lemmas.List.{length-take-le}
use Rattle.grain_value.proofs.Entries.{same_loan, holds}
use Rattle.grain_value.proofs.Spares.{lent_back, entry_at}
use Rattle.grain_value.proofs.scopes.Scope.get_mut.Goals as goal

pub returns-in-Some : goal.returns-in-Some
returns-in-Some c =
    let h = c.self.inside.height in
    let xs = c.self.inside.slots.items in
    let slot = c.in-Some.slot.now in
    let low : c.args.index < h = omega arith in
    let there : c.args.index < length (take h xs) =
    omega (arith, low, length-take-le h xs c.self.invariant.within) in (
      same_loan _ _ _ (lent_back h c.args.index xs c.args.self.now slot c.self.view_is low
          c.self.invariant.within c.in-Some.ensures.value),
      record {
        writes_back = tt;
        value =
            holds (take h xs) c.args.self.now c.args.index slot c.self.view_is there
            (entry_at c.args.index h xs slot low c.in-Some.ensures.value);
      },
    )
