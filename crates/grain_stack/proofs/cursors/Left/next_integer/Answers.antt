-- The range is not at its end, at its end, or past it.
use Rattle.grain_stack.specs.Cursors.{items_left}
use Rattle.std.proofs.Common.{◌≡◌, [], pos, false, ap, ⊎_elim, ◌+ℤ◌, ◌<ℤ◌, ◌≤ℤ◌, FitsSigned, w64, to_z, of_z, rules, arith}
use Rattle.std.proofs.lemmas.Int.{ints, to_z-of_z}
use Rattle.grain_stack.proofs.Items.{next_below, next_last, none_next}
use Rattle.grain_stack.proofs.cursors.Left.next_integer.Goals as goal

pub returns-then-first-last : goal.returns-then-first-last
returns-then-first-last c =
    let from = c.in-Range.from in
    let to = c.in-Range.to in
    let fits : FitsSigned w64 from = search rules in
    let fits_to : FitsSigned w64 to = search rules in
    let less : from <ℤ to = omega (arith, ints) in
    let next : to_z w64 (of_z w64 (to_z w64 (of_z w64 from) +ℤ pos 1)) ≡ from +ℤ pos 1 =
    omega (arith, ints) in
    next_below c.args.self.now from to c.in-Range.inclusive _ _ _ c.in-Range.is less
    (to_z-of_z w64 from fits) (to_z-of_z w64 to fits_to) next

pub returns-then-inclusive : goal.returns-then-inclusive
returns-then-inclusive c =
    let from = c.in-Range.from in
    let to = c.in-Range.to in
    let fits : FitsSigned w64 from = search rules in
    let fits_to : FitsSigned w64 to = search rules in
    let at : from ≡ to = omega (arith, ints) in
    next_last c.args.self.now from to c.in-Range.inclusive _ _ c.in-Range.is at c.if-inclusive.true
    (to_z-of_z w64 from fits) (to_z-of_z w64 to fits_to)

pub returns : goal.returns
returns c =
    let from = c.in-Range.from in
    let to = c.in-Range.to in
    let over : to ≤ℤ from = omega (arith, ints) in
    let none : items_left c.args.self.now ≡ [] =
    none_next c.args.self.now from to c.in-Range.inclusive c.in-Range.is over
    (λ closed at.
    ⊎_elim (λ open_there. (let open_end : c.in-Range.inclusive ≡ false = open_there.1 in cc))
    (λ apart. apart (ap (of_z w64) at)) c.else-first-last-2.either) in
    (none, none)
