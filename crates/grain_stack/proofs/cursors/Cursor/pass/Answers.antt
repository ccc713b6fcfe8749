-- The range begins one further on, and the count is one more.
use Rattle.std.proofs.Common.{rules, ◌≡◌, pos, ◌+ℤ◌, ◌<ℤ◌, refl, sym, subst, to_z, of_z, FitsSigned, w64, arith}
use Rattle.std.proofs.lemmas.Int.{ints}
use Rattle.grain_stack.specs.Ranges.{BeginsWith}
use Rattle.grain_stack.specs.declared.cursors.Left.{Left}
use Rattle.grain_stack.specs.declared.cursors.Left.TheVariants as left
use Rattle.grain_stack.proofs.Items.{next_below}
use Rattle.grain_stack.proofs.cursors.Cursor.pass.Goals as goal

pub returns : goal.returns
returns c =
    let first = c.args.first in
    let from = c.in-Range.from in
    let to = c.in-Range.to in
    let begins : BeginsWith (left.Range from to c.in-Range.inclusive) first =
    subst (λ (l : Left). BeginsWith l first) c.in-Range.is c.requires.begins in
    let fits : FitsSigned w64 first = search rules in
    let less : from <ℤ to = omega (arith, ints, begins.0, begins.1) in
    let next : to_z w64 (of_z w64 (to_z w64 (of_z w64 first) +ℤ pos 1)) ≡ from +ℤ pos 1 =
    omega (arith, ints, begins.0, c.requires.rises) in
    record {
      items = next_below c.args.self.now.left from to c.in-Range.inclusive first to _ c.in-Range.is less
          (sym begins.0) refl next;
      counter = omega (arith, ints, c.requires.counts);
    }
