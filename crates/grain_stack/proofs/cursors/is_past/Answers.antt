use Rattle.std.proofs.Common.{◌≡◌, ◌<ℤ◌, arith}
use Rattle.std.proofs.lemmas.Int.{ints}
use Rattle.grain_stack.proofs.Items.{below_some, last_some, past_none}
use Rattle.grain_stack.proofs.cursors.is_past.Goals as goal

pub returns-then-from-to : goal.returns-then-from-to
returns-then-from-to c =
    let less : c.args.from <ℤ c.args.to = omega (arith, ints) in
    below_some c.args.from c.args.to c.args.inclusive less

pub returns-then-from-to-2 : goal.returns-then-from-to-2
returns-then-from-to-2 c =
    let at : c.args.from ≡ c.args.to = omega (arith, ints) in
    last_some c.args.from c.args.to c.args.inclusive at

pub returns : goal.returns
returns c =
    let more : c.args.to <ℤ c.args.from = omega (arith, ints) in
    past_none c.args.from c.args.to c.args.inclusive more
