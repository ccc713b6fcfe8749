-- The lines that are left decide.
use Rattle.std.proofs.Common.{◌≡◌, drop}
use Rattle.run_examples.specs.Prices.{price}
use Rattle.run_examples.proofs.prices.PriceList.price.Given as goal

abbrev pub invariant-loop-line : goal.invariant-loop-line
invariant-loop-line l =
    price l.article (drop l.line-index l.line-items) ≡ price l.article l.self.lines
