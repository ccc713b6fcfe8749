use Rattle.std.proofs.Common.{◌∷◌, [], codes, refl, arith}
use Rattle.grain_chain.specs.declared.origins.Awaited.TheVariants as awaited
use Rattle.grain_chain.proofs.Asks.{asks_with, asks_less, two_of}
use Rattle.grain_chain.proofs.walks.Walk.set_by_index.Goals as goal

pub returns-clause-goes : goal.returns-clause-goes
returns-clause-goes c = λ x.
    asks_with x c.args.self.now c.ask.new.self c.args.bracket (codes "index$set$") (codes "index$set$")
    c.in_ok-values.values (c.args.index ∷ c.args.value ∷ []) awaited.IndexSet c.ask.result refl
    (two_of c.in_ok-values.values c.args.index c.args.value c.in_ok-values.ensures) c.ask.ensures

pub returns-clause-needs : goal.returns-clause-needs
returns-clause-needs c = λ p.
    asks_less p c.args.self.now c.ask.new.self c.args.bracket (codes "index$set$")
    c.in_ok-values.values awaited.IndexSet c.ask.result _ c.ask.ensures tt (omega arith)
