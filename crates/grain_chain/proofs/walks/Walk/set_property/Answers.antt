use Rattle.std.proofs.Common.{◌∷◌, [], ap, ◌∙◌, arith}
use Rattle.grain_value.specs.View.{tree}
use Rattle.grain_value.specs.declared.values.Dynamic.{Dynamic}
use Rattle.grain_program.specs.View.{name_of}
use Rattle.grain_chain.specs.declared.origins.Awaited.TheVariants as awaited
use Rattle.grain_chain.proofs.Asks.{asks_with, asks_less, one_of}
use Rattle.grain_chain.proofs.walks.Walk.set_property.Goals as goal

pub returns-clause-goes : goal.returns-clause-goes
returns-clause-goes c =
    asks_with c.args.context c.args.self.now c.ask.new.self c.args.pos c.name_at-setter.result.now
    (name_of c.args.context.program.now c.args.setter)
    c.in_ok-values.values (c.args.set ∷ [])
    (awaited.PropertySet c.args.name c.args.pos c.args.assigned c.args.set) c.ask.result
    c.name_at-setter.ensures (one_of c.in_ok-values.values c.args.set
    (c.in_ok-values.ensures ∙ ap (λ (d : Dynamic). tree d ∷ []) c.in_ok-copy.ensures)) c.ask.ensures

pub returns-clause-needs : goal.returns-clause-needs
returns-clause-needs c =
    asks_less c.args.context.program.now c.args.self.now c.ask.new.self c.args.pos
    c.name_at-setter.result.now
    c.in_ok-values.values (awaited.PropertySet c.args.name c.args.pos c.args.assigned c.args.set)
    c.ask.result _ c.ask.ensures tt (omega arith)
