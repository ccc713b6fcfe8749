use Rattle.std.proofs.Common.{◌∷◌, [], codes, refl, ap, ◌∙◌, arith}
use Rattle.grain_value.specs.View.{tree}
use Rattle.grain_value.specs.declared.values.Dynamic.{Dynamic}
use Rattle.grain_value.specs.declared.values.Dynamic.TheVariants as dynamic
use Rattle.grain_program.specs.View.{name_of}
use Rattle.grain_chain.specs.declared.origins.Awaited.TheVariants as awaited
use Rattle.grain_chain.proofs.Asks.{asks_with, asks_less, one_of}
use Rattle.grain_chain.proofs.walks.Walk.get_instead.Goals as goal

pub returns-clause-goes : goal.returns-clause-goes
returns-clause-goes c =
    let w = c.args.self.now in
    asks_with c.args.context w c.ask.new.self c.args.pos (codes "index$get$") (codes "index$get$")
    c.in_ok-values.values (dynamic.Text (name_of c.args.context.program.now c.args.name) ∷ [])
    (awaited.GotInstead c.args.fault c.args.into) c.ask.result refl
    (one_of c.in_ok-values.values (dynamic.Text (name_of c.args.context.program.now c.args.name))
    (c.in_ok-values.ensures ∙ ap (λ (d : Dynamic). tree d ∷ []) c.in_ok-name.ensures)) c.ask.ensures

pub returns-clause-needs : goal.returns-clause-needs
returns-clause-needs c =
    asks_less c.args.context.program.now c.args.self.now c.ask.new.self c.args.pos (codes "index$get$")
    c.in_ok-values.values (awaited.GotInstead c.args.fault c.args.into) c.ask.result _ c.ask.ensures
    c.requires.at (omega arith)
