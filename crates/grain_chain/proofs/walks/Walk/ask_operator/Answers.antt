use Rattle.std.proofs.Common.{◌∷◌, [], refl, ap, ◌∙◌, arith}
use Rattle.grain_value.specs.View.{tree}
use Rattle.grain_value.specs.declared.values.Dynamic.{Dynamic}
use Rattle.grain_program.specs.View.{name_of}
use Rattle.grain_chain.specs.declared.walks.Walk.{Walk}
use Rattle.grain_chain.specs.declared.origins.Awaited.TheVariants as awaited
use Rattle.grain_chain.proofs.Strides.{from_same, then_goes, looks}
use Rattle.grain_chain.proofs.Asks.{asks_with, asks_less, two_of}
use Rattle.grain_chain.proofs.walks.Walk.ask_operator.Goals as goal

pub returns-clause-goes : goal.returns-clause-goes
returns-clause-goes c =
    let x = c.args.context in
    let w = c.args.self.now in
    let w1 : Walk = record w { value = c.replace-value.new.dest } in
    let asked = asks_with x w1 c.ask.new.self c.args.pos c.name_at-name.result.now
    (name_of x.program.now c.args.op.op_name) c.in_ok-values.values
    (c.target.result.now ∷ w.value ∷ []) (awaited.Operator c.args.pos) c.ask.result
    c.name_at-name.ensures
    (two_of c.in_ok-values.values c.target.result.now w.value (c.in_ok-values.ensures
    ∙ ap (λ (d : Dynamic). tree d ∷ tree c.replace-value.result ∷ []) c.in_ok-target.ensures
    ∙ ap (λ (d : Dynamic). tree c.target.result.now ∷ tree d ∷ []) c.replace-value.ensures.value))
    c.ask.ensures in
    then_goes x w w c.ask.new.self _ _ c.ask.result
    (looks x w c.target.result.now _ c.target.ensures)
    (from_same x w w1 c.ask.new.self _ c.ask.result (λ k. refl) asked)

pub returns-clause-needs : goal.returns-clause-needs
returns-clause-needs c =
    asks_less c.args.context.program.now
    (let w1 : Walk = record c.args.self.now { value = c.replace-value.new.dest } in w1) c.ask.new.self
    c.args.pos c.name_at-name.result.now c.in_ok-values.values (awaited.Operator c.args.pos)
    c.ask.result _ c.ask.ensures tt (omega arith)
