use Rattle.std.proofs.Common.{◌∷◌, [], ap, ◌∙◌, arith}
use Rattle.grain_value.specs.View.{tree}
use Rattle.grain_value.specs.declared.values.Dynamic.{Dynamic}
use Rattle.grain_program.specs.View.{name_of}
use Rattle.grain_chain.specs.declared.origins.Awaited.TheVariants as awaited
use Rattle.grain_chain.proofs.Asks.{asks_with, asks_less, one_of}
use Rattle.grain_chain.proofs.walks.Walk.ask_op_assign.Goals as goal

pub returns-clause-goes : goal.returns-clause-goes
returns-clause-goes c =
    let w = c.args.self.now in
    asks_with c.args.context w c.ask.new.self c.args.pos c.name_at-name.result.now
    (name_of c.args.context.program.now c.args.op.op_assign_name) c.in_ok-values.values
    (w.value ∷ []) (awaited.OpAssigned c.args.pos c.args.op) c.ask.result c.name_at-name.ensures
    (one_of c.in_ok-values.values w.value
    (c.in_ok-values.ensures ∙ ap (λ (d : Dynamic). tree d ∷ []) c.in_ok-copy.ensures)) c.ask.ensures

pub returns-clause-needs : goal.returns-clause-needs
returns-clause-needs c =
    asks_less c.args.context.program.now c.args.self.now c.ask.new.self c.args.pos
    c.name_at-name.result.now c.in_ok-values.values (awaited.OpAssigned c.args.pos c.args.op)
    c.ask.result _ c.ask.ensures tt (omega arith)
