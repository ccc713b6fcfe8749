use Rattle.std.proofs.Common.{[], arith}
use Rattle.grain_program.specs.View.{name_of}
use Rattle.grain_chain.specs.declared.origins.Awaited.TheVariants as awaited
use Rattle.grain_chain.proofs.Asks.{asks_with, asks_less, none_of}
use Rattle.grain_chain.proofs.walks.Walk.get_property.Goals as goal

pub returns-clause-goes : goal.returns-clause-goes
returns-clause-goes c =
    let w = c.args.self.now in
    asks_with c.args.context w c.ask.new.self c.args.pos c.name_at-getter.result.now
    (name_of c.args.context.program.now c.args.getter) c.new-values.result []
    (awaited.PropertyGot c.args.name c.args.pos c.args.into) c.ask.result c.name_at-getter.ensures
    (none_of c.new-values.result c.new-values.ensures) c.ask.ensures

pub returns-clause-needs : goal.returns-clause-needs
returns-clause-needs c =
    asks_less c.args.context.program.now c.args.self.now c.ask.new.self c.args.pos
    c.name_at-getter.result.now c.new-values.result
    (awaited.PropertyGot c.args.name c.args.pos c.args.into) c.ask.result _ c.ask.ensures
    c.requires.at (omega arith)
