use Rattle.std.proofs.Common.{subst, arith}
use Rattle.grain_means.specs.Tasks.{Task}
use Rattle.grain_chain.specs.Going.{Goes}
use Rattle.grain_chain.specs.declared.origins.Awaited.TheVariants as awaited
use Rattle.grain_chain.specs.declared.origins.Onward.TheVariants as onward
use Rattle.grain_chain.specs.declared.origins.AnswerUse.{AnswerUse}
use Rattle.grain_chain.specs.declared.origins.Origin.TheVariants as origin
use Rattle.grain_chain.proofs.Asks.{asks_for, asks_for_less}
use Rattle.grain_chain.proofs.MethodSteps.{calls}
use Rattle.grain_chain.proofs.walks.Walk.invoke.Goals as goal

pub returns-clause-goes : goal.returns-clause-goes
returns-clause-goes c = λ x.
    let w = c.args.self.now in
    let s = c.args.step in
    let into : AnswerUse =
    record { pos = s.pos; own = s.last; origin = origin.Method; go = onward.Further } in
    subst (λ (t : Task). Goes x w t c.ask_for.result c.ask_for.new.self)
    (calls x w s c.args.what c.args.lends c.args.arguments)
    (asks_for x w c.ask_for.new.self s.pos c.args.what c.args.arguments
    (awaited.Called c.args.lends into) c.ask_for.result c.ask_for.ensures)

pub returns-clause-needs : goal.returns-clause-needs
returns-clause-needs c = λ p at can.
    let s = c.args.step in
    let into : AnswerUse =
    record { pos = s.pos; own = s.last; origin = origin.Method; go = onward.Further } in
    asks_for_less p c.args.self.now c.ask_for.new.self s.pos c.args.what c.args.arguments
    (awaited.Called c.args.lends into) c.ask_for.result _ c.ask_for.ensures at (omega arith) can
