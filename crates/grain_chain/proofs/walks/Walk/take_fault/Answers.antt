use Rattle.std.proofs.Common.{Ok, sym, subst, arith}
use Rattle.grain_fault.specs.Problems.{problem_of}
use Rattle.grain_chain.specs.Walking.{gone_into}
use Rattle.grain_chain.specs.Going.{Goes, Needs}
use Rattle.grain_chain.proofs.Stepping.{needs_more}
use Rattle.grain_means.specs.Worlds.{Failed}
use Rattle.grain_chain.specs.Walking.{resumed, still, IsAtStep}
use Rattle.grain_chain.specs.declared.origins.Awaited.{Awaited}
use Rattle.grain_chain.proofs.Strides.{fails}
use Rattle.grain_chain.proofs.walks.Walk.take_fault.Goals as goal

pub returns-in-IndexSet-clause-goes : goal.returns-in-IndexSet-clause-goes
returns-in-IndexSet-clause-goes c =
    let x = c.args.context in
    subst (λ (s : Awaited). Goes x c.args.self.now (resumed x.engine.now x.program.now c.args.self.now s
    (Failed (problem_of c.args.fault))) c.not_set.result c.not_set.new.self) (sym c.in-IndexSet.is)
    (c.not_set.ensures.goes)

pub returns-in-IndexSet-clause-needs : goal.returns-in-IndexSet-clause-needs
returns-in-IndexSet-clause-needs c =
    let p = c.args.context.program.now in
    subst (λ (s : Awaited). Needs p c.not_set.new.self c.not_set.result (still p c.args.self.now s))
    (sym c.in-IndexSet.is) (needs_more p c.not_set.new.self c.not_set.result _ _ c.not_set.ensures.needs
    (omega arith))

pub returns-in-PropertySet-clause-goes : goal.returns-in-PropertySet-clause-goes
returns-in-PropertySet-clause-goes c =
    let x = c.args.context in
    subst (λ (s : Awaited). Goes x c.args.self.now (resumed x.engine.now x.program.now c.args.self.now s
    (Failed (problem_of c.args.fault))) c.property_not_set.result c.property_not_set.new.self)
    (sym c.in-PropertySet.is) (c.property_not_set.ensures.goes)

pub returns-in-PropertySet-clause-needs : goal.returns-in-PropertySet-clause-needs
returns-in-PropertySet-clause-needs c =
    let p = c.args.context.program.now in
    subst (λ (s : Awaited). Needs p c.property_not_set.new.self c.property_not_set.result
    (still p c.args.self.now s))
    (sym c.in-PropertySet.is) (needs_more p c.property_not_set.new.self
    c.property_not_set.result _ _ c.property_not_set.ensures.needs (omega arith))

pub returns-in-SetInstead-clause-goes : goal.returns-in-SetInstead-clause-goes
returns-in-SetInstead-clause-goes c =
    let x = c.args.context in
    subst (λ (s : Awaited). Goes x c.args.self.now (resumed x.engine.now x.program.now c.args.self.now s
    (Failed (problem_of c.args.fault))) c.not_set_instead.result c.not_set_instead.new.self)
    (sym c.in-SetInstead.is) (c.not_set_instead.ensures.goes)

pub returns-in-SetInstead-clause-needs : goal.returns-in-SetInstead-clause-needs
returns-in-SetInstead-clause-needs c =
    let p = c.args.context.program.now in
    subst (λ (s : Awaited). Needs p c.not_set_instead.new.self c.not_set_instead.result
    (still p c.args.self.now s))
    (sym c.in-SetInstead.is) (needs_more p c.not_set_instead.new.self
    c.not_set_instead.result _ _ c.not_set_instead.ensures.needs (omega arith))

pub returns-in-PropertyGot-clause-goes : goal.returns-in-PropertyGot-clause-goes
returns-in-PropertyGot-clause-goes c =
    let x = c.args.context in
    subst (λ (s : Awaited). Goes x c.args.self.now (resumed x.engine.now x.program.now c.args.self.now s
    (Failed (problem_of c.args.fault))) c.property_not_got.result c.property_not_got.new.self)
    (sym c.in-PropertyGot.is) (c.property_not_got.ensures.goes)

pub returns-in-PropertyGot-clause-needs : goal.returns-in-PropertyGot-clause-needs
returns-in-PropertyGot-clause-needs c =
    let p = c.args.context.program.now in
    subst (λ (s : Awaited). Needs p c.property_not_got.new.self c.property_not_got.result
    (still p c.args.self.now s))
    (sym c.in-PropertyGot.is) (needs_more p c.property_not_got.new.self
    c.property_not_got.result _ _ c.property_not_got.ensures.needs (omega arith))

pub returns-in-GotInstead-clause-goes : goal.returns-in-GotInstead-clause-goes
returns-in-GotInstead-clause-goes c =
    let x = c.args.context in
    subst (λ (s : Awaited). Goes x c.args.self.now (resumed x.engine.now x.program.now c.args.self.now s
    (Failed (problem_of c.args.fault))) c.not_got_instead.result c.not_got_instead.new.self)
    (sym c.in-GotInstead.is) (c.not_got_instead.ensures.goes x
    (gone_into x.engine.now x.program.now c.args.self.now c.in-GotInstead._into))

pub returns-in-GotInstead-clause-needs : goal.returns-in-GotInstead-clause-needs
returns-in-GotInstead-clause-needs c =
    let p = c.args.context.program.now in
    subst (λ (s : Awaited). Needs p c.not_got_instead.new.self c.not_got_instead.result
    (still p c.args.self.now s))
    (sym c.in-GotInstead.is) (c.not_got_instead.ensures.needs p _)

pub returns-in-IndexRead-clause-goes : goal.returns-in-IndexRead-clause-goes
returns-in-IndexRead-clause-goes c =
    let x = c.args.context in
    subst (λ (s : Awaited). Goes x c.args.self.now (resumed x.engine.now x.program.now c.args.self.now s
    (Failed (problem_of c.args.fault))) c.not_read.result c.not_read.new.self) (sym c.in-IndexRead.is)
    (c.not_read.ensures.goes x
    (gone_into x.engine.now x.program.now c.args.self.now c.in-IndexRead._into))

pub returns-in-IndexRead-clause-needs : goal.returns-in-IndexRead-clause-needs
returns-in-IndexRead-clause-needs c =
    let p = c.args.context.program.now in
    subst (λ (s : Awaited). Needs p c.not_read.new.self c.not_read.result (still p c.args.self.now s))
    (sym c.in-IndexRead.is) (needs_more p c.not_read.new.self
    c.not_read.result _ _ (c.not_read.ensures.needs p) (omega arith))

pub returns-in-OpAssigned-clause-goes : goal.returns-in-OpAssigned-clause-goes
returns-in-OpAssigned-clause-goes c =
    let x = c.args.context in
    subst (λ (s : Awaited). Goes x c.args.self.now (resumed x.engine.now x.program.now c.args.self.now s
    (Failed (problem_of c.args.fault))) c.not_assigned.result c.not_assigned.new.self)
    (sym c.in-OpAssigned.is) (c.not_assigned.ensures.goes)

pub returns-in-OpAssigned-clause-needs : goal.returns-in-OpAssigned-clause-needs
returns-in-OpAssigned-clause-needs c =
    let p = c.args.context.program.now in
    subst (λ (s : Awaited). Needs p c.not_assigned.new.self c.not_assigned.result (still p c.args.self.now s))
    (sym c.in-OpAssigned.is) (needs_more p c.not_assigned.new.self
    c.not_assigned.result _ _ c.not_assigned.ensures.needs (omega arith))

pub returns-in-IndexGot-clause-goes : goal.returns-in-IndexGot-clause-goes
returns-in-IndexGot-clause-goes c =
    let x = c.args.context in
    subst (λ (s : Awaited). Goes x c.args.self.now (resumed x.engine.now x.program.now c.args.self.now s
    (Failed (problem_of c.args.fault))) (Ok c.failed.result) c.failed.new.self) (sym c.in-IndexGot.is)
    (fails x c.args.self.now c.failed.new.self c.args.fault c.failed.result c.failed.ensures.answer
    c.failed.ensures.left)

pub returns-clause-goes : goal.returns-clause-goes
returns-clause-goes c =
    let x = c.args.context in
    subst (λ (s : Awaited). Goes x c.args.self.now (resumed x.engine.now x.program.now c.args.self.now s
    (Failed (problem_of c.args.fault))) (Ok c.failed-in-Called.result) c.failed-in-Called.new.self)
    (sym c.in-Called.is)
    (fails x c.args.self.now c.failed-in-Called.new.self c.args.fault c.failed-in-Called.result
    c.failed-in-Called.ensures.answer
    c.failed-in-Called.ensures.left)

pub returns-in-Operator-clause-goes : goal.returns-in-Operator-clause-goes
returns-in-Operator-clause-goes c =
    let x = c.args.context in
    subst (λ (s : Awaited). Goes x c.args.self.now (resumed x.engine.now x.program.now c.args.self.now s
    (Failed (problem_of c.args.fault))) (Ok c.failed-in-Operator.result) c.failed-in-Operator.new.self)
    (sym c.in-Operator.is)
    (fails x c.args.self.now c.failed-in-Operator.new.self c.args.fault c.failed-in-Operator.result
    c.failed-in-Operator.ensures.answer
    c.failed-in-Operator.ensures.left)

pub property_not_got-requires : goal.property_not_got-requires
property_not_got-requires c = record {
  at =
      subst (λ (s : Awaited). IsAtStep c.args.context.program.now c.args.self.now s) c.in-PropertyGot.is
      c.requires.at;
}
