use Rattle.std.proofs.Common.{sym, subst, arith}
use Rattle.grain_chain.specs.Going.{Goes, Needs}
use Rattle.grain_chain.proofs.Stepping.{needs_more}
use Rattle.grain_means.specs.Worlds.{Came}
use Rattle.grain_chain.specs.Walking.{resumed, still, IsAtStep}
use Rattle.grain_chain.specs.declared.origins.Awaited.{Awaited}
use Rattle.grain_chain.proofs.walks.Walk.take_value.Goals as goal

pub returns-in-IndexSet-clause-goes : goal.returns-in-IndexSet-clause-goes
returns-in-IndexSet-clause-goes c =
    let x = c.args.context in
    subst (λ (s : Awaited). Goes x c.args.self.now (resumed x.engine.now x.program.now c.args.self.now s
    (Came c.args.value)) c.walk_back.result c.walk_back.new.self) (sym c.in-IndexSet.is)
    c.walk_back.ensures.goes

pub returns-in-IndexSet-clause-needs : goal.returns-in-IndexSet-clause-needs
returns-in-IndexSet-clause-needs c =
    let p = c.args.context.program.now in
    subst (λ (s : Awaited). Needs p c.walk_back.new.self c.walk_back.result (still p c.args.self.now s))
    (sym c.in-IndexSet.is) (needs_more p c.walk_back.new.self c.walk_back.result _ _ c.walk_back.ensures.needs
    (omega arith))

pub returns-in-PropertySet-clause-goes : goal.returns-in-PropertySet-clause-goes
returns-in-PropertySet-clause-goes c =
    let x = c.args.context in
    subst (λ (s : Awaited). Goes x c.args.self.now (resumed x.engine.now x.program.now c.args.self.now s
    (Came c.args.value)) c.walk_back-in-PropertySet.result c.walk_back-in-PropertySet.new.self)
    (sym c.in-PropertySet.is) c.walk_back-in-PropertySet.ensures.goes

pub returns-in-PropertySet-clause-needs : goal.returns-in-PropertySet-clause-needs
returns-in-PropertySet-clause-needs c =
    let p = c.args.context.program.now in
    subst (λ (s : Awaited). Needs p c.walk_back-in-PropertySet.new.self c.walk_back-in-PropertySet.result
    (still p c.args.self.now s))
    (sym c.in-PropertySet.is) (needs_more p c.walk_back-in-PropertySet.new.self
    c.walk_back-in-PropertySet.result _ _ c.walk_back-in-PropertySet.ensures.needs (omega arith))

pub returns-in-SetInstead-clause-goes : goal.returns-in-SetInstead-clause-goes
returns-in-SetInstead-clause-goes c =
    let x = c.args.context in
    subst (λ (s : Awaited). Goes x c.args.self.now (resumed x.engine.now x.program.now c.args.self.now s
    (Came c.args.value)) c.walk_back-in-SetInstead.result c.walk_back-in-SetInstead.new.self)
    (sym c.in-SetInstead.is) c.walk_back-in-SetInstead.ensures.goes

pub returns-in-SetInstead-clause-needs : goal.returns-in-SetInstead-clause-needs
returns-in-SetInstead-clause-needs c =
    let p = c.args.context.program.now in
    subst (λ (s : Awaited). Needs p c.walk_back-in-SetInstead.new.self c.walk_back-in-SetInstead.result
    (still p c.args.self.now s))
    (sym c.in-SetInstead.is) (needs_more p c.walk_back-in-SetInstead.new.self
    c.walk_back-in-SetInstead.result _ _ c.walk_back-in-SetInstead.ensures.needs (omega arith))

pub returns-in-PropertyGot-clause-goes : goal.returns-in-PropertyGot-clause-goes
returns-in-PropertyGot-clause-goes c =
    let x = c.args.context in
    subst (λ (s : Awaited). Goes x c.args.self.now (resumed x.engine.now x.program.now c.args.self.now s
    (Came c.args.value)) c.go_in.result c.go_in.new.self) (sym c.in-PropertyGot.is) c.go_in.ensures.goes

pub returns-in-PropertyGot-clause-needs : goal.returns-in-PropertyGot-clause-needs
returns-in-PropertyGot-clause-needs c =
    let p = c.args.context.program.now in
    subst (λ (s : Awaited). Needs p c.go_in.new.self c.go_in.result (still p c.args.self.now s))
    (sym c.in-PropertyGot.is) (needs_more p c.go_in.new.self c.go_in.result _ _ c.go_in.ensures.needs
    (omega arith))

pub returns-in-GotInstead-clause-goes : goal.returns-in-GotInstead-clause-goes
returns-in-GotInstead-clause-goes c =
    let x = c.args.context in
    subst (λ (s : Awaited). Goes x c.args.self.now (resumed x.engine.now x.program.now c.args.self.now s
    (Came c.args.value)) c.go_in-in-GotInstead.result c.go_in-in-GotInstead.new.self)
    (sym c.in-GotInstead.is) c.go_in-in-GotInstead.ensures.goes

pub returns-in-GotInstead-clause-needs : goal.returns-in-GotInstead-clause-needs
returns-in-GotInstead-clause-needs c =
    let p = c.args.context.program.now in
    subst (λ (s : Awaited). Needs p c.go_in-in-GotInstead.new.self c.go_in-in-GotInstead.result
    (still p c.args.self.now s))
    (sym c.in-GotInstead.is) (needs_more p c.go_in-in-GotInstead.new.self
    c.go_in-in-GotInstead.result _ _ c.go_in-in-GotInstead.ensures.needs (omega arith))

pub returns-in-IndexGot-clause-goes : goal.returns-in-IndexGot-clause-goes
returns-in-IndexGot-clause-goes c =
    let x = c.args.context in
    subst (λ (s : Awaited). Goes x c.args.self.now (resumed x.engine.now x.program.now c.args.self.now s
    (Came c.args.value)) c.go_in-in-IndexGot.result c.go_in-in-IndexGot.new.self) (sym c.in-IndexGot.is)
    c.go_in-in-IndexGot.ensures.goes

pub returns-in-IndexGot-clause-needs : goal.returns-in-IndexGot-clause-needs
returns-in-IndexGot-clause-needs c =
    let p = c.args.context.program.now in
    subst (λ (s : Awaited). Needs p c.go_in-in-IndexGot.new.self c.go_in-in-IndexGot.result
    (still p c.args.self.now s))
    (sym c.in-IndexGot.is) (needs_more p c.go_in-in-IndexGot.new.self
    c.go_in-in-IndexGot.result _ _ c.go_in-in-IndexGot.ensures.needs (omega arith))

pub returns-in-IndexRead-clause-goes : goal.returns-in-IndexRead-clause-goes
returns-in-IndexRead-clause-goes c =
    let x = c.args.context in
    subst (λ (s : Awaited). Goes x c.args.self.now (resumed x.engine.now x.program.now c.args.self.now s
    (Came c.args.value)) c.go_in-in-IndexRead.result c.go_in-in-IndexRead.new.self)
    (sym c.in-IndexRead.is) c.go_in-in-IndexRead.ensures.goes

pub returns-in-IndexRead-clause-needs : goal.returns-in-IndexRead-clause-needs
returns-in-IndexRead-clause-needs c =
    let p = c.args.context.program.now in
    subst (λ (s : Awaited). Needs p c.go_in-in-IndexRead.new.self c.go_in-in-IndexRead.result
    (still p c.args.self.now s))
    (sym c.in-IndexRead.is) (needs_more p c.go_in-in-IndexRead.new.self
    c.go_in-in-IndexRead.result _ _ c.go_in-in-IndexRead.ensures.needs (omega arith))

pub returns-in-OpAssigned-clause-goes : goal.returns-in-OpAssigned-clause-goes
returns-in-OpAssigned-clause-goes c =
    let x = c.args.context in
    subst (λ (s : Awaited). Goes x c.args.self.now (resumed x.engine.now x.program.now c.args.self.now s
    (Came c.args.value)) c.walk_back-in-OpAssigned.result c.walk_back-in-OpAssigned.new.self)
    (sym c.in-OpAssigned.is) c.walk_back-in-OpAssigned.ensures.goes

pub returns-in-OpAssigned-clause-needs : goal.returns-in-OpAssigned-clause-needs
returns-in-OpAssigned-clause-needs c =
    let p = c.args.context.program.now in
    subst (λ (s : Awaited). Needs p c.walk_back-in-OpAssigned.new.self c.walk_back-in-OpAssigned.result
    (still p c.args.self.now s))
    (sym c.in-OpAssigned.is) (needs_more p c.walk_back-in-OpAssigned.new.self
    c.walk_back-in-OpAssigned.result _ _ c.walk_back-in-OpAssigned.ensures.needs (omega arith))

pub returns-in-Operator-clause-goes : goal.returns-in-Operator-clause-goes
returns-in-Operator-clause-goes c =
    let x = c.args.context in
    subst (λ (s : Awaited). Goes x c.args.self.now (resumed x.engine.now x.program.now c.args.self.now s
    (Came c.args.value)) c.store_answer.result c.store_answer.new.self) (sym c.in-Operator.is)
    c.store_answer.ensures.goes

pub returns-in-Operator-clause-needs : goal.returns-in-Operator-clause-needs
returns-in-Operator-clause-needs c =
    let p = c.args.context.program.now in
    subst (λ (s : Awaited). Needs p c.store_answer.new.self c.store_answer.result (still p c.args.self.now s))
    (sym c.in-Operator.is) (needs_more p c.store_answer.new.self
    c.store_answer.result _ _ c.store_answer.ensures.needs (omega arith))

pub returns-clause-goes : goal.returns-clause-goes
returns-clause-goes c =
    let x = c.args.context in
    subst (λ (s : Awaited). Goes x c.args.self.now (resumed x.engine.now x.program.now c.args.self.now s
    (Came c.args.value)) c.go_in-in-Called.result c.go_in-in-Called.new.self)
    (sym c.in-Called.is) c.go_in-in-Called.ensures.goes

pub returns-clause-needs : goal.returns-clause-needs
returns-clause-needs c =
    let p = c.args.context.program.now in
    subst (λ (s : Awaited). Needs p c.go_in-in-Called.new.self c.go_in-in-Called.result
    (still p c.args.self.now s))
    (sym c.in-Called.is) (needs_more p c.go_in-in-Called.new.self
    c.go_in-in-Called.result _ _ c.go_in-in-Called.ensures.needs (omega arith))

pub go_in-requires : goal.go_in-requires
go_in-requires c = record {
  at =
      subst (λ (s : Awaited). IsAtStep c.args.context.program.now c.args.self.now s) c.in-PropertyGot.is
      c.requires.at;
}

pub go_in-requires-in-GotInstead : goal.go_in-requires-in-GotInstead
go_in-requires-in-GotInstead c = record {
  at =
      subst (λ (s : Awaited). IsAtStep c.args.context.program.now c.args.self.now s) c.in-GotInstead.is
      c.requires.at;
}

pub go_in-requires-in-IndexGot : goal.go_in-requires-in-IndexGot
go_in-requires-in-IndexGot c = record {
  at =
      subst (λ (s : Awaited). IsAtStep c.args.context.program.now c.args.self.now s) c.in-IndexGot.is
      c.requires.at;
}

pub go_in-requires-in-IndexRead : goal.go_in-requires-in-IndexRead
go_in-requires-in-IndexRead c = record {
  at =
      subst (λ (s : Awaited). IsAtStep c.args.context.program.now c.args.self.now s) c.in-IndexRead.is
      c.requires.at;
}

pub go_in-requires-in-Called : goal.go_in-requires-in-Called
go_in-requires-in-Called c = record {
  at =
      subst (λ (s : Awaited). IsAtStep c.args.context.program.now c.args.self.now s) c.in-Called.is
      c.requires.at;
}
