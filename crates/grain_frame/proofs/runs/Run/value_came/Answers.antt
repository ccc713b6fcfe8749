-- What follows from the native's value.
use Rattle.std.proofs.Common.{◌≡◌, ◌-◌, length, refl, arith, rules}
use Rattle.std.proofs.lemmas.List.{length-take}
use Rattle.grain_value.specs.Operands.{under}
use Rattle.grain_means.specs.lemmas.Stretches.{stays}
use Rattle.grain_frame.specs.lemmas.Arms.{implements_after}
use Rattle.grain_frame.specs.lemmas.Bound.{as_bound}
use Rattle.grain_frame.proofs.Lent.{lent_used}
use Rattle.grain_frame.proofs.runs.Run.value_came.Goals as goal

pub returns-in-Push : goal.returns-in-Push
returns-in-Push g c =
    let s = c.args.self.now in
    let ops = under c.in-Push.count s.stacks.operands in
    let cut : c.cut.new.self ≡ record s.stacks { operands = ops } = search rules in
    let long = length-take (length s.stacks.operands - c.in-Push.count) s.stacks.operands in
    rw c.in-Push.is (record {
      implements = λ takes gives targets host leads. rw (leads.4, leads.5, leads.6)
          (as_bound (implements_after g.H.Host.law c.args.context.program.now
          c.args.context.engine.now c.args.frame.now c.push_on.new.frame s c.push_on.new.self
          c.args.steps.now c.push_on.new.steps c.cut.new.self ops host host cut
          (c.push_on.ensures.implements c.args.context.program.now c.args.context.engine.now host)
          (λ stop u place. rw cut refl) (λ b i. i) (omega (arith, long)) (omega (arith, long))));
    })

pub returns-in-Assign : goal.returns-in-Assign
returns-in-Assign g c =
    let s = c.args.self.now in
    rw (c.in-Assign.is, c.mark.ensures) (record {
      implements = λ takes gives targets host leads. rw (leads.1, leads.2, leads.3)
          (lent_used g.H.Host.law c.args.context.program.now c.args.context.engine.now
          c.args.frame.now s s c.args.steps.now c.args.steps.now host host s.scope s.cells
          s.receivers refl refl (refl, refl) refl leads.0.inside c.in-Assign.assignment.next
          c.pop-value.new.self stays c.pop-value.ensures.rest leads.0.ahead);
    })

pub returns-in-Operate : goal.returns-in-Operate
returns-in-Operate g c = rw c.in-Operate.is (record {
  implements = λ takes gives targets host leads. rw (leads.1, leads.2, leads.3)
      (c.assign_answer.ensures.implements host);
})

pub returns-in-Show : goal.returns-in-Show
returns-in-Show g c = rw c.in-Show.is (record {
  implements = λ takes gives targets host leads. rw (leads.1, leads.2, leads.3)
      (as_bound (c.append_answer.ensures.implements host));
})
