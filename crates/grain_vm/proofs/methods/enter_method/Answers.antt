use Rattle.std.proofs.Common.{rules, ◌≡◌, false, length, nat_lt, true}
use Rattle.grain_vm.proofs.MethodEntries.{begun_deep, begun_failed, begun_full, begun_wants, begun_with}
use Rattle.grain_vm.proofs.methods.enter_method.Goals as goal

pub returns-in-Err-clause-enters : goal.returns-in-Err-clause-enters
returns-in-Err-clause-enters g c =
    begun_wants g.H.Host.law c.args.context.program.now c.args.context.engine.now c.args.call.pos
    c.args.run.now c.args.steps.now c.args.host.now c.charge_at.new.self c.charge_at.new.steps
    c.charge_at.new.host c.args.function.now c.args.call.arguments c.args.call.receiver
    c.in-Err.field-0 c.in-Err.ensures.same c.in-Err.ensures.run

pub returns-then-not-taken-clause-enters : goal.returns-then-not-taken-clause-enters
returns-then-not-taken-clause-enters g c =
    begun_failed g.H.Host.law c.args.context.program.now c.args.context.engine.now c.args.call.pos
    c.args.run.now c.args.steps.now c.args.host.now c.charge_at.new.self c.charge_at.new.steps
    c.charge_at.new.host c.args.function.now c.args.call.arguments c.args.call.receiver
    c.in-Ok.taken c.if-not-taken.true c.in-Ok.ensures.same c.in-Ok.ensures.run c.take_fault.result
    c.take_fault.new.self c.take_fault.ensures.value c.take_fault.ensures.after

pub returns-in_default-clause-enters : goal.returns-in_default-clause-enters
returns-in_default-clause-enters g c =
    begun_deep g.H.Host.law c.args.context.program.now c.args.context.engine.now c.args.call.pos
    c.args.run.now c.args.steps.now c.args.host.now c.charge_at.new.self c.charge_at.new.steps
    c.charge_at.new.host c.args.function.now c.args.call.arguments c.args.call.receiver
    c.in-Ok.taken c.if-not-taken.false c.in-Ok.ensures.same c.in-Ok.ensures.run c.mark.new.self
    c.mark.ensures c.in_default.ensures

pub returns-then-len-context-clause-enters : goal.returns-then-len-context-clause-enters
returns-then-len-context-clause-enters g c =
    let many : nat_lt c.args.context.engine.now.limits.variables
    (length c.args.function.now.params) ≡ true = search rules in
    begun_full g.H.Host.law c.args.context.program.now c.args.context.engine.now c.args.call.pos
    c.args.run.now c.args.steps.now c.args.host.now c.charge_at.new.self c.charge_at.new.steps
    c.charge_at.new.host c.args.function.now c.args.call.arguments c.args.call.receiver
    c.in-Ok.taken c.if-not-taken.false c.in-Ok.ensures.same c.in-Ok.ensures.run
    c.mark-then-len-context.new.self c.mark-then-len-context.ensures c.in-Some.ensures.1 many

pub returns-clause-enters : goal.returns-clause-enters
returns-clause-enters g c =
    let few : nat_lt c.args.context.engine.now.limits.variables
    (length c.args.function.now.params) ≡ false = search rules in
    begun_with g.H.Host.law c.args.context.program.now c.args.context.engine.now c.args.call.pos
    c.args.run.now c.args.steps.now c.args.host.now c.charge_at.new.self c.charge_at.new.steps
    c.charge_at.new.host c.args.function.now c.args.call.arguments c.args.call.receiver
    c.in-Ok.taken c.if-not-taken.false c.in-Ok.ensures.same c.in-Ok.ensures.run c.in-Some.ensures.1
    few c.enter_bound.result c.enter_bound.new.run c.enter_bound.new.steps
    c.enter_bound.ensures.entered c.enter_bound.ensures.marked
