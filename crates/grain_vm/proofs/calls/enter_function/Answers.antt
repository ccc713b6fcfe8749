use Rattle.grain_vm.proofs.Entering.{begun, call_refused, call_wants}
use Rattle.grain_vm.proofs.calls.enter_function.Goals as goal

pub returns-then-taken-clause-same : goal.returns-then-taken-clause-same
returns-then-taken-clause-same g c = λ next.
    begun g.H.Host.law c.args.context.program.now c.args.context.engine.now c.args.frame.now
    c.args.run.now c.charge.new.self c.function_entered.new.run c.args.steps.now c.charge.new.steps
    c.function_entered.new.steps
    c.args.host.now c.charge.new.host c.args.function.now c.in-Ok.taken c.if-taken.true
    c.in-Ok.ensures.same c.in-Ok.ensures.run c.function_entered.result next
    (c.function_entered.ensures.same next c.charge.new.host)

pub returns-else-taken-clause-same : goal.returns-else-taken-clause-same
returns-else-taken-clause-same g c = λ next.
    call_refused g.H.Host.law c.args.context.program.now c.args.context.engine.now c.args.frame.now
    c.args.run.now c.charge.new.self c.charge.new.self c.args.steps.now c.charge.new.steps
    c.charge.new.steps
    c.args.host.now c.charge.new.host c.args.function.now c.in-Ok.taken c.if-taken.false
    c.in-Ok.ensures.same next

pub returns-in-Err-clause-same : goal.returns-in-Err-clause-same
returns-in-Err-clause-same g c = λ next.
    call_wants g.H.Host.law c.args.context.program.now c.args.context.engine.now c.args.frame.now
    c.args.run.now c.charge.new.self c.charge.new.self c.args.steps.now c.charge.new.steps
    c.charge.new.steps
    c.args.host.now c.charge.new.host c.args.function.now c.in-Err.e c.in-Err.ensures.same next
