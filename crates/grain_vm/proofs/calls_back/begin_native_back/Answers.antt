use Rattle.std.proofs.Common.{refl}
use Rattle.grain_vm.proofs.BackNatives.{back_deep, back_failed, back_up, back_wants}
use Rattle.grain_vm.proofs.calls_back.begin_native_back.Goals as goal

pub returns-in-Err-clause-begins : goal.returns-in-Err-clause-begins
returns-in-Err-clause-begins g c =
    back_wants g.H.Host.law c.args.context.program.now c.args.context.engine.now c.args.pos
    c.args.run.now c.args.steps.now c.args.host.now c.charge_at.new.self c.charge_at.new.steps
    c.charge_at.new.host c.in-Err.field-0 c.in-Err.ensures.same c.in-Err.ensures.run

pub returns-then-not-taken-clause-begins : goal.returns-then-not-taken-clause-begins
returns-then-not-taken-clause-begins g c =
    back_failed g.H.Host.law c.args.context.program.now c.args.context.engine.now c.args.pos
    c.args.run.now c.args.steps.now c.args.host.now c.charge_at.new.self c.charge_at.new.steps
    c.charge_at.new.host c.in-Ok.taken c.if-not-taken.true c.in-Ok.ensures.same c.in-Ok.ensures.run
    c.take_fault.result c.take_fault.new.self c.take_fault.ensures.value c.take_fault.ensures.after

pub returns-in-None-clause-begins : goal.returns-in-None-clause-begins
returns-in-None-clause-begins g c =
    back_deep g.H.Host.law c.args.context.program.now c.args.context.engine.now c.args.pos
    c.args.run.now c.args.steps.now c.args.host.now c.charge_at.new.self c.charge_at.new.steps
    c.charge_at.new.host c.in-Ok.taken c.if-not-taken.false c.in-Ok.ensures.same
    c.in-Ok.ensures.run c.mark.new.self c.mark.ensures c.in-None.ensures

pub returns-in-Some-clause-begins : goal.returns-in-Some-clause-begins
returns-in-Some-clause-begins g c =
    back_up g.H.Host.law c.args.context.program.now c.args.context.engine.now c.args.pos
    c.args.run.now c.args.steps.now c.args.host.now c.charge_at.new.self c.charge_at.new.steps
    c.charge_at.new.host c.in-Ok.taken c.if-not-taken.false c.in-Ok.ensures.same
    c.in-Ok.ensures.run c.in-Some.ensures.1 c.in-Some.level c.in-Some.ensures.0
    (record c.charge_at.new.self { level = c.in-Some.level }) refl
