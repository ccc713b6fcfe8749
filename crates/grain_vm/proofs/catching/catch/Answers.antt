use Rattle.std.proofs.Common.{rules}
use Rattle.grain_means.specs.Means.{setup}
use Rattle.grain_vm.proofs.CaughtFrames.{can_catch, kept_at, none_catches, typed_at, goes_on_at, leaves_at, leaves_out}
use Rattle.grain_vm.proofs.catching.catch.Goals as goal

pub catch_by-requires-clause-operands : goal.catch_by-requires-clause-operands
catch_by-requires-clause-operands g c =
    (can_catch c.args.context.program.now c.requires.catches.0 c.args.run.now
    c.catching_handler.new.run
    c.in-Some.handler c.requires.catches.1 c.in-Some.ensures.stands
    c.catching_handler.ensures.others).0

pub catch_by-requires-clause-cursors : goal.catch_by-requires-clause-cursors
catch_by-requires-clause-cursors g c =
    (can_catch c.args.context.program.now c.requires.catches.0 c.args.run.now
    c.catching_handler.new.run
    c.in-Some.handler c.requires.catches.1 c.in-Some.ensures.stands
    c.catching_handler.ensures.others).1

pub catch_by-requires-clause-named : goal.catch_by-requires-clause-named
catch_by-requires-clause-named g c =
    (can_catch c.args.context.program.now c.requires.catches.0 c.args.run.now
    c.catching_handler.new.run
    c.in-Some.handler c.requires.catches.1 c.in-Some.ensures.stands
    c.catching_handler.ensures.others).2

pub leave_by_fault-requires-in-Err-clause-unnoted :
    goal.leave_by_fault-requires-in-Err-clause-unnoted
leave_by_fault-requires-in-Err-clause-unnoted g c = search rules

pub leave_by_fault-requires-in-Ok-clause-unnoted : goal.leave_by_fault-requires-in-Ok-clause-unnoted
leave_by_fault-requires-in-Ok-clause-unnoted g c = search rules

pub returns-then-goes_on-clause-goes : goal.returns-then-goes_on-clause-goes
returns-then-goes_on-clause-goes g c = λ f at low slot.
    let m = setup g.H.Host.law c.args.context.program.now c.args.context.engine.now in
    goes_on_at m f c.args.run.now c.catching_handler.new.run c.args.steps.now
    c.args.host.now c.in-Some.handler c.in-Some.ensures.same c.catching_handler.ensures.others
    c.catch_by.new.run c.catch_by.new.steps c.catch_by.new.host c.in-Ok.goes_on c.if-goes_on.true
    (c.in-Ok.ensures.same f at)

pub returns-then-goes_on-clause-kept : goal.returns-then-goes_on-clause-kept
returns-then-goes_on-clause-kept g c =
    kept_at c.args.run.now c.catching_handler.new.run c.catch_by.new.run c.in-Some.handler
    c.catching_handler.ensures.others c.args.context.engine.now c.in-Ok.goes_on c.if-goes_on.true
    c.in-Ok.ensures.caught

pub returns-then-goes_on-clause-typed : goal.returns-then-goes_on-clause-typed
returns-then-goes_on-clause-typed g c = λ f can.
    typed_at c.args.run.now c.catching_handler.new.run c.catch_by.new.run c.in-Some.handler
    c.catching_handler.ensures.others c.args.context.engine.now c.args.context.program.now f can
    c.in-Some.ensures.stands c.in-Ok.goes_on c.if-goes_on.true c.in-Ok.ensures.caught

pub returns-in-Err-clause-goes : goal.returns-in-Err-clause-goes
returns-in-Err-clause-goes g c = λ f at low slot.
    let m = setup g.H.Host.law c.args.context.program.now c.args.context.engine.now in
    leaves_out m f c.args.run.now c.catching_handler.new.run c.args.steps.now
    c.args.host.now c.in-Some.handler c.in-Some.ensures.same c.catching_handler.ensures.others
    c.catch_by.new.run c.catch_by.new.steps c.catch_by.new.host c.leave_by_fault-in-Err.new.run
    (rw (at, low, slot) c.leave_by_fault-in-Err.ensures) c.in-Err.e (c.in-Err.ensures.same f at)

pub returns-else-goes_on-clause-goes : goal.returns-else-goes_on-clause-goes
returns-else-goes_on-clause-goes g c = λ f at low slot.
    let m = setup g.H.Host.law c.args.context.program.now c.args.context.engine.now in
    leaves_at m f c.args.run.now c.catching_handler.new.run c.args.steps.now
    c.args.host.now c.in-Some.handler c.in-Some.ensures.same c.catching_handler.ensures.others
    c.catch_by.new.run c.catch_by.new.steps c.catch_by.new.host c.leave_by_fault-in-Ok.new.run
    (rw (at, low, slot) c.leave_by_fault-in-Ok.ensures) c.in-Ok.goes_on c.if-goes_on.false
    (c.in-Ok.ensures.same f at)

pub returns-in_default-clause-goes : goal.returns-in_default-clause-goes
returns-in_default-clause-goes g c = λ f at low slot.
    none_catches (setup g.H.Host.law c.args.context.program.now c.args.context.engine.now) f
    c.args.run.now c.catching_handler.new.run c.leave_by_fault.new.run c.args.steps.now
    c.args.host.now c.in_default.ensures.same c.catching_handler.ensures.others
    (rw (at, low, slot) c.leave_by_fault.ensures)
