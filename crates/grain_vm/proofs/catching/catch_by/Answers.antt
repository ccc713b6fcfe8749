use Rattle.std.proofs.Common.{rules}
use Rattle.grain_frame.specs.declared.runs.Run.{Run}
use Rattle.grain_vm.proofs.CatchSteps.{not_bound, bind_wants, charge_stops, charged_at}
use Rattle.grain_vm.proofs.catching.catch_by.Goals as goal

pub returns-in_err-bind_caught-clause-same : goal.returns-in_err-bind_caught-clause-same
returns-in_err-bind_caught-clause-same g c = λ f at.
    let s = c.args.run.now in
    let s1 = c.cut_back.new.run in
    bind_wants g.H.Host.law c.args.context.program.now c.args.context.engine.now f s s1
    c.args.steps.now c.args.host.now c.args.handler (search rules) (search rules)
    c.in_err-bind_caught.field-0.0 c.from_residual.result c.bind_caught.new.run
    c.bind_caught.new.steps (search rules) c.in_err-bind_caught.ensures.same

pub returns-then-not-branch-clause-same : goal.returns-then-not-branch-clause-same
returns-then-not-branch-clause-same g c = λ f at.
    let s = c.args.run.now in
    let s1 = c.cut_back.new.run in
    not_bound g.H.Host.law c.args.context.program.now c.args.context.engine.now f
    s s1 c.args.steps.now c.args.host.now c.args.handler (search rules) (search rules)
    c.in_ok-bind_caught.field-0 c.bind_caught.new.run c.bind_caught.new.steps c.if-not-branch.true
    c.in_ok-bind_caught.ensures.same

pub returns-in_err-push_handler-clause-same : goal.returns-in_err-push_handler-clause-same
returns-in_err-push_handler-clause-same g c = λ f at.
    let s = c.args.run.now in
    let s1 = c.cut_back.new.run in
    let s3 : Run g.row.H.Denot =
    record c.take_fault.new.self { stacks = c.push_handler.new.self } in
    charge_stops g.H.Host.law c.args.context.program.now c.args.context.engine.now f
    s s1 c.args.steps.now c.args.host.now c.args.handler (search rules) (search rules)
    c.in_ok-bind_caught.field-0 c.bind_caught.new.run s3 c.bind_caught.new.steps
    (search rules) c.in_ok-bind_caught.ensures.same (search rules)
    c.from_residual-in_err-push_handler.result (search rules)

pub returns-clause-same : goal.returns-clause-same
returns-clause-same g c = λ f at.
    let s = c.args.run.now in
    let s1 = c.cut_back.new.run in
    let s3 : Run g.row.H.Denot =
    record c.take_fault.new.self { stacks = c.push_handler.new.self } in
    charged_at g.H.Host.law c.args.context.program.now c.args.context.engine.now f
    s s1 c.args.steps.now c.args.host.now c.args.handler (search rules) (search rules)
    c.in_ok-bind_caught.field-0 c.bind_caught.new.run s3 c.bind_caught.new.steps
    (search rules) c.in_ok-bind_caught.ensures.same (search rules)
    c.charge.result c.charge.new.self c.charge.new.steps c.charge.new.host
    c.take_fault.result c.charge.ensures.same (search rules) (search rules) (search rules)
    (search rules) (search rules)
