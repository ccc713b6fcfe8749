-- The turns of the loop, and how the walk ended.
use Rattle.grain_means.specs.Means.{setup}
use Rattle.grain_vm.specs.Driving.{is_named}
use Rattle.grain_vm.proofs.Driven.{begins, ends_well, ends_ill, goes_on}
use Rattle.grain_vm.proofs.Handing.{asks_rooted, asks_so, asks_waits, calls_rooted, calls_so, calls_waits}
use Rattle.grain_vm.proofs.driving.drive.Goals as goal

pub answers-init : goal.answers-init
answers-init g c =
    begins (setup g.H.Host.law c.args.context.program.now c.args.context.engine.now) c.args.run.now
    c.args.steps.now c.args.host.now c.args.walk.now c.args.missed.now c.args.answer c.requires.waits.0
    c.requires.waits.1

pub answers-preserved : goal.answers-preserved
answers-preserved g c =
    let served = rw c.in-Ok-Over.field-0-is at c.in-Ok-Over.ensures.serves in
    goes_on (setup g.H.Host.law c.args.context.program.now c.args.context.engine.now) c.args.run.now
    c.args.steps.now c.args.host.now c.args.walk.now c.args.missed.now c.args.answer c.answers.run
    c.serve_request.new.run c.keep_missed.new.run c.answers.steps c.serve_request.new.steps
    c.go_on-answer.new.steps c.answers.host c.serve_request.new.host c.answers.walk
    c.in-Need.request (is_named c.in-Need.request.what) c.in-Ok-Over.outcome c.in-Ok-Over.receiver
    c.go_on-answer.new.walk c.answers.missed c.keep_missed.new.missed c.go_on-answer.result
    (rw c.in-Need.is at c.answers.invariant) served.0 c.serve_request.ensures.run
    c.serve_request.ensures.before served.2
    (rw c.is_named-named.ensures at c.keep_missed.ensures.kept) c.keep_missed.ensures.run
    c.go_on-answer.ensures.did c.go_on-answer.ensures.carries c.go_on-answer.ensures.falls
    c.go_on-answer.ensures.rooted c.go_on-answer.ensures.marked

pub returns-in-Ended-clause-same : goal.returns-in-Ended-clause-same
returns-in-Ended-clause-same g c = λ k f seat done missed scope this seated root blind is.
    ends_well (setup g.H.Host.law c.args.context.program.now c.args.context.engine.now) c.args.run.now
    c.args.steps.now c.args.host.now c.args.walk.now c.args.missed.now c.args.answer c.answers.run
    c.answers.steps c.answers.host c.answers.walk c.answers.missed k f seat done missed scope this seated
    root is c.in-Ended.value c.in-Ended.changed blind (rw c.in-Ended.is at c.answers.invariant)

pub returns-in-Faulted-clause-same : goal.returns-in-Faulted-clause-same
returns-in-Faulted-clause-same g c = λ k f seat done missed scope this seated root blind is.
    ends_ill (setup g.H.Host.law c.args.context.program.now c.args.context.engine.now) c.args.run.now
    c.args.steps.now c.args.host.now c.args.walk.now c.args.missed.now c.args.answer c.answers.run
    c.answers.steps c.answers.host c.answers.walk c.answers.missed k f seat done missed scope this seated
    root is c.in-Faulted.fault c.in-Faulted.step (rw c.in-Faulted.is at c.answers.invariant)

pub returns-in-Ended-clause-run : goal.returns-in-Ended-clause-run
returns-in-Ended-clause-run g c = (rw c.in-Ended.is at c.answers.invariant).run

pub returns-in-Faulted-clause-run : goal.returns-in-Faulted-clause-run
returns-in-Faulted-clause-run g c = (rw c.in-Faulted.is at c.answers.invariant).run

pub returns-in-Ended-clause-rooted : goal.returns-in-Ended-clause-rooted
returns-in-Ended-clause-rooted g c = λ b root.
    (rw c.in-Ended.is at c.answers.invariant).rooted b root

pub returns-in-Faulted-clause-rooted : goal.returns-in-Faulted-clause-rooted
returns-in-Faulted-clause-rooted g c = λ b root.
    (rw c.in-Faulted.is at c.answers.invariant).rooted b root

pub returns-in-Ended-clause-carries : goal.returns-in-Ended-clause-carries
returns-in-Ended-clause-carries g c = (rw c.in-Ended.is at c.answers.invariant).carries

pub returns-in-Faulted-clause-carries : goal.returns-in-Faulted-clause-carries
returns-in-Faulted-clause-carries g c = (rw c.in-Faulted.is at c.answers.invariant).carries

pub returns-in-Err-clause-same : goal.returns-in-Err-clause-same
returns-in-Err-clause-same g c = λ k f seat done missed scope this seated root blind is.
    calls_so (setup g.H.Host.law c.args.context.program.now c.args.context.engine.now) c.args.run.now
    c.args.steps.now c.args.host.now c.args.walk.now c.args.missed.now c.args.answer c.answers.run
    c.answers.steps c.answers.host c.answers.walk c.answers.missed c.in-Need.request
    (rw c.in-Need.is at c.answers.invariant) c.in-Err.call c.in-Err.ensures.serves.0
    c.serve_request.new.run c.serve_request.new.steps c.serve_request.new.host
    c.serve_request.ensures.run c.in-Err.ensures.serves.1 c.in-Err.ensures.serves.2 k f seat done missed
    scope this seated root is

pub returns-in-Err-clause-rooted : goal.returns-in-Err-clause-rooted
returns-in-Err-clause-rooted g c =
    calls_rooted (setup g.H.Host.law c.args.context.program.now c.args.context.engine.now)
    c.args.run.now c.args.steps.now c.args.host.now c.args.walk.now c.args.missed.now c.args.answer
    c.answers.run c.answers.steps c.answers.host c.answers.walk c.answers.missed c.in-Need.request
    (rw c.in-Need.is at c.answers.invariant) c.in-Err.call c.in-Err.ensures.serves.0

pub returns-in-Err-clause-waits : goal.returns-in-Err-clause-waits
returns-in-Err-clause-waits g c =
    calls_waits (setup g.H.Host.law c.args.context.program.now c.args.context.engine.now)
    c.args.run.now c.args.steps.now c.args.host.now c.args.walk.now c.args.missed.now c.args.answer
    c.answers.run c.answers.steps c.answers.host c.answers.walk c.answers.missed c.in-Need.request
    (rw c.in-Need.is at c.answers.invariant) c.in-Err.call c.in-Err.ensures.serves.0

pub returns-in-Ok-Asks-clause-same : goal.returns-in-Ok-Asks-clause-same
returns-in-Ok-Asks-clause-same g c = λ k f seat done missed scope this seated root blind is.
    let served = rw c.in-Ok-Asks.field-0-is at c.in-Ok-Asks.ensures.serves in
    rw c.is_named-named.ensures
    (asks_so (setup g.H.Host.law c.args.context.program.now c.args.context.engine.now) c.args.run.now
    c.args.steps.now c.args.host.now c.args.walk.now c.args.missed.now c.args.answer c.answers.run
    c.answers.steps c.answers.host c.answers.walk c.answers.missed c.in-Need.request
    (rw c.in-Need.is at c.answers.invariant) c.in-Ok-Asks.native (is_named c.in-Need.request.what)
    served.0 c.serve_request.new.run c.serve_request.new.steps c.serve_request.new.host
    c.serve_request.ensures.run served.2 k f seat done missed scope this seated root is)

pub returns-in-Ok-Asks-clause-run : goal.returns-in-Ok-Asks-clause-run
returns-in-Ok-Asks-clause-run g c =
    rw c.serve_request.ensures.run (rw c.in-Need.is at c.answers.invariant).run

pub returns-in-Ok-Asks-clause-rooted : goal.returns-in-Ok-Asks-clause-rooted
returns-in-Ok-Asks-clause-rooted g c =
    let served = rw c.in-Ok-Asks.field-0-is at c.in-Ok-Asks.ensures.serves in
    asks_rooted (setup g.H.Host.law c.args.context.program.now c.args.context.engine.now) c.args.run.now
    c.args.steps.now c.args.host.now c.args.walk.now c.args.missed.now c.args.answer c.answers.run
    c.answers.steps c.answers.host c.answers.walk c.answers.missed c.in-Need.request
    (rw c.in-Need.is at c.answers.invariant) c.in-Ok-Asks.native (is_named c.in-Need.request.what)
    served.0

pub returns-in-Ok-Asks-clause-waits : goal.returns-in-Ok-Asks-clause-waits
returns-in-Ok-Asks-clause-waits g c =
    let served = rw c.in-Ok-Asks.field-0-is at c.in-Ok-Asks.ensures.serves in
    asks_waits (setup g.H.Host.law c.args.context.program.now c.args.context.engine.now) c.args.run.now
    c.args.steps.now c.args.host.now c.args.walk.now c.args.missed.now c.args.answer c.answers.run
    c.answers.steps c.answers.host c.answers.walk c.answers.missed c.in-Need.request
    (rw c.in-Need.is at c.answers.invariant) c.in-Ok-Asks.native (is_named c.in-Need.request.what)
    served.0 served.1
