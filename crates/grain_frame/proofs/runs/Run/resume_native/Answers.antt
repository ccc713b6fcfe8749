-- What the native comes to, by what the host answers.
use Rattle.std.proofs.Common.{◌∙◌, [], Err, Ok, refl, ap}
use Rattle.grain_host.specs.Answers.{outcome_of as host_outcome_of}
use Rattle.grain_host.specs.Law as reply
use Rattle.grain_stack.specs.Views.{StacksView}
use Rattle.grain_frame.specs.Waiting.{given_back_run}
use Rattle.grain_frame.specs.declared.runs.Run.{Run}
use Rattle.grain_frame.proofs.Resuming.{fails_so, same_trace, tells_asks, tells_out, tells_over}
use Rattle.grain_frame.proofs.runs.Run.resume_native.Goals as goal

pub returns-in-Err-clause-tells : goal.returns-in-Err-clause-tells
returns-in-Err-clause-tells g c =
    let law = g.H.Host.law in
    let s = c.args.self.now in
    let resumed = c.resume_with-answer.ensures.resumes in
    let l' = c.resume_with-answer.result.1 in
    let s1 = c.resume_with-answer.new.self in
    let mid = c.resume_with-answer.new.host in
    let o = host_outcome_of c.args.told in
    let ends = c.in-Err.ensures.ends in
    let nothing = rw ends.0 at resumed.2 in
    rw ends.1 (tells_out law c.args.token o c.args.lent c.args.position s c.args.steps.now
    c.args.host.now c.requires.kept resumed.0 l' s1 mid resumed.1 c.give_back.new.self
    c.give_back.result c.forget.new.self nothing.1
    (c.forget.ensures ∙ ap (λ (h : g.row.H.Denot). law.forget_after h c.args.token) nothing.0)
    c.give_back.ensures.run c.give_back.ensures.apart)

pub returns-in-Ok-Fault-clause-tells : goal.returns-in-Ok-Fault-clause-tells
returns-in-Ok-Fault-clause-tells g c =
    let law = g.H.Host.law in
    let s = c.args.self.now in
    let resumed = c.resume_with-answer.ensures.resumes in
    let l' = c.resume_with-answer.result.1 in
    let s1 = c.resume_with-answer.new.self in
    let mid = c.resume_with-answer.new.host in
    let o = host_outcome_of c.args.told in
    let ends = rw c.in-Ok-Fault.field-0-is at c.in-Ok-Fault.ensures.ends in
    let said = rw ends.1 at resumed.2 in
    rw ends.3 (tells_over law c.args.token o c.args.lent c.args.position s c.args.steps.now
    c.args.host.now c.requires.kept resumed.0 l' s1 mid resumed.1 (reply.Failed ends.0) said.0
    said.1 said.2 (Err c.in-Ok-Fault.fault) s.stacks.trace c.give_back-in-Ok-Fault.new.self
    c.give_back-in-Ok-Fault.result
    (c.give_back-in-Ok-Fault.ensures.run
    ∙ ap (λ (r : Run g.row.H.Denot). given_back_run l' r)
    (same_trace s c.args.lent resumed.0 l' s1 resumed.1))
    c.give_back-in-Ok-Fault.ensures.apart
    (λ m c1 w at untouched. fails_so m c1 w ends.0 c.in-Ok-Fault.fault c.args.position
    s.stacks.trace at ends.2 untouched))

pub returns-in-Ok-Value-clause-tells : goal.returns-in-Ok-Value-clause-tells
returns-in-Ok-Value-clause-tells g c =
    let law = g.H.Host.law in
    let s = c.args.self.now in
    let resumed = c.resume_with-answer.ensures.resumes in
    let l' = c.resume_with-answer.result.1 in
    let s1 = c.resume_with-answer.new.self in
    let mid = c.resume_with-answer.new.host in
    let o = host_outcome_of c.args.told in
    let ends = rw c.in-Ok-Value.field-0-is at c.in-Ok-Value.ensures.ends in
    let said = rw ends.0 at resumed.2 in
    rw ends.1 (tells_over law c.args.token o c.args.lent c.args.position s c.args.steps.now
    c.args.host.now c.requires.kept resumed.0 l' s1 mid resumed.1 (reply.Done c.in-Ok-Value.value)
    said.0 said.1 said.2 (Ok c.in-Ok-Value.value) [] c.give_back-in-Ok-Value.new.self
    c.give_back-in-Ok-Value.result
    (c.give_back-in-Ok-Value.ensures.run
    ∙ ap (λ (v : StacksView). given_back_run l' (record s1 { stacks = v })) c.cut_trace.ensures)
    c.give_back-in-Ok-Value.ensures.apart (λ m c1 w at untouched. refl))

pub returns-in-Ok-Asks-clause-tells : goal.returns-in-Ok-Asks-clause-tells
returns-in-Ok-Asks-clause-tells g c =
    let law = g.H.Host.law in
    let s = c.args.self.now in
    let resumed = c.resume_with-answer.ensures.resumes in
    let l' = c.resume_with-answer.result.1 in
    let s1 = c.resume_with-answer.new.self in
    let mid = c.resume_with-answer.new.host in
    let o = host_outcome_of c.args.told in
    let ends = rw c.in-Ok-Asks.field-0-is at c.in-Ok-Asks.ensures.ends in
    let said = rw ends.0 at resumed.2 in
    rw ends.1 (tells_asks law c.args.token o c.args.lent c.args.position s c.args.steps.now
    c.args.host.now c.requires.kept resumed.0 l' s1 mid resumed.1 c.in-Ok-Asks.asked
    (record s1 { stacks = c.cut_trace-in-Ok-Asks.new.self }) said.0 said.1 said.2
    (ap (λ (v : StacksView). record s1 { stacks = v }) c.cut_trace-in-Ok-Asks.ensures))
