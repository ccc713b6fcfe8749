use Rattle.grain_host.specs.Pending.{answered}
use Rattle.grain_host.proofs.Waiting.{gone_there, last_there, still_there}
use Rattle.grain_host.proofs.pending_calls.PendingCalls.finish.Goals as goal

pub remove-call-requires : goal.remove-call-requires
remove-call-requires c =
    still_there (answered 0 c.args.value) c.args.self.now c.answer.new.self c.args.place c.requires
    c.in_ok-answer.ensures

pub returns-clause-answers : goal.returns-clause-answers
returns-clause-answers c =
    last_there c.args.value c.args.self.now c.answer.new.self c.args.place c.remove-call.result
    c.in_ok-answer.ensures c.remove-call.ensures.call

pub returns-clause-calls : goal.returns-clause-calls
returns-clause-calls c =
    gone_there (answered 0 c.args.value) c.args.self.now c.answer.new.self c.remove-call.new.self
    c.args.place c.in_ok-answer.ensures c.remove-call.ensures.calls
