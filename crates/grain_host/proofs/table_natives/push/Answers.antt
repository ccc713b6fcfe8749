use Rattle.std.proofs.Common.{is_some}
use Rattle.grain_host.specs.Answers.{reply_of}
use Rattle.grain_host.proofs.Given.{none_left, one_left}
use Rattle.grain_host.proofs.table_natives.push.Goals as goal

pub returns-in-None-clause-receiver : goal.returns-in-None-clause-receiver
returns-in-None-clause-receiver c =
    none_left (is_some (reply_of c.push_values.result)) c.args.args.now.receiver c.args.args.now.values
    c.in-None.is

pub returns-in-Some-clause-receiver : goal.returns-in-Some-clause-receiver
returns-in-Some-clause-receiver c =
    one_left (is_some (reply_of c.push_onto.result)) c.args.args.now.receiver c.in-Some.held
    c.push_onto.new.target c.args.args.now.values c.in-Some.is c.push_onto.ensures.target
