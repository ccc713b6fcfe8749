use Rattle.grain_addresses.proofs.Due.{due}
use Rattle.grain_addresses.proofs.calls.answer.Goals as goal

pub returns-in_ok-reply-in-Ok-clause-due : goal.returns-in_ok-reply-in-Ok-clause-due
returns-in_ok-reply-in-Ok-clause-due g c =
    let all = rw c.in-Ok.is at c.in_ok-failed.ensures.all in
    let end = rw c.in-Ok.is at c.in_ok-failed.ensures.end in
    due c.in-Ok.bytes.items (g.S.Source.left c.read_all.new.source)
    (g.S.Source.left c.args.source.now) c.args.queries.now c.in_ok-reply-in-Ok.reply.status
    c.in_ok-reply-in-Ok.reply.text all end
    (rw c.as_slice.ensures.value at c.in_ok-reply-in-Ok.ensures.status)
    (rw c.as_slice.ensures.value at c.in_ok-reply-in-Ok.ensures.text)
