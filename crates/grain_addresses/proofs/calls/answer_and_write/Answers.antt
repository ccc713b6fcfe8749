use Rattle.std.proofs.Common.{◌≡◌, refl, rules, inl, inr}
use Rattle.grain_addresses.specs.Calls.{wrote, source_failed, sink_failed, no_memory, whole, part, nothing}
use Rattle.grain_addresses.proofs.calls.answer_and_write.Goals as goal

pub returns-in-Err-clause-answered : goal.returns-in-Err-clause-answered
returns-in-Err-clause-answered g c = no_memory refl

pub returns-in-Err-answered-clause-answered : goal.returns-in-Err-answered-clause-answered
returns-in-Err-answered-clause-answered g c =
    source_failed (rw c.in-Err-answered.is at c.in-Ok.ensures.failed) refl

pub returns-in-Ok-write_all-clause-answered : goal.returns-in-Ok-write_all-clause-answered
returns-in-Ok-write_all-clause-answered g c =
    let due = rw c.in-Ok-answered.is at c.in-Ok.ensures.due in
    let text : c.as_bytes.result.now ≡ c.in-Ok-answered.reply.text = search rules in
    wrote c.in-Ok-answered.reply.text due (rw text at c.in-Ok-write_all.ensures.whole)

pub returns-clause-answered : goal.returns-clause-answered
returns-clause-answered g c =
    let due = rw c.in-Ok-answered.is at c.in-Ok.ensures.due in
    let text : c.as_bytes.result.now ≡ c.in-Ok-answered.reply.text = search rules in
    sink_failed c.in-Ok-answered.reply.status c.in-Ok-answered.reply.text due
    (rw text at c.in-Err-write_all.ensures.part) c.in-Err-write_all.ensures.failed

pub returns-in-Err-clause-handed : goal.returns-in-Err-clause-handed
returns-in-Err-clause-handed g c = nothing (inr refl) refl

pub returns-in-Err-answered-clause-handed : goal.returns-in-Err-answered-clause-handed
returns-in-Err-answered-clause-handed g c = nothing (inl refl) refl

pub returns-in-Ok-write_all-clause-handed : goal.returns-in-Ok-write_all-clause-handed
returns-in-Ok-write_all-clause-handed g c =
    let due = rw c.in-Ok-answered.is at c.in-Ok.ensures.due in
    let text : c.as_bytes.result.now ≡ c.in-Ok-answered.reply.text = search rules in
    whole c.in-Ok-answered.reply.text due (rw text at c.in-Ok-write_all.ensures.put_whole)

pub returns-clause-handed : goal.returns-clause-handed
returns-clause-handed g c =
    let due = rw c.in-Ok-answered.is at c.in-Ok.ensures.due in
    let text : c.as_bytes.result.now ≡ c.in-Ok-answered.reply.text = search rules in
    part c.in-Ok-answered.reply.status c.in-Ok-answered.reply.text due
    (rw text at c.in-Err-write_all.ensures.put_part)
