use Rattle.std.proofs.Common.{◌≡◌, refl, rules, inl, inr}
use Rattle.grain_commands.specs.Replies.{wrote, source_failed, sink_failed, no_memory, whole, part, nothing}
use Rattle.grain_commands.proofs.commands.answer_and_write.Goals as goal

pub returns-in-Err-clause-ended : goal.returns-in-Err-clause-ended
returns-in-Err-clause-ended g c = no_memory refl

pub returns-in-Err-answered-clause-ended : goal.returns-in-Err-answered-clause-ended
returns-in-Err-answered-clause-ended g c =
    let failed = rw c.in-Err-answered.is at c.in-Ok.ensures.failed in
    let command = rw c.in-Err-answered.is at c.in-Ok.ensures.command in
    source_failed command failed refl

pub returns-in-Ok-write_all-clause-ended : goal.returns-in-Ok-write_all-clause-ended
returns-in-Ok-write_all-clause-ended g c =
    let answers = rw c.in-Ok-answered.is at c.in-Ok.ensures.answers in
    let text : c.as_bytes.result.now ≡ c.in-Ok-answered.reply.text = search rules in
    wrote answers (rw text at c.in-Ok-write_all.ensures.whole)

pub returns-clause-ended : goal.returns-clause-ended
returns-clause-ended g c =
    let answers = rw c.in-Ok-answered.is at c.in-Ok.ensures.answers in
    let text : c.as_bytes.result.now ≡ c.in-Ok-answered.reply.text = search rules in
    sink_failed answers (rw text at c.in-Err-write_all.ensures.part)
    c.in-Err-write_all.ensures.failed

pub returns-in-Err-clause-handed : goal.returns-in-Err-clause-handed
returns-in-Err-clause-handed g c = nothing (inr refl) refl

pub returns-in-Err-answered-clause-handed : goal.returns-in-Err-answered-clause-handed
returns-in-Err-answered-clause-handed g c = nothing (inl refl) refl

pub returns-in-Ok-write_all-clause-handed : goal.returns-in-Ok-write_all-clause-handed
returns-in-Ok-write_all-clause-handed g c =
    let answers = rw c.in-Ok-answered.is at c.in-Ok.ensures.answers in
    let text : c.as_bytes.result.now ≡ c.in-Ok-answered.reply.text = search rules in
    whole answers (rw text at c.in-Ok-write_all.ensures.put_whole)

pub returns-clause-handed : goal.returns-clause-handed
returns-clause-handed g c =
    let answers = rw c.in-Ok-answered.is at c.in-Ok.ensures.answers in
    let text : c.as_bytes.result.now ≡ c.in-Ok-answered.reply.text = search rules in
    part answers (rw text at c.in-Err-write_all.ensures.put_part)
