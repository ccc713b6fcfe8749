use Rattle.std.proofs.Common.{◌≡◌, rules, map, string_bytes, true, false}
use Rattle.grain_listing.specs.Reading.{reads}
use Rattle.grain_commands.specs.Replies.{is_run, Replies, replied}
use Rattle.grain_commands.proofs.Answering.{same_reading}
use Rattle.grain_commands.proofs.Commanding.{of_source, run_commands, untold}
use Rattle.grain_streams.specs.lemmas.Unread.{no_read}
use Rattle.grain_commands.proofs.Through.{read_through}
use Rattle.grain_commands.proofs.commands.answer.Goals as goal

pub returns-in_ok-reply-in-Ok-clause-answers : goal.returns-in_ok-reply-in-Ok-clause-answers
returns-in_ok-reply-in-Ok-clause-answers g c =
    let yes : is_run (map string_bytes c.args.words.now) ≡ true = search rules in
    let reply : Replies false (reads c.in-Ok.bytes.items) c.in_ok-reply-in-Ok.reply.status
    c.in_ok-reply-in-Ok.reply.text = rw (← c.as_slice.ensures.value)
    c.in_ok-reply-in-Ok.ensures in
    let all = rw c.in-Ok.is at c.in_ok-failed.ensures.all in
    let end = rw c.in-Ok.is at c.in_ok-failed.ensures.end in
    replied (run_commands (map string_bytes c.args.words.now) yes)
    (of_source (map string_bytes c.args.words.now) (g.S.Source.left c.args.source.now) yes
    (λ bytes. reads bytes ≡ reads c.in-Ok.bytes.items)
    (same_reading c.in-Ok.bytes.items (g.S.Source.left c.read_all.new.source)
    (g.S.Source.left c.args.source.now) all end))
    (untold (map string_bytes c.args.words.now) yes (reads c.in-Ok.bytes.items)
    c.in_ok-reply-in-Ok.reply.status c.in_ok-reply-in-Ok.reply.text reply)

pub returns-in_ok-reply-in-Ok-clause-through : goal.returns-in_ok-reply-in-Ok-clause-through
returns-in_ok-reply-in-Ok-clause-through g c =
    let reply : Replies false (reads c.in-Ok.bytes.items) c.in_ok-reply-in-Ok.reply.status
    c.in_ok-reply-in-Ok.reply.text = rw (← c.as_slice.ensures.value)
    c.in_ok-reply-in-Ok.ensures in
    let end = rw c.in-Ok.is at c.in_ok-failed.ensures.end in
    read_through (map string_bytes c.args.words.now) false c.in-Ok.bytes.items
    (g.S.Source.left c.read_all.new.source)
    c.in_ok-reply-in-Ok.reply.status c.in_ok-reply-in-Ok.reply.text end reply

pub returns-in_err-reply-clause-reads : goal.returns-in_err-reply-clause-reads
returns-in_err-reply-clause-reads g c = no_read g.S.Source.reads 16777217 c.args.source.now

pub returns-then-not-is_run-clause-reads : goal.returns-then-not-is_run-clause-reads
returns-then-not-is_run-clause-reads g c = no_read g.S.Source.reads 16777217 c.args.source.now
