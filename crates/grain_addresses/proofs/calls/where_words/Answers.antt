use Rattle.std.proofs.Common.{◌≡◌, refl, rules, map, string_bytes, Some, None}
use Rattle.grain_streams.specs.lemmas.Unread.{no_read}
use Rattle.grain_addresses.specs.Calls.{asked, not_asked, words_unread, answer_handed, usage_handed, none_handed}
use Rattle.grain_addresses.specs.Queries.{queries_of}
use Rattle.grain_addresses.proofs.calls.where_words.Goals as goal

pub returns-in-Err-clause-ended : goal.returns-in-Err-clause-ended
returns-in-Err-clause-ended g c = words_unread refl refl

pub returns-in-None-clause-ended : goal.returns-in-None-clause-ended
returns-in-None-clause-ended g c =
    let none : queries_of (map string_bytes c.args.words.now.items) ≡ None = search rules in
    not_asked none c.write_usage.ensures.unanswered refl

pub returns-in-Some-clause-ended : goal.returns-in-Some-clause-ended
returns-in-Some-clause-ended g c =
    let some : queries_of (map string_bytes c.args.words.now.items) ≡
    Some c.in-Some.queries.items = search rules in
    asked some (rw c.as_slice-in-Some.ensures.value at c.answer_and_write.ensures.answered) refl

pub returns-in-Err-clause-reads : goal.returns-in-Err-clause-reads
returns-in-Err-clause-reads g c = no_read g.S.Source.reads 16777217 c.args.source.now

pub returns-in-None-clause-reads : goal.returns-in-None-clause-reads
returns-in-None-clause-reads g c = no_read g.S.Source.reads 16777217 c.args.source.now

pub returns-in-Err-clause-handed : goal.returns-in-Err-clause-handed
returns-in-Err-clause-handed g c = none_handed refl refl

pub returns-in-None-clause-handed : goal.returns-in-None-clause-handed
returns-in-None-clause-handed g c =
    let none : queries_of (map string_bytes c.args.words.now.items) ≡ None = search rules in
    usage_handed none c.write_usage.ensures.handed refl

pub returns-in-Some-clause-handed : goal.returns-in-Some-clause-handed
returns-in-Some-clause-handed g c =
    let some : queries_of (map string_bytes c.args.words.now.items) ≡
    Some c.in-Some.queries.items = search rules in
    answer_handed some (rw c.as_slice-in-Some.ensures.value at c.answer_and_write.ensures.handed)
    refl
