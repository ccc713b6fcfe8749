use Rattle.std.proofs.Common.{◌≡◌, refl, rules}
use Rattle.grain_addresses.specs.Calls.{usage_written, usage_cut, usage_unmade, usage_whole, usage_part, usage_unput}
use Rattle.grain_addresses.specs.Replies.{usage_text}
use Rattle.grain_addresses.proofs.calls.write_usage.Goals as goal

pub returns-in-Err-clause-unanswered : goal.returns-in-Err-clause-unanswered
returns-in-Err-clause-unanswered g c = usage_unmade refl

pub returns-in-Ok-write_all-clause-unanswered : goal.returns-in-Ok-write_all-clause-unanswered
returns-in-Ok-write_all-clause-unanswered g c =
    let text : c.as_bytes.result.now ≡ usage_text = search rules in
    rw c.in-Ok.ensures.status (usage_written (rw text at c.in-Ok-write_all.ensures.whole))

pub returns-clause-unanswered : goal.returns-clause-unanswered
returns-clause-unanswered g c =
    let text : c.as_bytes.result.now ≡ usage_text = search rules in
    usage_cut (rw text at c.in-Err-write_all.ensures.part) c.in-Err-write_all.ensures.failed

pub returns-in-Err-clause-handed : goal.returns-in-Err-clause-handed
returns-in-Err-clause-handed g c = usage_unput refl

pub returns-in-Ok-write_all-clause-handed : goal.returns-in-Ok-write_all-clause-handed
returns-in-Ok-write_all-clause-handed g c =
    let text : c.as_bytes.result.now ≡ usage_text = search rules in
    rw c.in-Ok.ensures.status (usage_whole (rw text at c.in-Ok-write_all.ensures.put_whole))

pub returns-clause-handed : goal.returns-clause-handed
returns-clause-handed g c =
    let text : c.as_bytes.result.now ≡ usage_text = search rules in
    usage_part (rw text at c.in-Err-write_all.ensures.put_part)
