use Rattle.std.proofs.Common.{◌≡◌, rules, Err}
use Rattle.grain_listing.specs.Reading.{reads}
use Rattle.grain_commands.proofs.Answering.{answers_reason}
use Rattle.grain_commands.proofs.pipeline.run_bytes.Goals as goal

pub returns-in-Err : goal.returns-in-Err
returns-in-Err g c =
    let is : Err c.in-Err.bad ≡ reads c.args.bytes.now = search rules in
    answers_reason c.args.told (reads c.args.bytes.now) c.in-Err.bad c.no_listing.result
    c.no_listing.ensures.status c.no_listing.ensures.text is
