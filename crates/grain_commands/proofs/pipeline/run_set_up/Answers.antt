use Rattle.std.proofs.Common.{◌≡◌, rules}
use Rattle.grain_program.specs.View.{view_of}
use Rattle.grain_listing.specs.ListingViews.{set_up_of}
use Rattle.grain_commands.proofs.Answering.{answers_refusal, answers_end}
use Rattle.grain_commands.proofs.pipeline.run_set_up.Goals as goal

pub returns-in-Err : goal.returns-in-Err
returns-in-Err g c =
    answers_refusal c.args.told (set_up_of c.args.setup) c.in-Err.refusal c.refused.result
    c.refused.ensures.status c.refused.ensures.text c.refused.ensures.rule
    c.in-Err.ensures.complete c.in-Err.ensures.first

pub returns-in-Ok : goal.returns-in-Ok
returns-in-Ok g c =
    let program : c.in-Ok.program ≡ view_of c.args.setup.parts = search rules in
    let told = rw program at c.run_verified.ensures in
    answers_end c.args.told (set_up_of c.args.setup) c.run_verified.result c.in-Ok.ensures.sound told
