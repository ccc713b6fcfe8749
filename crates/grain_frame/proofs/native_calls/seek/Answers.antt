use Rattle.std.proofs.Common.{◌≡◌, ◌∙◌, None, sym}
use Rattle.grain_host.specs.Law.{native_of}
use Rattle.grain_frame.proofs.Serving.{seeks_none}
use Rattle.grain_frame.proofs.native_calls.seek.Goals as goal

pub returns-in-None : goal.returns-in-None
returns-in-None g c = λ args describes.
    let none : native_of g.H.Host.law c.args.host.now c.as_str.result.now c.args.arguments.kinds ≡
    None =
    sym c.resolve.ensures ∙ c.in-None.is in
    seeks_none g.H.Host.law c.args.host.now c.args.name.now c.as_str.result.now args
    c.args.arguments
    c.args.position c.in_ok-not_found-in-None.field-0 describes none c.as_str.ensures
    c.in_ok-not_found-in-None.ensures
