-- The text is a value more.
use Rattle.grain_frame.proofs.runs.Run.interpolate_start.Goals as goal

pub returns : goal.returns
returns g c = record {
  performs = λ program engine host.
      rw c.new.ensures at (c.push_on.ensures.implements program engine host);
}
