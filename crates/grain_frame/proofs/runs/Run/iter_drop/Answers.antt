use Rattle.grain_frame.proofs.Looping.{drops}
use Rattle.grain_frame.proofs.runs.Run.iter_drop.Goals as goal

pub returns : goal.returns
returns g c = record {
  performs = λ program engine host. rw c.mark.ensures (drops g.H.Host.law program engine
      c.args.frame.now c.args.self.now c.args.steps.now host c.pop_cursor-cursor.new.self
      c.pop_cursor-cursor.result c.pop_cursor-cursor.ensures c.args.next c.requires.ready);
}
