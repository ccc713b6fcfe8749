use Rattle.std.proofs.Common.{◌≡◌, ◌∷◌, rules}
use Rattle.grain_frame.specs.Handling.{armed}
use Rattle.grain_frame.proofs.Handled.{pushes}
use Rattle.grain_frame.proofs.runs.Run.push_handler.Goals as goal

pub returns : goal.returns
returns g c =
    let s = c.args.self.now in
    let pushed : c.push_handler.new.self ≡ record s.stacks {
      handlers = armed c.args.target c.args.variable s ∷ s.stacks.handlers;
    } = search rules in
    record {
      implements = λ program engine host. rw c.mark.ensures (pushes g.H.Host.law program engine
          c.args.frame.now s c.args.steps.now host c.args.target c.args.variable c.args.next
          c.push_handler.new.self pushed c.requires.ready);
    }
