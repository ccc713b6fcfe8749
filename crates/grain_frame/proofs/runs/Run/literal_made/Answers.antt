-- The literal is a value more, and its total is gone.
use Rattle.std.proofs.Common.{refl, arith}
use Rattle.grain_means.specs.Means.{setup}
use Rattle.grain_means.specs.Simulation.{stopped, world}
use Rattle.grain_frame.specs.Abstraction.{abstraction}
use Rattle.grain_frame.specs.Literals.{ended}
use Rattle.grain_frame.proofs.Totalled.{implements_totalled, made_is}
use Rattle.grain_frame.proofs.runs.Run.literal_made.Goals as goal

pub returns : goal.returns
returns g c =
    let s = c.args.self.now in
    let f = c.args.frame.now in
    let own = ended c.args.count s.stacks.totals in
    record {
      implements = λ program engine host. implements_totalled g.H.Host.law program engine f
          c.push_on.new.frame s c.push_on.new.self c.args.steps.now c.push_on.new.steps
          (record s.stacks { totals = own }) s.stacks.operands own host host refl
          (rw c.end_literal.ensures at (c.push_on.ensures.implements program engine host))
          (λ stop u place. made_is (stopped (setup g.H.Host.law program engine) stop) f s place
          (world (abstraction s c.args.steps.now host) u) c.args.count c.args.value c.args.next)
          (λ b i. i) (omega arith) (omega arith);
    }
