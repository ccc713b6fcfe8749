-- No native of the name may be called.
use Rattle.std.proofs.Common.{◌≡◌, Err, None, Ok, refl, rules, sym, true}
use Rattle.grain_means.specs.Rules.{raised}
use Rattle.grain_means.specs.Means.{setup}
use Rattle.grain_means.specs.Simulation.{stopped, world}
use Rattle.grain_frame.specs.Abstraction.{abstraction, frame_in, is_out}
use Rattle.grain_frame.specs.declared.runs.Progress.TheVariants as progress
use Rattle.grain_frame.specs.lemmas.Bound.{as_bound}
use Rattle.grain_frame.specs.lemmas.Failing.{native_stops, wants_memory}
use Rattle.grain_frame.specs.lemmas.Performing.{led, led_out}
use Rattle.grain_frame.proofs.Serving.{may_not_be_called, native_raised, refuses}
use Rattle.grain_frame.proofs.runs.Run.not_callable.Goals as goal

pub returns-in_err-fault : goal.returns-in_err-fault
returns-in_err-fault g c =
    let p = c.args.context.program.now in
    let engine = c.args.context.engine.now in
    let s = c.args.self.now in
    let f = c.args.frame.now in
    let out : is_out c.from_residual.result ≡ true = search rules in
    record {
      implements = λ args go targets takes gives describes. led_out c.in_err-fault.field-0.0
          c.from_residual.result out
          (as_bound (wants_memory g.H.Host.law p engine f s c.args.steps.now c.args.host.now
          (Err c.in_err-fault.field-0.0) refl c.requires.inside (λ stop w place halts.
          let m = stopped (setup g.H.Host.law p engine) stop in
          native_stops m c.args.name.now None args (frame_in f s place)
          (world (abstraction s c.args.steps.now c.args.host.now) w) (go m place)
          (raised m (frame_in f s place)) halts (λ y. rw halts refl))));
    }

pub unreachable-requires : goal.unreachable-requires
unreachable-requires g c =
    let args = c.requires.described.0 in
    may_not_be_called g.H.Host.law c.args.host.now c.args.name.now args c.args.arguments
    c.position-position.result c.in-Native.field-0 c.in-Native.field-1 c.requires.described.1
    c.requires.none (rw c.in-Native.is at c.in_ok-fault.ensures args c.requires.described.1)

pub returns : goal.returns
returns g c =
    let p = c.args.context.program.now in
    let engine = c.args.context.engine.now in
    let s = c.args.self.now in
    let f = c.args.frame.now in
    let m = setup g.H.Host.law p engine in
    rw c.raise.ensures.progress
    (record {
      implements = λ args go targets takes gives describes.
          let did = refuses g.H.Host.law s c.args.steps.now c.args.host.now
          c.position-position.result m c.args.name.now args (frame_in f s) go
          (λ n place x w. raised n (frame_in f s place) x w) refl
          (λ place. sym c.position-position.ensures) c.in-Fault.fault
          (rw c.in-Fault.is at c.in_ok-fault.ensures args describes) in
          led (Ok progress.Failed) (as_bound (native_raised g.H.Host.law p engine f s s
          c.args.steps.now c.args.steps.now c.args.host.now c.args.host.now go
          (λ n place x w. raised n (frame_in f s place) x w)
          s.scope s.cells refl refl refl c.requires.inside c.in-Fault.fault c.raise.new.self
          c.raise.new.steps did c.raise.ensures.after c.raise.ensures.marked));
    })
