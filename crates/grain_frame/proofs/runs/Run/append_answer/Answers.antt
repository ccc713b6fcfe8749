-- The native's value is a cell that is lent, or can be read.
use Rattle.std.proofs.Common.{◌≡◌, None, Some, true, refl, rules}
use Rattle.grain_value.specs.Cells.{flat}
use Rattle.grain_means.specs.Means.{setup}
use Rattle.grain_means.specs.Simulation.{stopped, world}
use Rattle.grain_frame.specs.Abstraction.{abstraction, frame_in, is_out}
use Rattle.grain_frame.specs.lemmas.Arms.{implements_as}
use Rattle.grain_frame.specs.lemmas.Failing.{wants_memory}
use Rattle.grain_frame.proofs.Appending.{answer_stops}
use Rattle.grain_frame.proofs.runs.Run.append_answer.Goals as goal

pub returns-in_default : goal.returns-in_default
returns-in_default g c =
    let p = c.args.context.program.now in
    let engine = c.args.context.engine.now in
    let s = c.args.self.now in
    let none : flat s.cells c.args.value ≡ None = search rules in
    record {
      implements = λ host. implements_as g.H.Host.law p engine c.args.frame.now
          c.append_type.new.frame s s c.append_type.new.self c.args.steps.now
          c.append_type.new.steps host host refl (c.append_type.ensures.implements host)
          (λ stop u place. rw none refl);
    }

pub returns : goal.returns
returns g c =
    let p = c.args.context.program.now in
    let engine = c.args.context.engine.now in
    let s = c.args.self.now in
    let read : flat s.cells c.args.value ≡ Some c.in-Some.value = search rules in
    record {
      implements = λ host. implements_as g.H.Host.law p engine c.args.frame.now
          c.append.new.frame s s c.append.new.self c.args.steps.now
          c.append.new.steps host host refl (c.append.ensures.implements host)
          (λ stop u place. rw (read, c.in_ok-text.ensures) refl);
    }

pub returns-in_err-text : goal.returns-in_err-text
returns-in_err-text g c =
    let p = c.args.context.program.now in
    let engine = c.args.context.engine.now in
    let s = c.args.self.now in
    let f = c.args.frame.now in
    let out : is_out c.from_residual-in_err-text.result ≡ true = search rules in
    record {
      implements = λ host. wants_memory g.H.Host.law p engine f s c.args.steps.now host
          c.from_residual-in_err-text.result out c.requires.begins.inside (λ stop u place halts.
          answer_stops (stopped (setup g.H.Host.law p engine) stop) (frame_in f s place)
          (world (abstraction s c.args.steps.now host) u) halts (flat s.cells c.args.value)
          c.args.type_name c.args.next);
    }
