-- The segment is a cell that is lent, a text, or a value that is shown.
use Rattle.std.proofs.Common.{◌≡◌, [], Err, None, Some, refl, true, rules}
use Rattle.grain_value.specs.Cells.{flat}
use Rattle.grain_value.specs.Looking.{text_of}
use Rattle.grain_value.specs.Operands.{top}
use Rattle.grain_value.specs.declared.values.Dynamic.TheVariants as dynamic
use Rattle.grain_fault.specs.Problems.{Plain, DataRace}
use Rattle.grain_program.specs.View.{position_of}
use Rattle.grain_means.specs.Means.{setup}
use Rattle.grain_means.specs.Rules.{race_text}
use Rattle.grain_means.specs.Simulation.{stopped, world}
use Rattle.grain_frame.specs.Abstraction.{abstraction, frame_in, is_out}
use Rattle.grain_frame.specs.lemmas.Arms.{implements_as}
use Rattle.grain_frame.specs.lemmas.Bound.{as_bound}
use Rattle.grain_frame.specs.lemmas.Failing.{raises_here, wants_memory}
use Rattle.grain_frame.specs.lemmas.Performing.{led_exactly, led_out, waits_as}
use Rattle.grain_frame.proofs.Appending.{appended_stops}
use Rattle.grain_frame.proofs.runs.Run.interpolate_append.Goals as goal

pub returns-in-None : goal.returns-in-None
returns-in-None g c =
    let p = c.args.context.program.now in
    let s = c.args.self.now in
    let f = c.args.frame.now in
    let none : flat s.cells (top s.stacks.operands).value ≡ None = search rules in
    record {
      performs = led_exactly c.data_race.result c.of.result c.of.ensures
          (raises_here g.H.Host.law p c.args.context.engine.now f s
          c.data_race.new.self c.args.steps.now c.data_race.new.steps c.args.host.now
          (Plain (DataRace (race_text [])) (position_of p f.address)) c.data_race.result
          c.data_race.ensures c.requires.ready.inside (λ stop u place. rw none refl));
    }

pub returns-in_ok-segment-in-Some-Text : goal.returns-in_ok-segment-in-Some-Text
returns-in_ok-segment-in-Some-Text g c =
    let p = c.args.context.program.now in
    let engine = c.args.context.engine.now in
    let s = c.args.self.now in
    let f = c.args.frame.now in
    let host = c.args.host.now in
    let t = c.in-Some-Text.segment in
    let read : flat s.cells (top s.stacks.operands).value ≡ Some (dynamic.Text t) = search rules in
    record {
      performs = led_exactly c.append.result c.of-in-Some-Text.result c.of-in-Some-Text.ensures
          (implements_as g.H.Host.law p engine f c.append.new.frame s s c.append.new.self
          c.args.steps.now c.append.new.steps host host refl (c.append.ensures.implements host)
          (λ stop u place. rw (read, c.in_ok-segment-in-Some-Text.ensures) refl));
    }

pub returns-in_err-segment-in-Some-Text : goal.returns-in_err-segment-in-Some-Text
returns-in_err-segment-in-Some-Text g c =
    let p = c.args.context.program.now in
    let engine = c.args.context.engine.now in
    let s = c.args.self.now in
    let f = c.args.frame.now in
    let host = c.args.host.now in
    let t = c.in-Some-Text.segment in
    let read : flat s.cells (top s.stacks.operands).value ≡ Some (dynamic.Text t) = search rules in
    let out : is_out c.from_residual.result ≡ true = search rules in
    record {
      performs = led_out c.in_err-segment-in-Some-Text.field-0.0 c.from_residual.result out
          (as_bound (wants_memory g.H.Host.law p engine f s c.args.steps.now host
          (Err c.in_err-segment-in-Some-Text.field-0.0) refl c.requires.ready.inside (λ stop u place halts.
          rw read (appended_stops (stopped (setup g.H.Host.law p engine) stop) (frame_in f s place)
          (world (abstraction s c.args.steps.now host) u) halts t c.args.next))));
    }

pub returns-in-Some : goal.returns-in-Some
returns-in-Some g c =
    let s = c.args.self.now in
    let v = c.in-Some.field-0.now in
    let read : flat s.cells (top s.stacks.operands).value ≡ Some v = search rules in
    let none : text_of v ≡ None = search rules in
    record {
      performs = waits_as (c.append_shown.ensures.implements v read none)
          (λ stop u place bound. rw (read, none) refl);
    }
