-- A native shows the segment, or its plain text is appended.
use Rattle.std.proofs.Common.{◌≡◌, ◌∙◌, ◌∷◌, [], Err, None, refl, sym, true, rules}
use Rattle.grain_value.specs.Cells.{flat}
use Rattle.grain_value.specs.Operands.{read_write, top}
use Rattle.grain_value.specs.Writing.{kind_of}
use Rattle.grain_value.specs.declared.values.Dynamic.TheVariants as dynamic
use Rattle.grain_fault.specs.Problems.{problem_of}
use Rattle.grain_host.specs.Law.{native_of}
use Rattle.grain_means.specs.Rules.{answer_appended, showing_failed, to_string}
use Rattle.grain_means.specs.Means.{setup}
use Rattle.grain_means.specs.Simulation.{stopped, world}
use Rattle.grain_means.specs.lemmas.Stretches.{same}
use Rattle.grain_frame.specs.Abstraction.{abstraction, frame_in, is_out}
use Rattle.grain_frame.specs.declared.waiting.Rest.TheVariants as rest
use Rattle.grain_frame.specs.lemmas.Arms.{implements_as}
use Rattle.grain_frame.specs.lemmas.Bound.{as_bound}
use Rattle.grain_frame.specs.lemmas.Failing.{wants_memory}
use Rattle.grain_frame.specs.lemmas.Performing.{led_exactly, led_out, led_so, native_waits, waits_as}
use Rattle.grain_frame.proofs.Appending.{segment_stops, shows, shows_plainly}
use Rattle.grain_frame.proofs.Lent.{lent_then}
use Rattle.grain_frame.proofs.Serving.{native_wants}
use Rattle.grain_frame.proofs.runs.Run.append_shown.Goals as goal

pub returns-in_default : goal.returns-in_default
returns-in_default g c =
    let p = c.args.context.program.now in
    let engine = c.args.context.engine.now in
    let s = c.args.self.now in
    let f = c.args.frame.now in
    let host = c.args.host.now in
    record {
      implements = λ v read no_text.
          let h = record (top s.stacks.operands) { value = v } in
          let none : native_of g.H.Host.law host to_string (kind_of v ∷ []) ≡ None =
          rw c.in_default.is at (c.in_ok-found.ensures v read) in
          led_exactly c.append.result c.of.result c.of.ensures
          (implements_as g.H.Host.law p engine f c.append.new.frame s s c.append.new.self
          c.args.steps.now c.append.new.steps host host refl (c.append.ensures.implements host)
          (λ stop u place. shows_plainly (stopped (setup g.H.Host.law p engine) stop)
          (frame_in f s place) (world (abstraction s c.args.steps.now host) u) c.args.next v h none
          ∙ rw (c.in_ok-text.ensures v read) refl));
    }

pub returns-in-Value : goal.returns-in-Value
returns-in-Value g c =
    let p = c.args.context.program.now in
    let engine = c.args.context.engine.now in
    let s = c.args.self.now in
    let f = c.args.frame.now in
    let host = c.args.host.now in
    let next = c.args.next in
    let t = c.in_ok-type_name.type_name in
    let m = setup g.H.Host.law p engine in
    record {
      implements = λ v read no_text.
          let h = record (top s.stacks.operands) { value = v } in
          let found = rw c.in-Some.is at (c.in_ok-found.ensures v read) in
          let did = c.in_ok-value.ensures.same m to_string (h ∷ []) (frame_in f s)
          (λ n place r w. answer_appended n (flat w.cells r) t next (frame_in f s place) w)
          (λ n place x w. showing_failed n t next (frame_in f s place) x w) refl
          (λ place. sym c.position-position.ensures) found.2 in
          waits_as
          (led_so c.append_answer.result c.of-in-Value.result c.of-in-Value.ensures
          (lent_then g.H.Host.law p engine f s c.call_native.new.self c.args.steps.now
          c.call_native.new.steps host c.call_native.new.host s.scope s.cells s.receivers
          c.call_native.ensures.run refl (refl, refl) c.call_native.ensures.before
          c.requires.begins.inside
          (λ q n place w. answer_appended n (flat w.cells c.in-Value.value) t next
          (frame_in f (record s { stacks = q }) place) w)
          c.append_answer.new.frame c.append_answer.new.self c.append_answer.new.steps
          c.call_native.new.host (same (rw c.in-Value.is at did))
          (as_bound (c.append_answer.ensures.implements c.call_native.new.host))))
          (λ stop u place bound. shows (stopped m stop) (frame_in f s place)
          (world (abstraction s c.args.steps.now host) u) next v h t found.0 found.1
          (c.in_ok-type_name.ensures v read));
    }

pub returns-in-Fault : goal.returns-in-Fault
returns-in-Fault g c =
    let p = c.args.context.program.now in
    let engine = c.args.context.engine.now in
    let s = c.args.self.now in
    let f = c.args.frame.now in
    let host = c.args.host.now in
    let next = c.args.next in
    let t = c.in_ok-type_name.type_name in
    let m = setup g.H.Host.law p engine in
    record {
      implements = λ v read no_text.
          let h = record (top s.stacks.operands) { value = v } in
          let found = rw c.in-Some.is at (c.in_ok-found.ensures v read) in
          let did = c.in_ok-value.ensures.same m to_string (h ∷ []) (frame_in f s)
          (λ n place r w. answer_appended n (flat w.cells r) t next (frame_in f s place) w)
          (λ n place x w. showing_failed n t next (frame_in f s place) x w) refl
          (λ place. sym c.position-position.ensures) found.2 in
          waits_as
          (led_so c.showing_failed.result c.of-in-Fault.result c.of-in-Fault.ensures
          (lent_then g.H.Host.law p engine f s c.call_native.new.self c.args.steps.now
          c.call_native.new.steps host c.call_native.new.host s.scope s.cells s.receivers
          c.call_native.ensures.run refl (refl, refl) c.call_native.ensures.before
          c.requires.begins.inside
          (λ q n place w. showing_failed n t next (frame_in f (record s { stacks = q }) place)
          (problem_of c.in-Fault.fault) w)
          c.showing_failed.new.frame c.showing_failed.new.self c.showing_failed.new.steps
          c.call_native.new.host (same (rw c.in-Fault.is at did))
          (as_bound (c.showing_failed.ensures.implements c.call_native.new.host))))
          (λ stop u place bound. shows (stopped m stop) (frame_in f s place)
          (world (abstraction s c.args.steps.now host) u) next v h t found.0 found.1
          (c.in_ok-type_name.ensures v read));
    }

pub returns-in-Asks : goal.returns-in-Asks
returns-in-Asks g c =
    let p = c.args.context.program.now in
    let engine = c.args.context.engine.now in
    let s = c.args.self.now in
    let f = c.args.frame.now in
    let host = c.args.host.now in
    let next = c.args.next in
    let t = c.in_ok-type_name.type_name in
    let m = setup g.H.Host.law p engine in
    record {
      implements = λ v read no_text.
          let h = record (top s.stacks.operands) { value = v } in
          let found = rw c.in-Some.is at (c.in_ok-found.ensures v read) in
          let did = c.in_ok-value.ensures.same m to_string (h ∷ []) (frame_in f s)
          (λ n place r w. answer_appended n (flat w.cells r) t next (frame_in f s place) w)
          (λ n place x w. showing_failed n t next (frame_in f s place) x w) refl
          (λ place. sym c.position-position.ensures) found.2 in
          waits_as
          (native_waits g.H.Host.law p engine f s c.call_native.new.self c.args.steps.now
          c.call_native.new.steps host c.call_native.new.host c.call_native.ensures.run
          c.call_native.ensures.before c.requires.begins.inside (read_write dynamic.Unit) refl
          c.in-Asks.asked (rest.Show t next) refl
          (c.requires.begins, refl, refl, refl)
          (rw c.in-Asks.is at did) c.wait.new.self c.wait.result c.wait.ensures.after
          c.wait.ensures.waits)
          (λ stop u place bound. shows (stopped m stop) (frame_in f s place)
          (world (abstraction s c.args.steps.now host) u) next v h t found.0 found.1
          (c.in_ok-type_name.ensures v read));
    }

pub returns-in_err-value : goal.returns-in_err-value
returns-in_err-value g c =
    let p = c.args.context.program.now in
    let engine = c.args.context.engine.now in
    let s = c.args.self.now in
    let f = c.args.frame.now in
    let host = c.args.host.now in
    let next = c.args.next in
    let t = c.in_ok-type_name.type_name in
    let m = setup g.H.Host.law p engine in
    let out : is_out c.from_residual-in_err-value.result ≡ true = search rules in
    record {
      implements = λ v read no_text.
          let h = record (top s.stacks.operands) { value = v } in
          let found = rw c.in-Some.is at (c.in_ok-found.ensures v read) in
          let did = c.in_err-value.ensures.same m to_string (h ∷ []) (frame_in f s)
          (λ n place r w. answer_appended n (flat w.cells r) t next (frame_in f s place) w)
          (λ n place x w. showing_failed n t next (frame_in f s place) x w) refl
          (λ place. sym c.position-position.ensures) found.2 in
          waits_as
          (led_out c.in_err-value.field-0.0 c.from_residual-in_err-value.result out
          (as_bound (native_wants g.H.Host.law p engine f s c.call_native.new.self
          c.args.steps.now c.call_native.new.steps host c.call_native.new.host
          (λ n place r w. answer_appended n (flat w.cells r) t next (frame_in f s place) w)
          (λ n place x w. showing_failed n t next (frame_in f s place) x w)
          s.scope s.cells c.call_native.ensures.run refl c.call_native.ensures.before
          c.requires.begins.inside c.in_err-value.field-0.0 (Err c.in_err-value.field-0.0) refl
          did)))
          (λ stop u place bound. shows (stopped m stop) (frame_in f s place)
          (world (abstraction s c.args.steps.now host) u) next v h t found.0 found.1
          (c.in_ok-type_name.ensures v read));
    }

pub returns-in_err-found : goal.returns-in_err-found
returns-in_err-found g c =
    let p = c.args.context.program.now in
    let engine = c.args.context.engine.now in
    let s = c.args.self.now in
    let f = c.args.frame.now in
    let host = c.args.host.now in
    let out : is_out c.from_residual.result ≡ true = search rules in
    record {
      implements = λ v read no_text. led_out c.in_err-found.field-0.0 c.from_residual.result out
          (as_bound (wants_memory g.H.Host.law p engine f s c.args.steps.now host
          (Err c.in_err-found.field-0.0) refl c.requires.begins.inside (λ stop u place halts.
          segment_stops (stopped (setup g.H.Host.law p engine) stop) (frame_in f s place)
          (world (abstraction s c.args.steps.now host) u) halts None v
          (record (top s.stacks.operands) { value = v }) c.args.next)));
    }

pub returns-in_err-text : goal.returns-in_err-text
returns-in_err-text g c =
    let p = c.args.context.program.now in
    let engine = c.args.context.engine.now in
    let s = c.args.self.now in
    let f = c.args.frame.now in
    let host = c.args.host.now in
    let out : is_out c.from_residual-in_err-text.result ≡ true = search rules in
    record {
      implements = λ v read no_text. led_out c.in_err-text.field-0.0 c.from_residual-in_err-text.result out
          (as_bound (wants_memory g.H.Host.law p engine f s c.args.steps.now host
          (Err c.in_err-text.field-0.0) refl c.requires.begins.inside (λ stop u place halts.
          segment_stops (stopped (setup g.H.Host.law p engine) stop) (frame_in f s place)
          (world (abstraction s c.args.steps.now host) u) halts None v
          (record (top s.stacks.operands) { value = v }) c.args.next)));
    }

pub returns-in_err-type_name : goal.returns-in_err-type_name
returns-in_err-type_name g c =
    let p = c.args.context.program.now in
    let engine = c.args.context.engine.now in
    let s = c.args.self.now in
    let f = c.args.frame.now in
    let host = c.args.host.now in
    let out : is_out c.from_residual-in_err-type_name.result ≡ true = search rules in
    record {
      implements = λ v read no_text. led_out c.in_err-type_name.field-0.0 c.from_residual-in_err-type_name.result out
          (as_bound (wants_memory g.H.Host.law p engine f s c.args.steps.now host
          (Err c.in_err-type_name.field-0.0) refl c.requires.begins.inside (λ stop u place halts.
          segment_stops (stopped (setup g.H.Host.law p engine) stop) (frame_in f s place)
          (world (abstraction s c.args.steps.now host) u) halts None v
          (record (top s.stacks.operands) { value = v }) c.args.next)));
    }

pub append_answer-requires : goal.append_answer-requires
append_answer-requires g c = rw c.call_native.ensures.run (record { begins = c.requires.begins })

pub showing_failed-requires : goal.showing_failed-requires
showing_failed-requires g c = rw c.call_native.ensures.run (record { begins = c.requires.begins })
