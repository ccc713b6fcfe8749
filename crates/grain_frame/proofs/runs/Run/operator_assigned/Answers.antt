-- The host's operator on what the target holds and on the operand as it was read.
use Rattle.std.proofs.Common.{◌≡◌, ◌∷◌, [], Err, List, None, Ok, true, refl, sym, arith, rules}
use Rattle.grain_value.specs.Operands.{read_write}
use Rattle.grain_value.specs.declared.values.Held.{Held}
use Rattle.grain_program.specs.View.{name_of}
use Rattle.grain_means.specs.Rules.{assigned_at, flattened, raised}
use Rattle.grain_means.specs.Means.{setup}
use Rattle.grain_means.specs.Simulation.{stopped, world}
use Rattle.grain_means.specs.lemmas.Stretches.{same}
use Rattle.grain_frame.specs.Abstraction.{abstraction, frame_in, is_out}
use Rattle.grain_frame.specs.Natives.{Describes, Seeks}
use Rattle.grain_frame.specs.Targets.{assigned_name, content_at, home_of, kept_operand}
use Rattle.grain_frame.specs.declared.runs.Progress.TheVariants as progress
use Rattle.grain_frame.specs.declared.waiting.Rest.TheVariants as rest
use Rattle.grain_frame.specs.lemmas.Bound.{as_bound}
use Rattle.grain_frame.specs.lemmas.Failing.{operator_stops, wants_memory}
use Rattle.grain_frame.specs.lemmas.Performing.{led, led_out, led_so, less_led, less_out, native_waits, waits_as}
use Rattle.grain_frame.proofs.Lending.{operator_is_native}
use Rattle.grain_frame.proofs.Lent.{lent_then}
use Rattle.grain_frame.proofs.Serving.{native_raised, native_wants}
use Rattle.grain_frame.proofs.runs.Run.operator_assigned.Goals as goal

pub returns-in_err-value : goal.returns-in_err-value
returns-in_err-value g c =
    let p = c.args.context.program.now in
    let engine = c.args.context.engine.now in
    let s = c.args.self.now in
    let f = c.args.frame.now in
    let t = c.args.assignment.target in
    let next = c.args.assignment.next in
    let op = name_of p c.args.assignment.operator.op_name in
    let u = read_write (content_at s t) in
    let v = kept_operand c.args.assignment.kept s.stacks.operands in
    let args : List Held = u ∷ v ∷ [] in
    let one : Describes c.push_content.new.arguments (u ∷ []) =
    c.in_ok-push_content.ensures [] c.new-arguments.ensures in
    let two : Describes c.push.new.self args =
    rw (c.operand-value.ensures, c.top.ensures) at (c.in_ok-push.ensures (u ∷ []) one) in
    let seeks : Seeks g.H.Host.law c.args.host.now op None args
    c.position-position.result c.in_ok-sought.sought =
    rw c.name-name.ensures at (c.in_ok-sought.ensures args two) in
    let m = setup g.H.Host.law p engine in
    let out : is_out c.from_residual-in_err-value.result ≡ true = search rules in
    record {
      implements = λ h plain.
          let did = c.in_err-value.ensures.same m op args (frame_in f s)
          (λ n place r w. flattened n (read_write r)
          (assigned_name n.program c.args.assignment.variable) (frame_in f s place) w
          (λ q. assigned_at n (home_of t place) (read_write q)
          (assigned_name n.program c.args.assignment.variable) next (frame_in f s place) w))
          (λ n place x w. raised n (frame_in f s place) x w) refl
          (λ place. sym c.position-position.ensures) seeks in
          waits_as
          (led_out c.in_err-value.field-0.0 c.from_residual-in_err-value.result out
          (as_bound (native_wants g.H.Host.law p engine f s c.call_native.new.self c.args.steps.now
          c.call_native.new.steps c.args.host.now c.call_native.new.host
          (λ n place r w. flattened n (read_write r)
          (assigned_name n.program c.args.assignment.variable) (frame_in f s place) w
          (λ q. assigned_at n (home_of t place) (read_write q)
          (assigned_name n.program c.args.assignment.variable) next (frame_in f s place) w))
          (λ n place x w. raised n (frame_in f s place) x w)
          s.scope s.cells c.call_native.ensures.run refl c.call_native.ensures.before
          c.requires.can.inside c.in_err-value.field-0.0 (Err c.in_err-value.field-0.0) refl
          did)))
          (λ stop w place bound. operator_is_native (stopped m stop) (home_of t place)
          (assigned_name p c.args.assignment.variable) op h u v next (frame_in f s place)
          (world (abstraction s c.args.steps.now c.args.host.now) w) plain);
      less = less_out (rest.Assign c.args.assignment) c.from_residual-in_err-value.result _ out;
    }

pub returns-in-Fault : goal.returns-in-Fault
returns-in-Fault g c =
    let p = c.args.context.program.now in
    let engine = c.args.context.engine.now in
    let s = c.args.self.now in
    let f = c.args.frame.now in
    let t = c.args.assignment.target in
    let next = c.args.assignment.next in
    let op = name_of p c.args.assignment.operator.op_name in
    let u = read_write (content_at s t) in
    let v = kept_operand c.args.assignment.kept s.stacks.operands in
    let args : List Held = u ∷ v ∷ [] in
    let one : Describes c.push_content.new.arguments (u ∷ []) =
    c.in_ok-push_content.ensures [] c.new-arguments.ensures in
    let two : Describes c.push.new.self args =
    rw (c.operand-value.ensures, c.top.ensures) at (c.in_ok-push.ensures (u ∷ []) one) in
    let seeks : Seeks g.H.Host.law c.args.host.now op None args
    c.position-position.result c.in_ok-sought.sought =
    rw c.name-name.ensures at (c.in_ok-sought.ensures args two) in
    let m = setup g.H.Host.law p engine in
    rw c.raise.ensures.progress (record {
      implements = λ h plain.
          let did = c.in_ok-value.ensures.same m op args (frame_in f s)
          (λ n place r w. flattened n (read_write r)
          (assigned_name n.program c.args.assignment.variable) (frame_in f s place) w
          (λ q. assigned_at n (home_of t place) (read_write q)
          (assigned_name n.program c.args.assignment.variable) next (frame_in f s place) w))
          (λ n place x w. raised n (frame_in f s place) x w) refl
          (λ place. sym c.position-position.ensures) seeks in
          waits_as
          (led (Ok progress.Failed) (as_bound (native_raised g.H.Host.law p engine f s
          c.call_native.new.self c.args.steps.now
          c.call_native.new.steps c.args.host.now c.call_native.new.host
          (λ n place r w. flattened n (read_write r)
          (assigned_name n.program c.args.assignment.variable) (frame_in f s place) w
          (λ q. assigned_at n (home_of t place) (read_write q)
          (assigned_name n.program c.args.assignment.variable) next (frame_in f s place) w))
          (λ n place x w. raised n (frame_in f s place) x w)
          s.scope s.cells c.call_native.ensures.run refl c.call_native.ensures.before
          c.requires.can.inside c.in-Fault.fault c.raise.new.self c.raise.new.steps
          (rw c.in-Fault.is at did) c.raise.ensures.after c.raise.ensures.marked)))
          (λ stop w place bound. operator_is_native (stopped m stop) (home_of t place)
          (assigned_name p c.args.assignment.variable) op h u v next (frame_in f s place)
          (world (abstraction s c.args.steps.now c.args.host.now) w) plain);
      less = tt;
    })

pub returns-in-Value : goal.returns-in-Value
returns-in-Value g c =
    let p = c.args.context.program.now in
    let engine = c.args.context.engine.now in
    let s = c.args.self.now in
    let f = c.args.frame.now in
    let t = c.args.assignment.target in
    let next = c.args.assignment.next in
    let op = name_of p c.args.assignment.operator.op_name in
    let u = read_write (content_at s t) in
    let v = kept_operand c.args.assignment.kept s.stacks.operands in
    let args : List Held = u ∷ v ∷ [] in
    let one : Describes c.push_content.new.arguments (u ∷ []) =
    c.in_ok-push_content.ensures [] c.new-arguments.ensures in
    let two : Describes c.push.new.self args =
    rw (c.operand-value.ensures, c.top.ensures) at (c.in_ok-push.ensures (u ∷ []) one) in
    let seeks : Seeks g.H.Host.law c.args.host.now op None args
    c.position-position.result c.in_ok-sought.sought =
    rw c.name-name.ensures at (c.in_ok-sought.ensures args two) in
    let m = setup g.H.Host.law p engine in
    record {
      implements = λ h plain.
          let did = c.in_ok-value.ensures.same m op args (frame_in f s)
          (λ n place r w. flattened n (read_write r)
          (assigned_name n.program c.args.assignment.variable) (frame_in f s place) w
          (λ q. assigned_at n (home_of t place) (read_write q)
          (assigned_name n.program c.args.assignment.variable) next (frame_in f s place) w))
          (λ n place x w. raised n (frame_in f s place) x w) refl
          (λ place. sym c.position-position.ensures) seeks in
          waits_as
          (led_so c.assign_answer.result c.of.result c.of.ensures
          (lent_then g.H.Host.law p engine f s c.call_native.new.self c.args.steps.now
          c.call_native.new.steps c.args.host.now c.call_native.new.host
          s.scope s.cells s.receivers c.call_native.ensures.run refl (refl, refl)
          c.call_native.ensures.before c.requires.can.inside
          (λ q n place w. flattened n (read_write c.in-Value.value)
          (assigned_name n.program c.args.assignment.variable)
          (frame_in f (record s { stacks = q }) place) w
          (λ x. assigned_at n (home_of t place) (read_write x)
          (assigned_name n.program c.args.assignment.variable) next
          (frame_in f (record s { stacks = q }) place) w))
          c.assign_answer.new.frame c.assign_answer.new.self c.assign_answer.new.steps
          c.call_native.new.host (same (rw c.in-Value.is at did))
          (c.assign_answer.ensures.implements c.call_native.new.host)))
          (λ stop w place bound. operator_is_native (stopped m stop) (home_of t place)
          (assigned_name p c.args.assignment.variable) op h u v next (frame_in f s place)
          (world (abstraction s c.args.steps.now c.args.host.now) w) plain);
      less = less_led (rest.Assign c.args.assignment) c.assign_answer.result c.of.result _ c.of.ensures;
    }

pub returns-in-Asks : goal.returns-in-Asks
returns-in-Asks g c =
    let p = c.args.context.program.now in
    let engine = c.args.context.engine.now in
    let s = c.args.self.now in
    let f = c.args.frame.now in
    let t = c.args.assignment.target in
    let next = c.args.assignment.next in
    let op = name_of p c.args.assignment.operator.op_name in
    let u = read_write (content_at s t) in
    let v = kept_operand c.args.assignment.kept s.stacks.operands in
    let args : List Held = u ∷ v ∷ [] in
    let one : Describes c.push_content.new.arguments (u ∷ []) =
    c.in_ok-push_content.ensures [] c.new-arguments.ensures in
    let two : Describes c.push.new.self args =
    rw (c.operand-value.ensures, c.top.ensures) at (c.in_ok-push.ensures (u ∷ []) one) in
    let seeks : Seeks g.H.Host.law c.args.host.now op None args
    c.position-position.result c.in_ok-sought.sought =
    rw c.name-name.ensures at (c.in_ok-sought.ensures args two) in
    let m = setup g.H.Host.law p engine in
    record {
      implements = λ h plain.
          let did = c.in_ok-value.ensures.same m op args (frame_in f s)
          (λ n place r w. flattened n (read_write r)
          (assigned_name n.program c.args.assignment.variable) (frame_in f s place) w
          (λ q. assigned_at n (home_of t place) (read_write q)
          (assigned_name n.program c.args.assignment.variable) next (frame_in f s place) w))
          (λ n place x w. raised n (frame_in f s place) x w) refl
          (λ place. sym c.position-position.ensures) seeks in
          waits_as
          (native_waits g.H.Host.law p engine f s c.call_native.new.self c.args.steps.now
          c.call_native.new.steps c.args.host.now c.call_native.new.host
          c.call_native.ensures.run c.call_native.ensures.before c.requires.can.inside h plain
          c.in-Asks.asked (rest.Operate c.args.assignment) refl
          (c.requires.can, refl, refl, refl) (rw c.in-Asks.is at did) c.wait.new.self
          c.wait.result c.wait.ensures.after c.wait.ensures.waits)
          (λ stop w place bound. operator_is_native (stopped m stop) (home_of t place)
          (assigned_name p c.args.assignment.variable) op h u v next (frame_in f s place)
          (world (abstraction s c.args.steps.now c.args.host.now) w) plain);
      less = rw (c.wait.ensures.waits, c.wait.ensures.after) (omega arith);
    }

pub returns-in_err-push_content : goal.returns-in_err-push_content
returns-in_err-push_content g c =
    let p = c.args.context.program.now in
    let engine = c.args.context.engine.now in
    let s = c.args.self.now in
    let f = c.args.frame.now in
    let t = c.args.assignment.target in
    let out : is_out c.from_residual.result ≡ true = search rules in
    record {
      implements = λ h plain. led_out c.in_err-push_content.field-0.0 c.from_residual.result out
          (as_bound (wants_memory g.H.Host.law p engine f s c.args.steps.now
          c.args.host.now (Err c.in_err-push_content.field-0.0) refl c.requires.can.inside
          (λ stop w place halts. operator_stops (stopped (setup g.H.Host.law p engine) stop)
          (home_of t place) (assigned_name p c.args.assignment.variable)
          (name_of p c.args.assignment.operator.op_name) h (read_write (content_at s t))
          (kept_operand c.args.assignment.kept s.stacks.operands)
          c.args.assignment.next (frame_in f s place)
          (world (abstraction s c.args.steps.now c.args.host.now) w) halts)));
      less = less_out (rest.Assign c.args.assignment) c.from_residual.result _ out;
    }

pub returns-in_err-push : goal.returns-in_err-push
returns-in_err-push g c =
    let p = c.args.context.program.now in
    let engine = c.args.context.engine.now in
    let s = c.args.self.now in
    let f = c.args.frame.now in
    let t = c.args.assignment.target in
    let out : is_out c.from_residual-in_err-push.result ≡ true = search rules in
    record {
      implements = λ h plain. led_out c.in_err-push.field-0.0 c.from_residual-in_err-push.result out
          (as_bound (wants_memory g.H.Host.law p engine f s c.args.steps.now
          c.args.host.now (Err c.in_err-push.field-0.0) refl c.requires.can.inside
          (λ stop w place halts. operator_stops (stopped (setup g.H.Host.law p engine) stop)
          (home_of t place) (assigned_name p c.args.assignment.variable)
          (name_of p c.args.assignment.operator.op_name) h (read_write (content_at s t))
          (kept_operand c.args.assignment.kept s.stacks.operands)
          c.args.assignment.next (frame_in f s place)
          (world (abstraction s c.args.steps.now c.args.host.now) w) halts)));
      less = less_out (rest.Assign c.args.assignment) c.from_residual-in_err-push.result _ out;
    }

pub returns-in_err-sought : goal.returns-in_err-sought
returns-in_err-sought g c =
    let p = c.args.context.program.now in
    let engine = c.args.context.engine.now in
    let s = c.args.self.now in
    let f = c.args.frame.now in
    let t = c.args.assignment.target in
    let out : is_out c.from_residual-in_err-sought.result ≡ true = search rules in
    record {
      implements = λ h plain. led_out c.in_err-sought.field-0.0 c.from_residual-in_err-sought.result out
          (as_bound (wants_memory g.H.Host.law p engine f s c.args.steps.now
          c.args.host.now (Err c.in_err-sought.field-0.0) refl c.requires.can.inside
          (λ stop w place halts. operator_stops (stopped (setup g.H.Host.law p engine) stop)
          (home_of t place) (assigned_name p c.args.assignment.variable)
          (name_of p c.args.assignment.operator.op_name) h (read_write (content_at s t))
          (kept_operand c.args.assignment.kept s.stacks.operands)
          c.args.assignment.next (frame_in f s place)
          (world (abstraction s c.args.steps.now c.args.host.now) w) halts)));
      less = less_out (rest.Assign c.args.assignment) c.from_residual-in_err-sought.result _ out;
    }

pub assign_answer-requires : goal.assign_answer-requires
assign_answer-requires g c = rw c.call_native.ensures.run (record { can = c.requires.can })
