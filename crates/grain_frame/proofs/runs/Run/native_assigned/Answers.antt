-- The host's op-assignment, and what follows from its fault.
use Rattle.std.proofs.Common.{◌≡◌, ◌∷◌, [], Err, Ok, Option, Some, true, refl, sym, rules}
use Rattle.grain_program.specs.View.{name_of}
use Rattle.grain_value.specs.Operands.{below, read_write}
use Rattle.grain_fault.specs.Problems.{problem_of}
use Rattle.grain_ops.specs.Outcomes.{NotBuiltIn}
use Rattle.grain_means.specs.Worlds.{Place}
use Rattle.grain_means.specs.Rules.{onward, op_assign_failed_at, stepped}
use Rattle.grain_means.specs.Means.{setup}
use Rattle.grain_means.specs.Simulation.{stopped, world}
use Rattle.grain_frame.specs.Abstraction.{abstraction, frame_in, is_out}
use Rattle.grain_frame.specs.Natives.{Seeks}
use Rattle.grain_frame.specs.Targets.{assigned_name, content_at, home_of, kept_operand, receiver_at}
use Rattle.grain_frame.specs.declared.runs.Progress.TheVariants as progress
use Rattle.grain_frame.specs.lemmas.Bound.{as_bound}
use Rattle.grain_frame.specs.lemmas.Failing.{store_stops, wants_memory}
use Rattle.grain_frame.specs.lemmas.Performing.{led, led_out, waits_as}
use Rattle.grain_frame.proofs.Asking.{lent_goes, lent_waits}
use Rattle.grain_frame.proofs.Holding.{goes_after, lends_free}
use Rattle.grain_frame.proofs.Lending.{lent_at}
use Rattle.grain_frame.proofs.Lent.{lent_used, lent_wants}
use Rattle.grain_frame.proofs.runs.Run.native_assigned.Goals as goal

pub op_assign_failed-requires : goal.op_assign_failed-requires
op_assign_failed-requires g c =
    let t = c.args.assignment.target in
    record {
      can = goes_after c.args.context.program.now c.args.frame.now c.args.self.now
          c.call_lent.new.self c.args.assignment c.call_lent.new.self.scope
          c.call_lent.new.self.cells c.call_lent.new.self.receivers c.call_lent.ensures.run
          c.call_lent.ensures.long c.call_lent.ensures.again c.requires.can;
      back = lends_free c.call_lent.new.self t c.call_lent.ensures.again;
    }

pub returns-in_err-call_lent : goal.returns-in_err-call_lent
returns-in_err-call_lent g c =
    let p = c.args.context.program.now in
    let engine = c.args.context.engine.now in
    let s = c.args.self.now in
    let f = c.args.frame.now in
    let t = c.args.assignment.target in
    let a = c.args.assignment.operator in
    let next = c.args.assignment.next in
    let u = content_at s t in
    let v = kept_operand c.args.assignment.kept s.stacks.operands in
    let m = setup g.H.Host.law p engine in
    let seeks : (place : Option Place) → Seeks g.H.Host.law c.args.host.now
    (name_of p a.op_assign_name) (Some (receiver_at t place (read_write u))) (v ∷ [])
    c.position-position.result c.in_ok-sought.sought =
    λ place. c.in_ok-sought.ensures place in
    let out : is_out c.from_residual-in_err-call_lent.result ≡ true = search rules in
    record {
      implements = λ h plain.
          let did = c.in_err-call_lent.ensures.same m (name_of p a.op_assign_name)
          (read_write u) (v ∷ []) (frame_in f s)
          (λ n place r w. onward n (frame_in f s place)
          (stepped (frame_in f s place) next (below s.stacks.operands)) w)
          (λ n place x w. op_assign_failed_at n (home_of t place)
          (assigned_name n.program c.args.assignment.variable) a h v next
          (frame_in f s place) x w) refl
          (λ place. sym c.position-position.ensures) c.requires.writable refl seeks in
          waits_as
          (led_out c.in_err-call_lent.field-0.0 c.from_residual-in_err-call_lent.result out
          (lent_wants g.H.Host.law p engine f s c.call_lent.new.self c.args.steps.now
          c.call_lent.new.steps c.args.host.now c.call_lent.new.host
          c.call_lent.new.self.scope c.call_lent.new.self.cells c.call_lent.new.self.receivers
          c.call_lent.ensures.run c.call_lent.ensures.long c.call_lent.ensures.this
          c.call_lent.ensures.before c.requires.can.inside
          (λ n place r w. onward n (frame_in f s place)
          (stepped (frame_in f s place) next (below s.stacks.operands)) w)
          (λ n place x w. op_assign_failed_at n (home_of t place)
          (assigned_name n.program c.args.assignment.variable) a h v next
          (frame_in f s place) x w)
          c.in_err-call_lent.field-0.0 (Err c.in_err-call_lent.field-0.0) refl did))
          (λ stop w place bound. lent_at (stopped m stop) t place
          (assigned_name p c.args.assignment.variable) a h u v next (frame_in f s place)
          (world (abstraction s c.args.steps.now c.args.host.now) w) plain);
    }

pub returns-in-Value : goal.returns-in-Value
returns-in-Value g c =
    let p = c.args.context.program.now in
    let engine = c.args.context.engine.now in
    let s = c.args.self.now in
    let f = c.args.frame.now in
    let t = c.args.assignment.target in
    let a = c.args.assignment.operator in
    let next = c.args.assignment.next in
    let u = content_at s t in
    let v = kept_operand c.args.assignment.kept s.stacks.operands in
    let m = setup g.H.Host.law p engine in
    let seeks : (place : Option Place) → Seeks g.H.Host.law c.args.host.now
    (name_of p a.op_assign_name) (Some (receiver_at t place (read_write u))) (v ∷ [])
    c.position-position.result c.in_ok-sought.sought =
    λ place. c.in_ok-sought.ensures place in
    rw c.mark.ensures (record {
      implements = λ h plain.
          let did = c.in_ok-call_lent.ensures.same m (name_of p a.op_assign_name)
          (read_write u) (v ∷ []) (frame_in f s)
          (λ n place r w. onward n (frame_in f s place)
          (stepped (frame_in f s place) next (below s.stacks.operands)) w)
          (λ n place x w. op_assign_failed_at n (home_of t place)
          (assigned_name n.program c.args.assignment.variable) a h v next
          (frame_in f s place) x w) refl
          (λ place. sym c.position-position.ensures) c.requires.writable refl seeks in
          waits_as
          (led (Ok progress.Continues)
          (lent_used g.H.Host.law p engine f s c.call_lent.new.self c.args.steps.now
          c.call_lent.new.steps c.args.host.now c.call_lent.new.host
          c.call_lent.new.self.scope c.call_lent.new.self.cells c.call_lent.new.self.receivers
          c.call_lent.ensures.run c.call_lent.ensures.long c.call_lent.ensures.this
          c.call_lent.ensures.before c.requires.can.inside next
          c.pop-value.new.self (rw c.in-Value.is at did)
          c.pop-value.ensures.rest c.requires.can.ahead))
          (λ stop w place bound. lent_at (stopped m stop) t place
          (assigned_name p c.args.assignment.variable) a h u v next (frame_in f s place)
          (world (abstraction s c.args.steps.now c.args.host.now) w) plain);
    })

pub returns-in-Fault : goal.returns-in-Fault
returns-in-Fault g c =
    let p = c.args.context.program.now in
    let engine = c.args.context.engine.now in
    let s = c.args.self.now in
    let f = c.args.frame.now in
    let t = c.args.assignment.target in
    let a = c.args.assignment.operator in
    let next = c.args.assignment.next in
    let u = content_at s t in
    let v = kept_operand c.args.assignment.kept s.stacks.operands in
    let m = setup g.H.Host.law p engine in
    let seeks : (place : Option Place) → Seeks g.H.Host.law c.args.host.now
    (name_of p a.op_assign_name) (Some (receiver_at t place (read_write u))) (v ∷ [])
    c.position-position.result c.in_ok-sought.sought =
    λ place. c.in_ok-sought.ensures place in
    record {
      implements = λ h plain.
          let did = c.in_ok-call_lent.ensures.same m (name_of p a.op_assign_name)
          (read_write u) (v ∷ []) (frame_in f s)
          (λ n place r w. onward n (frame_in f s place)
          (stepped (frame_in f s place) next (below s.stacks.operands)) w)
          (λ n place x w. op_assign_failed_at n (home_of t place)
          (assigned_name n.program c.args.assignment.variable) a h v next
          (frame_in f s place) x w) refl
          (λ place. sym c.position-position.ensures) c.requires.writable refl seeks in
          waits_as
          (lent_goes g.H.Host.law p engine f s c.call_lent.new.self c.args.steps.now
          c.call_lent.new.steps c.args.host.now c.call_lent.new.host
          c.call_lent.new.self.scope c.call_lent.new.self.cells c.call_lent.new.self.receivers
          c.call_lent.ensures.run c.call_lent.ensures.long c.call_lent.ensures.this
          c.call_lent.ensures.before c.requires.can.inside
          (λ q n place w. op_assign_failed_at n (home_of t place)
          (assigned_name n.program c.args.assignment.variable) a h
          (kept_operand c.args.assignment.kept q.operands) next
          (frame_in f (record s { stacks = q }) place) (problem_of c.in-Fault.fault) w)
          c.op_assign_failed.new.frame c.op_assign_failed.new.self c.op_assign_failed.new.steps
          c.op_assign_failed.new.host (rw c.in-Fault.is at did)
          (c.op_assign_failed.ensures.implements h plain))
          (λ stop w place bound. lent_at (stopped m stop) t place
          (assigned_name p c.args.assignment.variable) a h u v next (frame_in f s place)
          (world (abstraction s c.args.steps.now c.args.host.now) w) plain);
    }

pub returns-in-Asks : goal.returns-in-Asks
returns-in-Asks g c =
    let p = c.args.context.program.now in
    let engine = c.args.context.engine.now in
    let s = c.args.self.now in
    let f = c.args.frame.now in
    let t = c.args.assignment.target in
    let a = c.args.assignment.operator in
    let next = c.args.assignment.next in
    let u = content_at s t in
    let v = kept_operand c.args.assignment.kept s.stacks.operands in
    let m = setup g.H.Host.law p engine in
    let seeks : (place : Option Place) → Seeks g.H.Host.law c.args.host.now
    (name_of p a.op_assign_name) (Some (receiver_at t place (read_write u))) (v ∷ [])
    c.position-position.result c.in_ok-sought.sought =
    λ place. c.in_ok-sought.ensures place in
    record {
      implements = λ h plain.
          let did = c.in_ok-call_lent.ensures.same m (name_of p a.op_assign_name)
          (read_write u) (v ∷ []) (frame_in f s)
          (λ n place r w. onward n (frame_in f s place)
          (stepped (frame_in f s place) next (below s.stacks.operands)) w)
          (λ n place x w. op_assign_failed_at n (home_of t place)
          (assigned_name n.program c.args.assignment.variable) a h v next
          (frame_in f s place) x w) refl
          (λ place. sym c.position-position.ensures) c.requires.writable refl seeks in
          waits_as
          (lent_waits g.H.Host.law p engine f s c.call_lent.new.self c.args.steps.now
          c.call_lent.new.steps c.args.host.now c.call_lent.new.host
          c.call_lent.new.self.scope c.call_lent.new.self.cells c.call_lent.new.self.receivers
          c.call_lent.ensures.run c.call_lent.ensures.long c.call_lent.ensures.this
          c.call_lent.ensures.before
          c.args.assignment h c.in-Asks.asked c.keep_lent-lent.result c.keep_lent-lent.new.self
          plain c.requires.can c.call_lent.ensures.again
          (c.call_lent.ensures.writable c.requires.writable) c.keep_lent-lent.ensures
          (rw c.in-Asks.is at did) c.wait.new.self c.wait.result c.wait.ensures.after
          c.wait.ensures.waits)
          (λ stop w place bound. lent_at (stopped m stop) t place
          (assigned_name p c.args.assignment.variable) a h u v next (frame_in f s place)
          (world (abstraction s c.args.steps.now c.args.host.now) w) plain);
    }

pub returns-in_err-sought : goal.returns-in_err-sought
returns-in_err-sought g c =
    let p = c.args.context.program.now in
    let engine = c.args.context.engine.now in
    let s = c.args.self.now in
    let f = c.args.frame.now in
    let t = c.args.assignment.target in
    let out : is_out c.from_residual.result ≡ true = search rules in
    record {
      implements = λ h plain. led_out c.in_err-sought.field-0.0 c.from_residual.result out
          (as_bound (wants_memory g.H.Host.law p engine f s c.args.steps.now
          c.args.host.now (Err c.in_err-sought.field-0.0) refl c.requires.can.inside
          (λ stop w place halts. store_stops (stopped (setup g.H.Host.law p engine) stop)
          (home_of t place) (assigned_name p c.args.assignment.variable) NotBuiltIn
          c.args.assignment.operator h (content_at s t)
          (kept_operand c.args.assignment.kept s.stacks.operands)
          c.args.assignment.next (frame_in f s place)
          (world (abstraction s c.args.steps.now c.args.host.now) w) halts)));
    }
