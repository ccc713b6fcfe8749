-- `this`, or its cell, has the operand's value.
use Rattle.std.proofs.Common.{◌≡◌, ◌∙◌, [], true, length, refl, ap, rules}
use Rattle.grain_value.specs.Cells.{flat}
use Rattle.grain_value.specs.Operands.{below, read_write, top}
use Rattle.grain_means.specs.Means.{setup}
use Rattle.grain_means.specs.Rules.{assigned_at, onward, raised, stepped}
use Rattle.grain_means.specs.Simulation.{stopped, world}
use Rattle.grain_frame.specs.Abstraction.{abstraction, frame_in, is_out}
use Rattle.grain_frame.specs.Refusals.{refusal_fault}
use Rattle.grain_frame.specs.Targets.{home_of, put_in}
use Rattle.grain_frame.specs.declared.runs.Run.{Run}
use Rattle.grain_frame.specs.lemmas.Bound.{as_bound, bound_as}
use Rattle.grain_frame.specs.lemmas.Failing.{raises_here, wants_memory, written_stops}
use Rattle.grain_frame.proofs.Flattening.{value_there}
use Rattle.grain_frame.proofs.Lending.{writes}
use Rattle.grain_frame.proofs.Refusing.{this_lends, this_refused, this_written}
use Rattle.grain_frame.proofs.Targeting.{lends_beside}
use Rattle.grain_frame.proofs.runs.Run.assign_this.Goals as goal

pub returns : goal.returns
returns g c =
    let p = c.args.context.program.now in
    let engine = c.args.context.engine.now in
    let s = c.args.self.now in
    let f = c.args.frame.now in
    let t = c.in-Ok.target in
    let held = c.in-Ok.ensures.0 in
    let found = c.in-Ok.ensures.1 in
    let v = c.in_ok-value.value in
    let written : c.write.new.self ≡ put_in c.take_flat.new.self t (read_write v) =
    search rules in
    rw (c.mark-2.ensures, c.mark.ensures) (record {
      performs = λ host.
          writes g.H.Host.law p engine f s c.args.steps.now host t c.args.next
          (this_lends s t held found) c.requires.ready.inside
          c.requires.ready.operands c.requires.ready.ahead (read_write v) (λ m. [])
          (record s.stacks { operands = below s.stacks.operands }) c.write.new.self refl refl
          (written ∙ ap (λ (r : Run g.row.H.Denot). put_in r t (read_write v))
          c.in_ok-value.ensures.rest)
          (λ stop u place bound. this_written (stopped (setup g.H.Host.law p engine) stop) f s
          c.args.steps.now host u place bound c.args.next t held v found
          c.in_ok-value.ensures.value);
    })

pub returns-in_err-value : goal.returns-in_err-value
returns-in_err-value g c =
    let p = c.args.context.program.now in
    let engine = c.args.context.engine.now in
    let s = c.args.self.now in
    let f = c.args.frame.now in
    let t = c.in-Ok.target in
    let held = c.in-Ok.ensures.0 in
    let found = c.in-Ok.ensures.1 in
    let read = value_there (flat s.cells (top s.stacks.operands).value) found.readable in
    let out : is_out c.from_residual.result ≡ true = search rules in
    let same : c.take_flat.new.self ≡ s = search rules in
    rw same (record {
      performs = λ host. bound_as (as_bound (wants_memory g.H.Host.law p engine f s
          c.args.steps.now host
          {rule = λ m place w. assigned_at m (home_of t place) (read_write read.0) [] c.args.next
          (frame_in f s place) w}
          c.from_residual.result out c.requires.ready.inside
          (λ stop u place halts. written_stops (stopped (setup g.H.Host.law p engine) stop)
          (home_of t place) (read_write read.0) [] (frame_in f s place)
          (world (abstraction s c.args.steps.now host) u)
          (onward (stopped (setup g.H.Host.law p engine) stop) (frame_in f s place)
          (stepped (frame_in f s place) c.args.next (below s.stacks.operands))) halts)))
          (λ stop u place bound. this_written (stopped (setup g.H.Host.law p engine) stop) f s
          c.args.steps.now host u place bound c.args.next t held read.0 found read.1);
    })

pub returns-in-Err : goal.returns-in-Err
returns-in-Err g c =
    let p = c.args.context.program.now in
    let engine = c.args.context.engine.now in
    let s = c.args.self.now in
    let f = c.args.frame.now in
    let x = refusal_fault p (length s.scope) f.address [] c.in-Err.refusal in
    record {
      performs = λ host. bound_as (as_bound
          (raises_here g.H.Host.law p engine f s c.refuse_this.new.self
          c.args.steps.now c.refuse_this.new.steps host x
          {rule = λ m place w. raised m (frame_in f s place) x w}
          c.refuse_this.result c.refuse_this.ensures c.requires.ready.inside
          (λ stop u place. refl)))
          (λ stop u place bound. this_refused (stopped (setup g.H.Host.law p engine) stop) f s
          c.args.steps.now host u place bound c.args.next c.in-Err.refusal c.in-Err.ensures);
    }

pub take_flat-requires-clause-readable : goal.take_flat-requires-clause-readable
take_flat-requires-clause-readable g c = c.in-Ok.ensures.1.readable

pub write-requires : goal.write-requires
write-requires g c =
    let s = c.args.self.now in
    let t = c.in-Ok.target in
    rw c.in_ok-value.ensures.rest (lends_beside s
    (record s.stacks { operands = below s.stacks.operands }) t
    (this_lends s t c.in-Ok.ensures.0 c.in-Ok.ensures.1))
