-- `this`, or its cell, is the target of the op-assignment.
use Rattle.std.proofs.Common.{◌≡◌, ◌∙◌, [], Err, true, refl, ap, rules}
use Rattle.std.specs.Prelude.{length}
use Rattle.grain_value.specs.Cells.{flat}
use Rattle.grain_value.specs.Operands.{top}
use Rattle.grain_value.specs.declared.values.Held.{Held}
use Rattle.grain_program.specs.View.{assign_op_of}
use Rattle.grain_means.specs.Means.{setup}
use Rattle.grain_means.specs.Rules.{op_assigned, outcome_at, raised}
use Rattle.grain_means.specs.Simulation.{stopped, world}
use Rattle.grain_frame.specs.Abstraction.{abstraction, frame_in, is_out, this_of}
use Rattle.grain_frame.specs.Refusals.{refusal_fault}
use Rattle.grain_frame.specs.Targets.{content_at, home_of}
use Rattle.grain_frame.specs.declared.targets.Target.TheVariants as to
use Rattle.grain_frame.specs.lemmas.Bound.{as_bound, bound_as, bound_at_place}
use Rattle.grain_frame.specs.lemmas.Failing.{raises_here, store_stops, wants_memory}
use Rattle.grain_frame.specs.lemmas.Performing.{led_out, led_so, waits_as}
use Rattle.grain_frame.proofs.Flattening.{value_there}
use Rattle.grain_frame.proofs.Refusing.{found_plain, this_content, this_holds, this_is_home, this_lends, this_op_refused, this_op_written}
use Rattle.grain_frame.proofs.runs.Run.assign_this_op.Goals as goal

pub returns-in_err-kept : goal.returns-in_err-kept
returns-in_err-kept g c =
    let p = c.args.context.program.now in
    let engine = c.args.context.engine.now in
    let s = c.args.self.now in
    let f = c.args.frame.now in
    let t = c.in-Ok.target in
    let held = c.in-Ok.ensures.0 in
    let found = c.in-Ok.ensures.1 in
    let read = value_there (flat s.cells (top s.stacks.operands).value) found.readable in
    let a = assign_op_of p c.args.assign_op in
    let u = content_at s t in
    let v : Held = record { value = read.0; read_only = (top s.stacks.operands).read_only } in
    let out : is_out c.from_residual.result ≡ true = search rules in
    record {
      performs = led_out c.in_err-kept.field-0.0 c.from_residual.result out
          (bound_as (as_bound (wants_memory g.H.Host.law p engine f s c.args.steps.now
          c.args.host.now
          {rule = λ m place w. outcome_at m (home_of t place) [] (op_assigned m.engine a u read.0)
          a held u v c.args.next (frame_in f s place) w}
          (Err c.in_err-kept.field-0.0) refl c.requires.ready.inside
          (λ stop w place halts. store_stops
          (stopped (setup g.H.Host.law p engine) stop) (home_of t place) []
          (op_assigned engine a u read.0) a held u v c.args.next (frame_in f s place)
          (world (abstraction s c.args.steps.now c.args.host.now) w) halts)))
          (λ stop w place bound. this_op_written (stopped (setup g.H.Host.law p engine) stop) f s
          c.args.steps.now c.args.host.now w place bound c.args.next a t held read.0 found read.1));
    }

pub returns-in-Err : goal.returns-in-Err
returns-in-Err g c =
    let p = c.args.context.program.now in
    let engine = c.args.context.engine.now in
    let s = c.args.self.now in
    let f = c.args.frame.now in
    let x = refusal_fault p (length s.scope) f.address [] c.in-Err.refusal in
    record {
      performs = led_so c.refuse_this.result c.of.result c.of.ensures (bound_as (as_bound
          (raises_here g.H.Host.law p engine f s c.refuse_this.new.self
          c.args.steps.now c.refuse_this.new.steps c.args.host.now x
          {rule = λ m place w. raised m (frame_in f s place) x w}
          c.refuse_this.result c.refuse_this.ensures c.requires.ready.inside
          (λ stop u place. refl)))
          (λ stop u place bound. this_op_refused (stopped (setup g.H.Host.law p engine) stop) f s
          c.args.steps.now c.args.host.now u place bound c.args.next
          (assign_op_of p c.args.assign_op) c.in-Err.refusal c.in-Err.ensures));
    }

pub kept_operand-requires-clause-readable : goal.kept_operand-requires-clause-readable
kept_operand-requires-clause-readable g c = c.in-Ok.ensures.1.readable

pub op_assign_target-requires : goal.op_assign_target-requires
op_assign_target-requires g c =
    let s = c.args.self.now in
    record {
      can = record {
        inside = c.requires.ready.inside;
        target = this_lends s c.in-Ok.target c.in-Ok.ensures.0 c.in-Ok.ensures.1;
        operand = c.requires.ready.operands;
        ahead = c.requires.ready.ahead;
        first = search rules;
        second = search rules;
        variable = search rules;
      };
      writable = this_holds s c.in-Ok.target c.in-Ok.ensures.0 c.in-Ok.ensures.1;
    }

pub returns : goal.returns
returns g c =
    let p = c.args.context.program.now in
    let s = c.args.self.now in
    let t = c.in-Ok.target in
    let held = c.in-Ok.ensures.0 in
    let found = c.in-Ok.ensures.1 in
    let same_op : c.assign_op.result.now ≡ assign_op_of p c.args.assign_op =
    c.assign_op.ensures ∙ ap (assign_op_of p) c.from.ensures in
    record {
      performs = waits_as (c.op_assign_target.ensures.implements held
          (found_plain s to.This t held found))
          (λ stop u place bound.
          let at = bound_at_place u.roots place (this_of s) held found.there bound in rw (
            c.in_ok-kept.ensures,
            at.1,
            at.2,
            found.writable,
            this_content s t held found,
            same_op,
            this_is_home s t held found at.0,
          ) refl);
    }
