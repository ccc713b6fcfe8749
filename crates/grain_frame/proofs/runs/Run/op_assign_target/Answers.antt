-- What the built-in gave, in the target, or what the host does in its place.
use Rattle.std.proofs.Common.{◌≡◌, ◌∙◌, ◌∷◌, [], Ok, length, refl, ap, subst, arith}
use Rattle.grain_value.specs.Operands.{read_write}
use Rattle.grain_program.specs.View.{position_of}
use Rattle.grain_stack.specs.Views.{StacksView}
use Rattle.grain_means.specs.Rules.{native_assigned_at, op_assigned}
use Rattle.grain_means.specs.Means.{setup}
use Rattle.grain_means.specs.Simulation.{stopped, world}
use Rattle.grain_frame.specs.Abstraction.{abstraction, frame_in, moment}
use Rattle.grain_frame.specs.Waiting.{ImplementsOrWaits}
use Rattle.grain_frame.specs.Operated.{RaisesOutcome}
use Rattle.grain_frame.specs.Targets.{assigned_name, content_at, home_of, kept_operand}
use Rattle.grain_frame.specs.declared.runs.Run.{Run}
use Rattle.grain_frame.specs.declared.runs.Progress.TheVariants as progress
use Rattle.grain_frame.specs.lemmas.Failing.{outcome_raises, store_raises, store_stops}
use Rattle.grain_frame.specs.lemmas.Performing.{led, led_exactly, waits_as}
use Rattle.grain_frame.proofs.Lending.{gave_is, none_is, writes_first}
use Rattle.grain_frame.proofs.Targeting.{held_there, put_keeps}
use Rattle.grain_frame.proofs.runs.Run.op_assign_target.Goals as goal

pub pop-value-requires : goal.pop-value-requires
pop-value-requires g c =
    let s = c.args.self.now in
    let t = c.args.assignment.target in
    let holds = held_there s t c.requires.can.target in
    let said = rw c.in-Done.is at (c.assign_target.ensures.assigned holds.0 holds.1) in
    let same : c.assign_target.new.self.stacks ≡ s.stacks =
    ap (λ (q : Run g.row.H.Denot). q.stacks) said.2
    ∙ put_keeps s t (record holds.0 { value = said.0 }) in
    omega (arith, c.requires.can.operand, ap (λ (q : StacksView). length q.operands) same)

pub native_assigned-requires : goal.native_assigned-requires
native_assigned-requires g c =
    let s = c.args.self.now in
    let t = c.args.assignment.target in
    let holds = held_there s t c.requires.can.target in
    let said = rw c.in-NotBuiltIn.is at (c.assign_target.ensures.assigned holds.0 holds.1) in
    rw said.1 (record {
      can = c.requires.can;
      writable = c.requires.writable;
    })

pub returns-in-Done : goal.returns-in-Done
returns-in-Done g c =
    let p = c.args.context.program.now in
    let engine = c.args.context.engine.now in
    let s = c.args.self.now in
    let f = c.args.frame.now in
    let t = c.args.assignment.target in
    let a = c.args.assignment.operator in
    let v = kept_operand c.args.assignment.kept s.stacks.operands in
    let said = rw c.in-Done.is at
    (c.assign_target.ensures.assigned (read_write (content_at s t)) c.requires.writable) in
    rw (c.mark-in-Done.ensures, c.mark.ensures) (record {
      implements = λ h plain.
          led (Ok progress.Continues) (writes_first g.H.Host.law p engine f s c.args.steps.now
          c.args.host.now t
          c.args.assignment.next c.requires.can.target c.requires.can.inside
          c.requires.can.operand c.requires.can.ahead (read_write said.0)
          (λ n. assigned_name n.program c.args.assignment.variable)
          c.assign_target.new.self c.pop-value.new.self refl said.2 c.pop-value.ensures.rest
          (λ stop u place bound. gave_is (stopped (setup g.H.Host.law p engine) stop)
          (home_of t place) (assigned_name p c.args.assignment.variable)
          (op_assigned engine a (content_at s t) v.value) a h (content_at s t) v
          c.args.assignment.next (frame_in f s place)
          (world (abstraction s c.args.steps.now c.args.host.now) u) said.0 said.1 plain));
    })

pub returns-in-Failed : goal.returns-in-Failed
returns-in-Failed g c =
    let p = c.args.context.program.now in
    let engine = c.args.context.engine.now in
    let s = c.args.self.now in
    let f = c.args.frame.now in
    let t = c.args.assignment.target in
    let a = c.args.assignment.operator in
    let u = content_at s t in
    let v = kept_operand c.args.assignment.kept s.stacks.operands in
    let o = op_assigned engine a u v.value in
    let name = assigned_name p c.args.assignment.variable in
    let said = rw c.in-Failed.is at
    (c.assign_target.ensures.assigned (read_write (content_at s t)) c.requires.writable) in
    let raised : RaisesOutcome s c.args.steps.now o (position_of p f.address)
    c.operator_failed.result c.operator_failed.new.self c.operator_failed.new.steps =
    rw said.1 at (c.operator_failed.ensures o said.0) in
    record {
      implements = λ h plain.
          led_exactly c.operator_failed.result c.of.result c.of.ensures
          (outcome_raises g.H.Host.law p engine f s c.operator_failed.new.self
          c.args.steps.now c.operator_failed.new.steps c.args.host.now o
          c.operator_failed.result raised c.requires.can.inside
          (λ stop w place is. store_raises (stopped (setup g.H.Host.law p engine) stop)
          (home_of t place) name o a h u v c.args.assignment.next (frame_in f s place)
          (world (abstraction s c.args.steps.now c.args.host.now) w) is)
          (λ stop w place halts. store_stops (stopped (setup g.H.Host.law p engine) stop)
          (home_of t place) name o a h u v c.args.assignment.next (frame_in f s place)
          (world (abstraction s c.args.steps.now c.args.host.now) w) halts));
    }

pub returns-in-NotBuiltIn : goal.returns-in-NotBuiltIn
returns-in-NotBuiltIn g c =
    let p = c.args.context.program.now in
    let engine = c.args.context.engine.now in
    let s = c.args.self.now in
    let f = c.args.frame.now in
    let t = c.args.assignment.target in
    let a = c.args.assignment.operator in
    let v = kept_operand c.args.assignment.kept s.stacks.operands in
    let said = rw c.in-NotBuiltIn.is at
    (c.assign_target.ensures.assigned (read_write (content_at s t)) c.requires.writable) in
    record {
      implements = λ h plain.
          let did = subst (λ (q : Run g.row.H.Denot). ImplementsOrWaits
          (setup g.H.Host.law p engine)
          (moment f q c.args.steps.now c.args.host.now) (λ m place w. native_assigned_at m
          (home_of t place) (assigned_name m.program c.args.assignment.variable) a h
          (content_at q t) (kept_operand c.args.assignment.kept q.stacks.operands)
          c.args.assignment.next (frame_in f q place) w)
          (c.args.assignment.next ∷ []) 1 0 q.stacks.handlers
          c.native_assigned.result (moment c.native_assigned.new.frame c.native_assigned.new.self
          c.native_assigned.new.steps c.native_assigned.new.host)) said.1
          (c.native_assigned.ensures.implements h plain) in
          waits_as did
          (λ stop u place bound. none_is (stopped (setup g.H.Host.law p engine) stop)
          (home_of t place) (assigned_name p c.args.assignment.variable)
          (op_assigned engine a (content_at s t) v.value) a h (content_at s t) v
          c.args.assignment.next (frame_in f s place)
          (world (abstraction s c.args.steps.now c.args.host.now) u) said.0);
    }
