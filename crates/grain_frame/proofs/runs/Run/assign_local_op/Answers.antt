-- The entry, or its cell, is the target of the op-assignment.
use Rattle.std.proofs.Common.{◌≡◌, ◌∙◌, ◌+◌, Err, true, refl, ap, rules}
use Rattle.std.specs.Prelude.{length}
use Rattle.grain_value.specs.Cells.{flat}
use Rattle.grain_value.specs.Looking.{cell_of}
use Rattle.grain_value.specs.Operands.{top}
use Rattle.grain_program.specs.View.{assign_op_of, name_of}
use Rattle.grain_means.specs.Rules.{in_entry, op_assigned}
use Rattle.grain_means.specs.Means.{setup}
use Rattle.grain_means.specs.Simulation.{stopped, world}
use Rattle.grain_frame.specs.Abstraction.{abstraction, frame_in, is_out}
use Rattle.grain_frame.specs.Refusals.{refusal_fault}
use Rattle.grain_frame.specs.Targets.{content_at}
use Rattle.grain_frame.specs.declared.targets.Target.TheVariants as to
use Rattle.grain_frame.specs.lemmas.Bound.{as_bound}
use Rattle.grain_frame.specs.lemmas.Failing.{raises_here, store_stops, wants_memory}
use Rattle.grain_frame.specs.lemmas.Performing.{led_exactly, led_out, waits_as}
use Rattle.grain_frame.proofs.Flattening.{value_there}
use Rattle.grain_frame.proofs.Refusing.{entry_content, entry_holds, entry_is_home, entry_lends, found_plain, op_refused}
use Rattle.grain_frame.proofs.runs.Run.assign_local_op.Goals as goal

pub returns-in_err-kept : goal.returns-in_err-kept
returns-in_err-kept g c =
    let p = c.args.context.program.now in
    let engine = c.args.context.engine.now in
    let s = c.args.self.now in
    let f = c.args.frame.now in
    let t = c.in-Ok.target in
    let held = c.in-Ok.ensures.0 in
    let found = c.in-Ok.ensures.1 in
    let holds = entry_content s (f.base + c.args.slot) t held found in
    let read = value_there (flat s.cells (top s.stacks.operands).value) found.readable in
    let a = assign_op_of p c.args.assign_op in
    let u = content_at s t in
    let out : is_out c.from_residual.result ≡ true = search rules in
    record {
      performs = led_out c.in_err-kept.field-0.0 c.from_residual.result out
          (as_bound (wants_memory g.H.Host.law p engine f s c.args.steps.now
          c.args.host.now (Err c.in_err-kept.field-0.0) refl c.requires.ready.inside
          (λ stop w place halts. rw (found.there, read.1, found.writable, holds) (store_stops
          (stopped (setup g.H.Host.law p engine) stop)
          (in_entry (f.base + c.args.slot) (cell_of held.value)) (name_of p c.args.name)
          (op_assigned engine a u read.0) a held u
          (record { value = read.0; read_only = (top s.stacks.operands).read_only })
          c.args.next (frame_in f s place)
          (world (abstraction s c.args.steps.now c.args.host.now) w) halts))));
    }

pub returns-in-Err : goal.returns-in-Err
returns-in-Err g c =
    let p = c.args.context.program.now in
    let engine = c.args.context.engine.now in
    let s = c.args.self.now in
    let f = c.args.frame.now in
    record {
      performs = led_exactly c.refuse.result c.of.result c.of.ensures
          (raises_here g.H.Host.law p engine f s c.refuse.new.self
          c.args.steps.now c.refuse.new.steps c.args.host.now
          (refusal_fault p (length s.scope) f.address (name_of p c.args.name) c.in-Err.refusal)
          c.refuse.result c.refuse.ensures c.requires.ready.inside
          (λ stop u place. op_refused (stopped (setup g.H.Host.law p engine) stop) f s
          c.args.steps.now c.args.host.now u place c.args.slot c.args.name c.args.next
          (assign_op_of p c.args.assign_op) c.in-Err.refusal c.in-Err.ensures));
    }

pub kept_operand-requires-clause-readable : goal.kept_operand-requires-clause-readable
kept_operand-requires-clause-readable g c = c.in-Ok.ensures.1.readable

pub op_assign_target-requires : goal.op_assign_target-requires
op_assign_target-requires g c =
    let s = c.args.self.now in
    let i = c.args.frame.now.base + c.args.slot in
    record {
      can = record {
        inside = c.requires.ready.inside;
        target = entry_lends s i c.in-Ok.target c.in-Ok.ensures.0 c.in-Ok.ensures.1;
        operand = c.requires.ready.operands;
        ahead = c.requires.ready.ahead;
        first = search rules;
        second = search rules;
        variable = search rules;
      };
      writable = entry_holds s i c.in-Ok.target c.in-Ok.ensures.0 c.in-Ok.ensures.1;
    }

pub returns : goal.returns
returns g c =
    let p = c.args.context.program.now in
    let s = c.args.self.now in
    let f = c.args.frame.now in
    let i = f.base + c.args.slot in
    let t = c.in-Ok.target in
    let held = c.in-Ok.ensures.0 in
    let found = c.in-Ok.ensures.1 in
    let holds = entry_content s i t held found in
    let same_op : c.assign_op.result.now ≡ assign_op_of p c.args.assign_op =
    c.assign_op.ensures ∙ ap (assign_op_of p) c.from.ensures in
    record {
      performs = waits_as (c.op_assign_target.ensures.implements held
          (found_plain s (to.Entry i) t held found))
          (λ stop u place bound. rw (
            found.there,
            c.in_ok-kept.ensures,
            found.writable,
            holds,
            same_op,
            entry_is_home s i t held found place,
          ) refl);
    }
