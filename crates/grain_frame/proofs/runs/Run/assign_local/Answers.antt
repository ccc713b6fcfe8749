-- The entry, or its cell, has the operand's value.
use Rattle.std.proofs.Common.{◌≡◌, ◌∙◌, ◌+◌, true, length, refl, ap, rules}
use Rattle.grain_value.specs.Cells.{flat}
use Rattle.grain_value.specs.Looking.{cell_of}
use Rattle.grain_value.specs.Operands.{below, read_write, top}
use Rattle.grain_program.specs.View.{name_of}
use Rattle.grain_means.specs.Means.{setup}
use Rattle.grain_means.specs.Rules.{in_entry, onward, stepped}
use Rattle.grain_means.specs.Simulation.{stopped, world}
use Rattle.grain_frame.specs.Abstraction.{abstraction, frame_in, is_out}
use Rattle.grain_frame.specs.Refusals.{refusal_fault}
use Rattle.grain_frame.specs.Targets.{put_in}
use Rattle.grain_frame.specs.declared.runs.Run.{Run}
use Rattle.grain_frame.specs.declared.targets.Target.TheVariants as to
use Rattle.grain_frame.specs.lemmas.Bound.{as_bound}
use Rattle.grain_frame.specs.lemmas.Failing.{raises_here, wants_memory, written_stops}
use Rattle.grain_frame.proofs.Flattening.{value_there}
use Rattle.grain_frame.proofs.Lending.{writes}
use Rattle.grain_frame.proofs.Refusing.{assign_refused, entry_is_home, entry_lends, found_plain}
use Rattle.grain_frame.proofs.Targeting.{lends_beside}
use Rattle.grain_frame.proofs.runs.Run.assign_local.Goals as goal

pub returns : goal.returns
returns g c =
    let p = c.args.context.program.now in
    let engine = c.args.context.engine.now in
    let s = c.args.self.now in
    let f = c.args.frame.now in
    let i = f.base + c.args.slot in
    let t = c.in-Ok.target in
    let held = c.in-Ok.ensures.0 in
    let found = c.in-Ok.ensures.1 in
    let plain = found_plain s (to.Entry i) t held found in
    let v = c.in_ok-value.value in
    let written : c.write.new.self ≡ put_in c.take_flat.new.self t (read_write v) =
    search rules in
    rw (c.mark-2.ensures, c.mark.ensures) (record {
      performs = λ host.
          writes g.H.Host.law p engine f s c.args.steps.now host t c.args.next
          (entry_lends s i t held found) c.requires.ready.inside
          c.requires.ready.operands c.requires.ready.ahead
          (read_write v) (λ m. name_of m.program c.args.name)
          (record s.stacks { operands = below s.stacks.operands }) c.write.new.self refl refl
          (written ∙ ap (λ (r : Run g.row.H.Denot). put_in r t (read_write v))
          c.in_ok-value.ensures.rest)
          (λ stop u place bound. rw (
            found.there,
            c.in_ok-value.ensures.value,
            found.writable,
            plain,
            entry_is_home s i t held found place,
          ) refl);
    })

pub returns-in_err-value : goal.returns-in_err-value
returns-in_err-value g c =
    let p = c.args.context.program.now in
    let engine = c.args.context.engine.now in
    let s = c.args.self.now in
    let f = c.args.frame.now in
    let held = c.in-Ok.ensures.0 in
    let found = c.in-Ok.ensures.1 in
    let read = value_there (flat s.cells (top s.stacks.operands).value) found.readable in
    let out : is_out c.from_residual.result ≡ true = search rules in
    let same : c.take_flat.new.self ≡ s = search rules in
    rw same (record {
      performs = λ host. as_bound (wants_memory g.H.Host.law p engine f s c.args.steps.now host
          c.from_residual.result out c.requires.ready.inside
          (λ stop u place halts. rw (found.there, read.1, found.writable) (written_stops
          (stopped (setup g.H.Host.law p engine) stop)
          (in_entry (f.base + c.args.slot) (cell_of held.value))
          (record held { value = read.0 }) (name_of p c.args.name) (frame_in f s place)
          (world (abstraction s c.args.steps.now host) u)
          (onward (stopped (setup g.H.Host.law p engine) stop) (frame_in f s place)
          (stepped (frame_in f s place) c.args.next (below s.stacks.operands))) halts)));
    })

pub returns-in-Err : goal.returns-in-Err
returns-in-Err g c =
    let p = c.args.context.program.now in
    let engine = c.args.context.engine.now in
    let s = c.args.self.now in
    let f = c.args.frame.now in
    record {
      performs = λ host. as_bound (raises_here g.H.Host.law p engine f s c.refuse.new.self
          c.args.steps.now c.refuse.new.steps host
          (refusal_fault p (length s.scope) f.address (name_of p c.args.name) c.in-Err.refusal)
          c.refuse.result c.refuse.ensures c.requires.ready.inside
          (λ stop u place. assign_refused (stopped (setup g.H.Host.law p engine) stop) f s
          c.args.steps.now host u place c.args.slot c.args.name c.args.next c.in-Err.refusal
          c.in-Err.ensures));
    }

pub take_flat-requires-clause-readable : goal.take_flat-requires-clause-readable
take_flat-requires-clause-readable g c = c.in-Ok.ensures.1.readable

pub write-requires : goal.write-requires
write-requires g c =
    let s = c.args.self.now in
    let t = c.in-Ok.target in
    rw c.in_ok-value.ensures.rest (lends_beside s
    (record s.stacks { operands = below s.stacks.operands }) t
    (entry_lends s (c.args.frame.now.base + c.args.slot) t c.in-Ok.ensures.0 c.in-Ok.ensures.1))
