use Rattle.std.proofs.Common.{rules, ◌≡◌, ◌∙◌, Some, None, true, false, is_none, FitsSigned, w64}
use Rattle.std.proofs.lemmas.Int.{to_z-of_z}
use Rattle.grain_fault.specs.Problems.{Plain, Arithmetic}
use Rattle.grain_program.specs.View.{position_of}
use Rattle.grain_stack.specs.Cursors.{items_left}
use Rattle.grain_stack.specs.Entries.{first_of}
use Rattle.grain_means.specs.Rules.{counter_text}
use Rattle.grain_means.specs.Means.{setup}
use Rattle.grain_means.specs.Simulation.{stopped, world}
use Rattle.grain_frame.specs.Abstraction.{abstraction}
use Rattle.grain_frame.specs.lemmas.Looping.{raises_in_loop}
use Rattle.grain_frame.proofs.Advancing.{count_overflows, first_is, item_counts, none_there, over_leaves, same_items}
use Rattle.grain_frame.proofs.Counting.{comes_without, nothing_left, there_is}
use Rattle.grain_frame.proofs.Storing.{loop_as}
use Rattle.grain_frame.proofs.runs.Run.iter_next.Goals as goal

pub unreachable-requires : goal.unreachable-requires
unreachable-requires g c =
    let none : None ≡ first_of c.args.self.now.stacks.cursors = search rules in
    none_there c.args.self.now.stacks.cursors c.requires.there none

pub returns-then-is_over : goal.returns-then-is_over
returns-then-is_over g c =
    let p = c.args.context.program.now in
    let engine = c.args.context.engine.now in
    let s = c.args.self.now in
    let f = c.args.frame.now in
    let cursor = c.in-Some.cursor.now in
    let some : Some cursor ≡ first_of s.stacks.cursors = search rules in
    let first = first_is s.stacks.cursors cursor some in
    let over : is_none (first_of (items_left cursor.left)) ≡ true = search rules in
    record {
      implements = loop_as (λ stop u place. over_leaves
          (stopped (setup g.H.Host.law p engine) stop) f s cursor first.0 first.1 c.args.target
          c.args.next c.args.slot place (world (abstraction s c.args.steps.now c.args.host.now) u)
          (nothing_left (items_left cursor.left) over))
          (comes_without g.H.Host.law p engine f s c.args.steps.now c.args.host.now c.args.target
          c.args.next c.requires.there) c.leave_loop.ensures.implements;
    }

pub returns-in-Some-next_count : goal.returns-in-Some-next_count
returns-in-Some-next_count g c =
    let p = c.args.context.program.now in
    let engine = c.args.context.engine.now in
    let s = c.args.self.now in
    let f = c.args.frame.now in
    let cursor = c.in-Some.cursor.now in
    let some : Some cursor ≡ first_of s.stacks.cursors = search rules in
    let first = first_is s.stacks.cursors cursor some in
    let more : is_none (first_of (items_left cursor.left)) ≡ false = search rules in
    let left = there_is (items_left cursor.left) more in
    let fits : FitsSigned w64 cursor.counter = search rules in
    let count_fits : FitsSigned w64 c.in-Some-next_count.count = search rules in
    let counted = rw (to_z-of_z w64 cursor.counter fits) at c.in-Some-next_count.ensures in
    record {
      implements = loop_as (λ stop u place. item_counts
          (stopped (setup g.H.Host.law p engine) stop) f s cursor first.0 first.1 c.args.target
          c.args.next c.args.slot place (world (abstraction s c.args.steps.now c.args.host.now) u)
          left.0 left.1 c.in-Some-next_count.count left.2 counted.0 counted.1) (λ x i. i)
          (rw (to_z-of_z w64 c.in-Some-next_count.count count_fits) at
          (c.next_counted.ensures.implements c.args.target left.0 left.1
          (same_items s.stacks.cursors cursor first.0 first.1 ∙ left.2) c.args.host.now));
    }

pub returns-in-None : goal.returns-in-None
returns-in-None g c =
    let p = c.args.context.program.now in
    let engine = c.args.context.engine.now in
    let s = c.args.self.now in
    let f = c.args.frame.now in
    let cursor = c.in-Some.cursor.now in
    let some : Some cursor ≡ first_of s.stacks.cursors = search rules in
    let first = first_is s.stacks.cursors cursor some in
    let more : is_none (first_of (items_left cursor.left)) ≡ false = search rules in
    let left = there_is (items_left cursor.left) more in
    let fits : FitsSigned w64 cursor.counter = search rules in
    record {
      implements = raises_in_loop g.H.Host.law p engine f s c.counter_overflow.new.self
          c.args.steps.now c.counter_overflow.new.steps c.args.host.now
          (Plain (Arithmetic (counter_text cursor.counter)) (position_of p f.address))
          c.counter_overflow.result
          (rw (to_z-of_z w64 cursor.counter fits) at c.counter_overflow.ensures)
          c.requires.ready.inside
          (λ stop u place. count_overflows (stopped (setup g.H.Host.law p engine) stop) f s cursor
          first.0 first.1 c.args.target c.args.next c.args.slot place
          (world (abstraction s c.args.steps.now c.args.host.now) u) left.0 left.1 left.2
          (rw (to_z-of_z w64 cursor.counter fits) at c.in-None.ensures));
    }
