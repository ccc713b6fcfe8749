use Rattle.std.proofs.Common.{rules, ◌≡◌, ◌∙◌, true, false, FitsSigned, w64, ap}
use Rattle.std.proofs.lemmas.Int.{to_z-of_z}
use Rattle.grain_program.specs.declared.code.instruction_set.Op.TheVariants as op
use Rattle.grain_stack.specs.Views.{StacksView}
use Rattle.grain_means.specs.Rules.{item_given}
use Rattle.grain_frame.specs.Abstraction.{frame_in, is_out}
use Rattle.grain_frame.specs.Looping.{arrivals_of, first_items}
use Rattle.grain_frame.proofs.Advancing.{stacks_kept, stored_failed, stored_not, stored_then}
use Rattle.grain_frame.proofs.runs.Run.next_counted.Goals as goal

pub returns-in_err-store_count : goal.returns-in_err-store_count
returns-in_err-store_count g c =
    let out : is_out c.from_residual.result ≡ true = search rules in
    let fits : FitsSigned w64 c.args.count = search rules in
    let does = rw (to_z-of_z w64 c.args.count fits) at (c.in_err-store_count.ensures.same) in
    record {
      implements = λ target t ts first host. stored_not g.H.Host.law c.args.context.program.now
          c.args.context.engine.now c.args.frame.now c.args.self.now c.store_count.new.self
          c.args.steps.now c.store_count.new.steps c.args.slot c.args.count
          c.store_count.ensures.run c.store_count.ensures.before c.requires.begins.inside host
          (λ m place w. item_given m t ts c.args.count c.args.next
          (frame_in c.args.frame.now c.args.self.now place) w)
          (arrivals_of c.args.context.program.now (op.IterNext target) c.args.next
          c.args.self.now)
          c.in_err-store_count.field-0.0 c.from_residual.result out
          does;
    }

pub returns-then-not-branch : goal.returns-then-not-branch
returns-then-not-branch g c =
    let no : c.in_ok-store_count.field-0 ≡ false = search rules in
    let fits : FitsSigned w64 c.args.count = search rules in
    let does = rw (to_z-of_z w64 c.args.count fits) at (c.in_ok-store_count.ensures.same) in
    record {
      implements = λ target t ts first host. stored_failed g.H.Host.law
          c.args.context.program.now c.args.context.engine.now c.args.frame.now c.args.self.now
          c.store_count.new.self c.args.steps.now c.store_count.new.steps c.args.slot c.args.count
          c.store_count.ensures.run c.store_count.ensures.before c.requires.begins.inside host
          (λ m place w. item_given m t ts c.args.count c.args.next
          (frame_in c.args.frame.now c.args.self.now place) w)
          (arrivals_of c.args.context.program.now (op.IterNext target) c.args.next
          c.args.self.now)
          c.in_ok-store_count.field-0 no does;
    }

pub returns : goal.returns
returns g c =
    let taken : c.in_ok-store_count.field-0 ≡ true = search rules in
    let fits : FitsSigned w64 c.args.count = search rules in
    let does = rw (to_z-of_z w64 c.args.count fits) at (c.in_ok-store_count.ensures.same) in
    record {
      implements = λ target t ts first host. stored_then g.H.Host.law c.args.context.program.now
          c.args.context.engine.now c.args.frame.now c.args.self.now c.store_count.new.self
          c.args.steps.now c.store_count.new.steps c.args.slot c.args.count
          c.store_count.ensures.run c.store_count.ensures.before c.requires.begins.inside host
          target c.args.next t ts c.in_ok-store_count.field-0 taken
          does c.give_item.new.frame c.give_item.new.self
          c.give_item.new.steps c.give_item.result
          (rw (to_z-of_z w64 c.args.count fits) at (c.give_item.ensures.implements target t ts
          (ap (λ (v : StacksView). first_items v.cursors) (stacks_kept c.args.self.now
          c.store_count.new.self c.store_count.ensures.run) ∙ first) host));
    }
