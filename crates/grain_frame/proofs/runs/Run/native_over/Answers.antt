-- What follows from how the native ended.
use Rattle.std.proofs.Common.{◌≡◌, Ok, false, refl}
use Rattle.grain_fault.specs.Problems.{problem_of}
use Rattle.grain_means.specs.Rules.{no_memory}
use Rattle.grain_frame.specs.Abstraction.{Raises}
use Rattle.grain_frame.specs.declared.waiting.Rest.TheVariants as rest
use Rattle.grain_frame.specs.lemmas.Bound.{as_bound}
use Rattle.grain_frame.specs.lemmas.Failing.{raises_here}
use Rattle.grain_frame.specs.lemmas.Performing.{led, led_exactly, led_so, less_led, waits_as}
use Rattle.grain_frame.proofs.runs.Run.native_over.Goals as goal

pub returns-in-Ok : goal.returns-in-Ok
returns-in-Ok g c = rw c.in-Ok.is (record {
  implements = λ takes gives targets h leads plain.
      led_so c.value_came.result c.of.result c.of.ensures
      (c.value_came.ensures.implements takes gives targets c.args.host.now leads);
  less = less_led c.args.rest c.value_came.result c.of.result _ c.of.ensures;
})

pub returns-in-Assign : goal.returns-in-Assign
returns-in-Assign g c =
    let not_out : no_memory (problem_of c.in-Err.fault) ≡ false =
    rw c.in-Err.is at c.requires.not_out in
    rw (c.in-Err.is, c.in-Assign.is) (record {
      implements = λ takes gives targets h leads plain. rw (leads.1, leads.2, leads.3)
          (waits_as (c.op_assign_failed.ensures.implements h plain)
          (λ stop u place bound. rw not_out refl));
      less = c.op_assign_failed.ensures.less;
    })

pub returns-in-Push : goal.returns-in-Push
returns-in-Push g c =
    let p = c.args.context.program.now in
    let engine = c.args.context.engine.now in
    let s = c.args.self.now in
    let f = c.args.frame.now in
    let x = problem_of c.in-Err.fault in
    let not_out : no_memory x ≡ false = rw c.in-Err.is at c.requires.not_out in
    let raises : Raises s c.args.steps.now x (Ok c.raise.result) c.raise.new.self
    c.raise.new.steps = (
      c.raise.ensures.progress,
      rw c.raise.ensures.after refl,
      rw c.raise.ensures.after refl,
      c.raise.ensures.marked,
    ) in
    rw (c.in-Err.is, c.in-Push.is) (record {
      implements = λ takes gives targets h leads plain. led (Ok c.raise.result)
          (as_bound (raises_here g.H.Host.law p engine f s c.raise.new.self c.args.steps.now
          c.raise.new.steps c.args.host.now x (Ok c.raise.result) raises
          leads.0 (λ stop u place. rw not_out refl)));
      less = tt;
    })

pub returns-in-Operate : goal.returns-in-Operate
returns-in-Operate g c =
    let p = c.args.context.program.now in
    let engine = c.args.context.engine.now in
    let s = c.args.self.now in
    let f = c.args.frame.now in
    let x = problem_of c.in-Err.fault in
    let not_out : no_memory x ≡ false = rw c.in-Err.is at c.requires.not_out in
    let raises : Raises s c.args.steps.now x (Ok c.raise-in-Operate.result) c.raise-in-Operate.new.self
    c.raise-in-Operate.new.steps = (
      c.raise-in-Operate.ensures.progress,
      rw c.raise-in-Operate.ensures.after refl,
      rw c.raise-in-Operate.ensures.after refl,
      c.raise-in-Operate.ensures.marked,
    ) in
    rw (c.in-Err.is, c.in-Operate.is) (record {
      implements = λ takes gives targets h leads plain. led (Ok c.raise-in-Operate.result)
          (as_bound (raises_here g.H.Host.law p engine f s c.raise-in-Operate.new.self c.args.steps.now
          c.raise-in-Operate.new.steps c.args.host.now x (Ok c.raise-in-Operate.result) raises
          leads.0.inside (λ stop u place. rw not_out refl)));
      less = tt;
    })

pub returns : goal.returns
returns g c =
    let not_out : no_memory (problem_of c.in-Err.fault) ≡ false =
    rw c.in-Err.is at c.requires.not_out in
    rw (c.in-Err.is, c.in-Show.is) (record {
      implements = λ takes gives targets h leads plain. rw (leads.1, leads.2, leads.3)
          (waits_as (led_exactly c.showing_failed.result c.of-in-Show.result c.of-in-Show.ensures
          (c.showing_failed.ensures.implements c.args.host.now))
          (λ stop u place bound. rw not_out refl));
      less = less_led (rest.Show c.in-Show.type_name c.in-Show.next) c.showing_failed.result c.of-in-Show.result _ c.of-in-Show.ensures;
    })
