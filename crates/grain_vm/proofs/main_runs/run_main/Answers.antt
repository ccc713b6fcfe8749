use Rattle.std.proofs.Common.{◌≡◌, ◌∙◌, ap, refl, ◌∷◌}
use Rattle.grain_stack.specs.Views.{StacksView, innermost}
use Rattle.grain_means.specs.Means.{setup}
use Rattle.grain_frame.specs.Abstraction.{abstraction}
use Rattle.grain_vm.specs.Calls.{entry_of}
use Rattle.grain_vm.proofs.Mains.{main_ran, main_runs, answered_stack}
use Rattle.grain_vm.proofs.main_runs.run_main.Goals as goal

pub run_frame-end-requires : goal.run_frame-end-requires
run_frame-end-requires g c =
    record {
      runs = main_runs c.args.context.program.now c.main-chunk.ensures.valid c.args.run.now
          c.main-chunk.result c.enter.new.self (entry_of c.main-chunk.result c.len-base.result)
          c.len-base.result c.main-chunk.ensures.value c.in-Ok.ensures c.len-base.ensures.value
          refl;
      none = rw c.requires.no_this tt;
    }

pub returns-in-Ok-clause-goes : goal.returns-in-Ok-clause-goes
returns-in-Ok-clause-goes g c =
    let ran = c.run_frame-end in
    let back = c.take_answer-back in
    let outer : ran.new.run.stacks.outer ≡ innermost c.args.run.now.stacks ∷
    c.args.run.now.stacks.outer = ran.ensures.around.outer ∙ ap (λ (v : StacksView). v.outer)
    c.in-Ok.ensures in
    main_ran (abstraction c.args.run.now c.args.steps.now c.args.host.now)
    {mid = abstraction (record c.args.run.now { stacks = c.enter.new.self })
    c.mark-in-Ok.new.self c.args.host.now}
    {after = abstraction (record back.new.run { stacks = c.leave.new.self }) ran.new.steps
    ran.new.host}
    (rw (c.in-Ok.ensures, c.mark-in-Ok.ensures, c.mark.ensures) refl)
    (rw (c.in-Ok.ensures, c.main-chunk.ensures.value, c.len-base.ensures.value) refl)
    (answered_stack ran.new.run back.new.run c.leave.new.self ran.new.steps ran.new.host
    (innermost c.args.run.now.stacks) c.args.run.now.stacks.outer outer back.ensures.others
    c.leave.ensures back.ensures.out back.ensures.answer ran.ensures.goes)
    (rw c.requires.no_trace
    (c.close.ensures.same
    (setup g.H.Host.law c.args.context.program.now c.args.context.engine.now) ran.new.host))
    c.close.ensures.persists
