use Rattle.std.proofs.Common.{◌≡◌, ◌∙◌, ◌+◌, None, refl, ap, subst}
use Rattle.grain_stack.specs.Views.{StacksView}
use Rattle.grain_means.specs.Worlds.{Setup}
use Rattle.grain_means.specs.Rules.{called}
use Rattle.grain_means.specs.Simulation.{LocalState, Simulates}
use Rattle.grain_means.specs.Means.{Begin, setup, first_world}
use Rattle.grain_global.specs.Engines.{with_callbacks}
use Rattle.grain_global.specs.StepsView.{StepsView, instructions}
use Rattle.grain_frame.specs.Abstraction.{abstraction, is_out}
use Rattle.grain_vm.specs.Calls.{finished_with}
use Rattle.grain_vm.specs.Machines.{begin, with_memory_fault}
use Rattle.grain_vm.proofs.Evaluated.{ending, evaluated, same_level, keeps_to_store, leaves, has_cause}
use Rattle.grain_vm.proofs.Headline.{ends_as_core}
use Rattle.grain_vm.proofs.Mains.{first_state, without_this}
use Rattle.grain_vm.proofs.machines.Machine.run_main.Goals as goal

pub returns-clause-evaluates : goal.returns-clause-evaluates
returns-clause-evaluates g c =
    let engine = with_callbacks c.args.callbacks c.self.inside.engine.now in
    let after = c.run_main-back.new.run in
    let steps = c.run_main-back.new.steps in
    let back = c.run_main-back.result in
    let b : Begin g.row.H.Denot =
    begin c.args.scope.now c.args.cells.now c.args.host.now c.args.global.now in
    let trace = ap (λ (v : StacksView). v.trace) (c.replace.ensures.value ∙ c.cut_trace.ensures) in
    let first = first_state c.replace.result.trace c.args.scope.now c.replace-2.result
    c.args.cells.now c.replace-3.result c.new-5.result c.args.host.now c.args.global.now.num_operations
    c.args.global.now.level (instructions c.args.steps.now) c.start.new.self trace
    c.replace-2.ensures.value c.replace-3.ensures.value c.start.ensures c.new-5.ensures in
    let goes = without_this refl
    (subst (λ (q : LocalState g.row.H.Denot).
    Simulates (setup g.H.Host.law c.args.program.now engine) q (λ m place w. called m place w)
    (is_out back) (abstraction after steps c.run_main-back.new.host) (finished_with back)) first
    (rw c.with_callbacks-engine.ensures at c.run_main-back.ensures.goes)) in
    let counted : steps.before + steps.begun ≡ c.args.steps.now.before + c.args.steps.now.begun +
    steps.begun =
    ap (λ n. n + steps.begun)
    (c.run_main-back.ensures.before ∙ ap (λ (k : StepsView). k.before) c.start.ensures) in (
      steps.begun,
      (
        rw (← c.self.view_is, c.with_memory_fault.ensures)
            (evaluated c.counted.ensures g.H.Host.law c.args.program.now engine b after.stacks.trace
            after.scope after.cells c.run_main-back.new.host after.count after.level steps.begun
            steps.passed back goes),
        counted,
      ),
    )

pub returns-clause-core : goal.returns-clause-core
returns-clause-core g c =
    let engine = with_callbacks c.args.callbacks c.self.inside.engine.now in
    let after = c.run_main-back.new.run in
    let steps = c.run_main-back.new.steps in
    let back = c.run_main-back.result in
    let b : Begin g.row.H.Denot =
    begin c.args.scope.now c.args.cells.now c.args.host.now c.args.global.now in
    let trace = ap (λ (v : StacksView). v.trace) (c.replace.ensures.value ∙ c.cut_trace.ensures) in
    let first = first_state c.replace.result.trace c.args.scope.now c.replace-2.result
    c.args.cells.now c.replace-3.result c.new-5.result c.args.host.now c.args.global.now.num_operations
    c.args.global.now.level (instructions c.args.steps.now) c.start.new.self trace
    c.replace-2.ensures.value c.replace-3.ensures.value c.start.ensures c.new-5.ensures in
    let goes = without_this refl
    (subst (λ (q : LocalState g.row.H.Denot).
    Simulates (setup g.H.Host.law c.args.program.now engine) q (λ m place w. called m place w)
    (is_out back) (abstraction after steps c.run_main-back.new.host) (finished_with back)) first
    (rw c.with_callbacks-engine.ensures at c.run_main-back.ensures.goes)) in
    λ called core. rw (← c.self.view_is, c.with_memory_fault.ensures)
    (ends_as_core c.one_meaning.ensures c.core_agrees.ensures.means c.core_agrees.ensures.core
    g.H.Host.law c.args.program.now c.self.inside.engine.now b (with_memory_fault back)
    (ending c.counted.ensures g.H.Host.law c.args.program.now engine b after.stacks.trace after.scope
    after.cells c.run_main-back.new.host after.count after.level steps.begun steps.passed)
    steps.begun c.args.callbacks called c.run_main-back.ensures.valid core
    (evaluated c.counted.ensures g.H.Host.law c.args.program.now engine b after.stacks.trace
    after.scope after.cells c.run_main-back.new.host after.count after.level steps.begun
    steps.passed back goes))

pub returns-clause-causes : goal.returns-clause-causes
returns-clause-causes g c =
    let engine = with_callbacks c.args.callbacks c.self.inside.engine.now in
    let after = c.run_main-back.new.run in
    let steps = c.run_main-back.new.steps in
    let back = c.run_main-back.result in
    let b : Begin g.row.H.Denot =
    begin c.args.scope.now c.args.cells.now c.args.host.now c.args.global.now in
    let trace = ap (λ (v : StacksView). v.trace) (c.replace.ensures.value ∙ c.cut_trace.ensures) in
    let first = first_state c.replace.result.trace c.args.scope.now c.replace-2.result
    c.args.cells.now c.replace-3.result c.new-5.result c.args.host.now c.args.global.now.num_operations
    c.args.global.now.level (instructions c.args.steps.now) c.start.new.self trace
    c.replace-2.ensures.value c.replace-3.ensures.value c.start.ensures c.new-5.ensures in
    let goes = without_this refl
    (subst (λ (q : LocalState g.row.H.Denot).
    Simulates (setup g.H.Host.law c.args.program.now engine) q (λ m place w. called m place w)
    (is_out back) (abstraction after steps c.run_main-back.new.host) (finished_with back)) first
    (rw c.with_callbacks-engine.ensures at c.run_main-back.ensures.goes)) in
    rw (← c.self.view_is, c.with_memory_fault.ensures)
    (has_cause c.counted.ensures g.H.Host.law c.args.program.now engine b after.stacks.trace
    after.scope after.cells c.run_main-back.new.host after.count after.level steps.begun
    steps.passed back goes)

pub returns-clause-leaves : goal.returns-clause-leaves
returns-clause-leaves g c =
    let engine = with_callbacks c.args.callbacks c.self.inside.engine.now in
    let after = c.run_main-back.new.run in
    let steps = c.run_main-back.new.steps in
    let back = c.run_main-back.result in
    let b : Begin g.row.H.Denot =
    begin c.args.scope.now c.args.cells.now c.args.host.now c.args.global.now in
    let trace = ap (λ (v : StacksView). v.trace) (c.replace.ensures.value ∙ c.cut_trace.ensures) in
    let first = first_state c.replace.result.trace c.args.scope.now c.replace-2.result
    c.args.cells.now c.replace-3.result c.new-5.result c.args.host.now c.args.global.now.num_operations
    c.args.global.now.level (instructions c.args.steps.now) c.start.new.self trace
    c.replace-2.ensures.value c.replace-3.ensures.value c.start.ensures c.new-5.ensures in
    let goes = without_this refl
    (subst (λ (q : LocalState g.row.H.Denot).
    Simulates (setup g.H.Host.law c.args.program.now engine) q (λ m place w. called m place w)
    (is_out back) (abstraction after steps c.run_main-back.new.host) (finished_with back)) first
    (rw c.with_callbacks-engine.ensures at c.run_main-back.ensures.goes)) in
    rw (← c.self.view_is, c.with_memory_fault.ensures)
    (leaves c.counted.ensures g.H.Host.law c.args.program.now engine b after.stacks.trace
    after.scope after.cells c.run_main-back.new.host after.count after.level steps.begun
    steps.passed back goes)

pub returns-clause-store : goal.returns-clause-store
returns-clause-store g c =
    let engine = with_callbacks c.args.callbacks c.self.inside.engine.now in
    let after = c.run_main-back.new.run in
    let steps = c.run_main-back.new.steps in
    let back = c.run_main-back.result in
    let b : Begin g.row.H.Denot =
    begin c.args.scope.now c.args.cells.now c.args.host.now c.args.global.now in
    let trace = ap (λ (v : StacksView). v.trace) (c.replace.ensures.value ∙ c.cut_trace.ensures) in
    let first = first_state c.replace.result.trace c.args.scope.now c.replace-2.result
    c.args.cells.now c.replace-3.result c.new-5.result c.args.host.now c.args.global.now.num_operations
    c.args.global.now.level (instructions c.args.steps.now) c.start.new.self trace
    c.replace-2.ensures.value c.replace-3.ensures.value c.start.ensures c.new-5.ensures in
    let goes = without_this refl
    (subst (λ (q : LocalState g.row.H.Denot).
    Simulates (setup g.H.Host.law c.args.program.now engine) q (λ m place w. called m place w)
    (is_out back) (abstraction after steps c.run_main-back.new.host) (finished_with back)) first
    (rw c.with_callbacks-engine.ensures at c.run_main-back.ensures.goes)) in
    rw c.with_memory_fault.ensures
    (keeps_to_store c.counted.ensures g.H.Host.law c.args.program.now engine b after.stacks.trace
    after.scope after.cells c.run_main-back.new.host after.count after.level steps.begun
    steps.passed c.contained.ensures g.met.H.Host.lawful c.vouch.ensures back goes)

pub returns-clause-level : goal.returns-clause-level
returns-clause-level g c =
    let engine = with_callbacks c.args.callbacks c.self.inside.engine.now in
    let after = c.run_main-back.new.run in
    let steps = c.run_main-back.new.steps in
    let back = c.run_main-back.result in
    let b : Begin g.row.H.Denot =
    begin c.args.scope.now c.args.cells.now c.args.host.now c.args.global.now in
    let trace = ap (λ (v : StacksView). v.trace) (c.replace.ensures.value ∙ c.cut_trace.ensures) in
    let first = first_state c.replace.result.trace c.args.scope.now c.replace-2.result
    c.args.cells.now c.replace-3.result c.new-5.result c.args.host.now c.args.global.now.num_operations
    c.args.global.now.level (instructions c.args.steps.now) c.start.new.self trace
    c.replace-2.ensures.value c.replace-3.ensures.value c.start.ensures c.new-5.ensures in
    let goes = without_this refl
    (subst (λ (q : LocalState g.row.H.Denot).
    Simulates (setup g.H.Host.law c.args.program.now engine) q (λ m place w. called m place w)
    (is_out back) (abstraction after steps c.run_main-back.new.host) (finished_with back)) first
    (rw c.with_callbacks-engine.ensures at c.run_main-back.ensures.goes)) in
    same_level c.counted.ensures g.H.Host.law c.args.program.now engine b after.stacks.trace
    after.scope after.cells c.run_main-back.new.host after.count after.level steps.begun
    steps.passed back goes

pub returns-clause-provided : goal.returns-clause-provided
returns-clause-provided g c =
    let b : Begin g.row.H.Denot =
    begin c.args.scope.now c.args.cells.now c.args.host.now c.args.global.now in
    let m : Setup g.row.H.Denot = setup g.H.Host.law c.args.program.now
    (with_callbacks c.args.callbacks c.self.inside.engine.now) in
    rw (← c.self.view_is)
    (λ f w comes. c.provided.ensures m None (first_world b) w f c.run_main-back.ensures.valid refl
    comes)

pub returns-clause-catches : goal.returns-clause-catches
returns-clause-catches g c =
    let b : Begin g.row.H.Denot =
    begin c.args.scope.now c.args.cells.now c.args.host.now c.args.global.now in
    let m : Setup g.row.H.Denot = setup g.H.Host.law c.args.program.now
    (with_callbacks c.args.callbacks c.self.inside.engine.now) in
    rw (← c.self.view_is)
    (λ at comes. c.catches.ensures m None (first_world b) at c.run_main-back.ensures.valid refl
    comes)
