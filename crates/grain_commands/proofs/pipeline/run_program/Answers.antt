use Rattle.std.proofs.Common.{◌≡◌, ◌∙◌, [], ap, true}
use Rattle.grain_host.specs.declared.tables.TableHost.{TableHost}
use Rattle.grain_global.specs.Engines.{with_callbacks}
use Rattle.grain_global.specs.declared.engines.Engine.{Engine}
use Rattle.grain_means.specs.Means.{Begin}
use Rattle.grain_vm.specs.Machines.{begin}
use Rattle.grain_vm.specs.VmView.{VmView}
use Rattle.grain_commands.specs.Runs.{engine_of, start}
use Rattle.grain_commands.proofs.Ends.{engine_is, reported_as}
use Rattle.grain_commands.proofs.pipeline.run_program.Goals as goal

pub returns : goal.returns
returns g c =
    let under : Engine = engine_of c.args.limits c.args.fast_operators c.args.strict_properties in
    let first : Begin TableHost = start c.args.scope c.args.host in
    let engine : with_callbacks true c.in_ok-vm.vm.engine ≡ under =
    ap (λ (m : VmView). with_callbacks true m.engine) c.in_ok-vm.ensures ∙
    engine_is c.new-engine.result c.args.limits c.args.fast_operators c.args.strict_properties
    c.new-engine.ensures.limits in
    let begun : begin c.args.scope [] c.args.host c.in_ok-vm.vm.global ≡ first =
    ap (λ (m : VmView). begin c.args.scope [] c.args.host m.global) c.in_ok-vm.ensures in
    reported_as c.args.told c.args.program.now (with_callbacks true c.in_ok-vm.vm.engine) under
    (begin c.args.scope [] c.args.host c.in_ok-vm.vm.global) first c.run_in.result engine begun
    c.run_in.ensures
