use Rattle.std.proofs.Common.{◌≡◌, List, [], refl, ap, true}
use Rattle.grain_value.specs.declared.stores.Cell.{Cell}
use Rattle.grain_host.specs.declared.tables.TableHost.{TableHost}
use Rattle.grain_global.specs.Engines.{with_callbacks}
use Rattle.grain_global.specs.declared.engines.Engine.{Engine}
use Rattle.grain_means.specs.Means.{Begin}
use Rattle.grain_vm.specs.Machines.{begin, finish}
use Rattle.grain_commands.proofs.Ends.{value_told, fault_told}
use Rattle.grain_commands.proofs.pipeline.run_in.Goals as goal

pub returns-in-Ok : goal.returns-in-Ok
returns-in-Ok g c =
    let under : Engine = with_callbacks true c.args.vm.engine in
    let first : Begin TableHost = begin c.args.scope [] c.args.host c.args.vm.global in
    let begun : begin c.args.scope c.new-cells.result c.args.host c.args.vm.global ≡ first =
    ap (λ (x : List Cell). begin c.args.scope x c.args.host c.args.vm.global) c.new-cells.ensures in
    let run = c.in-Ok.ensures.evaluates in
    let text = rw c.printed.ensures at c.value_end.ensures.text in
    value_told c.args.told c.args.program.now under first c.in-Ok.value under
    (begin c.args.scope c.new-cells.result c.args.host c.args.vm.global)
    (finish c.eval_with_callbacks.new.self.trace c.eval_with_callbacks.new.scope
    c.eval_with_callbacks.new.cells c.eval_with_callbacks.new.host
    c.eval_with_callbacks.new.self.global) run.0 c.value_end.result refl begun refl
    run.1.0 c.value_end.ensures.status text

pub returns : goal.returns
returns g c =
    let under : Engine = with_callbacks true c.args.vm.engine in
    let first : Begin TableHost = begin c.args.scope [] c.args.host c.args.vm.global in
    let begun : begin c.args.scope c.new-cells.result c.args.host c.args.vm.global ≡ first =
    ap (λ (x : List Cell). begin c.args.scope x c.args.host c.args.vm.global) c.new-cells.ensures in
    let run = c.in-Err.ensures.evaluates in
    let text = rw c.printed-in-Err.ensures at c.fault_end.ensures.text in
    fault_told c.args.told c.args.program.now under first c.in-Err.fault under
    (begin c.args.scope c.new-cells.result c.args.host c.args.vm.global)
    (finish c.eval_with_callbacks.new.self.trace c.eval_with_callbacks.new.scope
    c.eval_with_callbacks.new.cells c.eval_with_callbacks.new.host
    c.eval_with_callbacks.new.self.global) c.eval_with_callbacks.new.host.printed
    c.eval_with_callbacks.new.self.trace run.0 c.fault_end.result refl begun
    (λ a. (refl, refl, refl))
    run.1.0 c.fault_end.ensures.status text c.fault_end.ensures.memory
