use Rattle.std.proofs.Common.{◌≡◌, ◌∙◌, ℕ, Bool, true, List, [], Result, ap}
use Rattle.grain_value.specs.declared.values.Dynamic.{Dynamic}
use Rattle.grain_value.specs.declared.values.Limits.{Limits}
use Rattle.grain_value.specs.declared.scopes.Entry.{Entry}
use Rattle.grain_value.specs.declared.stores.Cell.{Cell}
use Rattle.grain_fault.specs.declared.faults.EvalAltResult.{EvalAltResult}
use Rattle.grain_fault.specs.declared.traces.Fault.{Fault}
use Rattle.grain_host.specs.Law.{Law}
use Rattle.grain_program.specs.View.{View}
use Rattle.grain_global.specs.Engines.{with_callbacks}
use Rattle.grain_global.specs.declared.engines.Engine.{Engine}
use Rattle.grain_vm.specs.Machines.{begin, finish}
use Rattle.grain_vm.specs.VmView.{VmView}
use Rattle.grain_means.specs.Means.{Begin, Evaluates}
use Rattle.run_examples.specs.Rules.{engine_of, start, Ran}
use Rattle.run_examples.proofs.rules.run.Goals as goal

-- an engine whose flags are written, where natives may call functions back
engine_is : (e : Engine) (l : Limits) (fast strict : Bool) → e.limits ≡ l →
    with_callbacks true (record e { fast_operators = fast; strict_properties = strict })
    ≡ engine_of l fast strict
engine_is e l fast strict limits = ap (λ (x : Limits). engine_of x fast strict) limits

begin_is : {S : Type 0} (scope : List Entry) (cells : List Cell) (host : S) (m : VmView)
    (e : Engine) → cells ≡ [] →
    m ≡ record { engine = e; global = record { num_operations = 0; level = 0 }; trace = [] } →
    begin scope cells host m.global ≡ start scope host
begin_is scope cells host m e none fresh =
    ap (λ (x : List Cell). begin scope x host m.global) none ∙
    ap (λ (x : VmView). begin scope [] host x.global) fresh

-- what a new machine did on a scope
ran : {S : Type 0} (law : Law S) (p : View) (under : Engine) (first : Begin S) (after : List Entry)
    (r : Result Dynamic EvalAltResult) (e : Engine) (b : Begin S) (m : VmView) (cells : List Cell)
    (host : S) (trace : List Fault) (n : ℕ) → e ≡ under → b ≡ first → trace ≡ m.trace →
    Evaluates law p e b r (finish m.trace after cells host m.global) n →
    Ran law p under first after cells host r trace
ran law p under first after r e b m cells host trace n engine begun same h =
    rw same record {
      instructions = n;
      global = m.global;
      evaluates = rw (engine, begun) at h;
    }

pub returns : goal.returns
returns g c =
    let vm = c.in_ok-vm.vm in
    let call = c.eval_with_callbacks-result in
    let written : Engine = record c.new-engine.result {
      fast_operators = c.args.fast_operators;
      strict_properties = c.args.strict_properties;
    } in
    let engine = ap (λ (m : VmView). with_callbacks true m.engine) c.in_ok-vm.ensures ∙
    engine_is c.new-engine.result c.args.limits c.args.fast_operators c.args.strict_properties
    c.new-engine.ensures.limits in
    let begun =
    begin_is c.args.scope.now c.new-cells.result c.args.host.now vm written c.new-cells.ensures
    c.in_ok-vm.ensures in
    let trace : c.in_ok-trace.trace.items ≡ call.new.self.trace = c.in_ok-trace.ensures.items ∙
    c.fault_trace.ensures in
    ran g.H.Host.law c.args.program.now
    (engine_of c.args.limits c.args.fast_operators c.args.strict_properties)
    (start c.args.scope.now c.args.host.now) call.new.scope call.result
    (with_callbacks true vm.engine)
    (begin c.args.scope.now c.new-cells.result c.args.host.now vm.global) call.new.self
    call.new.cells call.new.host c.in_ok-trace.trace.items
    call.ensures.evaluates.0 engine begun trace
    call.ensures.evaluates.1.0
