-- One argument more is bound, and in the end all are.
use Rattle.std.proofs.Common.{rules, ◌≡◌, ◌∙◌, ◌<◌, ◌++◌, ◌∷◌, [], List, Some, ap, sym, arith, drop, get_or, length, map, refl}
use Rattle.std.specs.Prelude.{slice_get}
use Rattle.std.specs.Vec.Iter.{into_iter_items}
use Rattle.grain_value.specs.Operands.{bound_entries, read_write}
use Rattle.grain_value.specs.Scopes.{new_entry}
use Rattle.grain_value.specs.declared.values.Dynamic.{Dynamic}
use Rattle.grain_frame.specs.declared.runs.Run.{Run}
use Rattle.grain_vm.specs.Methods.{given_to}
use Rattle.grain_vm.proofs.BoundArguments.{all_bound, bound_next, none_left}
use Rattle.grain_vm.proofs.methods.bind_arguments.Goals as goal

pub arguments-preserved : goal.arguments-preserved
arguments-preserved g c =
    let names = c.args.context.program.now.names in
    let params = c.as_slice-params.result.now in
    let i = c.arguments.index in
    let v = c.in-Some.value in
    let left = into_iter_items c.next.new.self in
    let first : into_iter_items c.arguments.value-iterator ≡ v ∷ left = search rules in
    let inside : i < length params = omega (arith, c.arguments.invariant.left, ap length first) in
    let named : slice_get names (get_or params i 0) ≡ Some c.at-name.result.now =
    rw c.names-names.ensures at c.at-name.ensures in
    let written = read_write c.read_write-held.result.value in
    let pushed : c.push_moved.new.self ≡ c.arguments.run.scope
    ++ new_entry c.at-name.result.now written ∷ [] = search rules in
    record {
      scope = bound_next c.arguments.run.scope c.push_moved.new.self names params left i
          c.at-name.result.now v written inside named c.read_write-held.ensures.0 refl pushed
          ∙ ap (λ (vs : List Dynamic). c.arguments.run.scope
          ++ bound_entries names (drop i params) (map read_write vs)) (sym first)
          ∙ c.arguments.invariant.scope;
      many = search rules;
      left = omega (arith, c.arguments.invariant.left, ap length first);
      others = ap (λ (r : Run g.row.H.Denot). record r { scope = c.push_moved.new.self })
          c.arguments.invariant.others;
    }

pub returns-clause-entered : goal.returns-clause-entered
returns-clause-entered g c =
    let names = c.args.context.program.now.names in
    let params = c.as_slice-params.result.now in
    let none = none_left (into_iter_items c.arguments.value-iterator)
    (omega (arith, c.in-None.ensures.steps.0, c.arguments.invariant.many)) in
    let vs = into_iter_items c.into_iter-value-iterator.result in
    let all : c.arguments.run.scope ≡ bound_entries names params (given_to c.args.arguments) =
    all_bound c.arguments.run.scope names params (drop c.arguments.index params)
    (into_iter_items c.arguments.value-iterator) vs c.args.arguments none
    c.arguments.invariant.scope (search rules) in
    rw (all, c.arguments.invariant.others) (search rules)
