-- What is bound, and what the parameters and the arguments that are left will be bound to.
use Rattle.std.proofs.Common.{◌≡◌, ◌+◌, ◌++◌, drop, length, map}
use Rattle.std.specs.Vec.Iter.{into_iter_items, into_iter_len}
use Rattle.grain_value.specs.Operands.{bound_entries, read_write}
use Rattle.grain_vm.proofs.methods.bind_arguments.Given as goal

abbrev pub invariant-arguments : goal.invariant-arguments
invariant-arguments g l =
    let names = l.context.program.now.names in
    let left = into_iter_items l.value-iterator in
    record {
      scope : l.run.scope ++ bound_entries names (drop l.index l.params) (map read_write left)
          ≡ bound_entries names l.params
          (map read_write (into_iter_items l.initial.value-iterator));
      many : into_iter_len l.value-iterator ≡ length left;
      left : l.index + length left ≡ length l.params;
      others : l.run ≡ record l.fn.run { scope = l.run.scope };
    }
