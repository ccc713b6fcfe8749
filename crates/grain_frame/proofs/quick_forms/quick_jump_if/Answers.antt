-- The truth value is taken, and it is the wanted one.
use Rattle.std.proofs.Common.{rules, ◌≡◌, Some, true, refl}
use Rattle.grain_value.specs.Cells.{flat}
use Rattle.grain_value.specs.Operands.{top}
use Rattle.grain_value.specs.declared.values.Dynamic.TheVariants as dynamic
use Rattle.grain_means.specs.Rules.{agrees}
use Rattle.grain_frame.proofs.quick_forms.quick_jump_if.Goals as goal

pub returns-then-agrees : goal.returns-then-agrees
returns-then-agrees g c =
    let s = c.args.run.now in
    let truth = c.in-Bool.truth in
    let read : flat s.cells (top s.stacks.operands).value ≡ Some (dynamic.Bool truth) = search rules in
    let agreed : agrees c.args.wanted truth ≡ true = search rules in
    record {
      tried = (
        rw c.drop_top.ensures refl,
        refl,
        refl,
        (dynamic.Bool truth, truth, read, refl, agreed),
      );
    }
