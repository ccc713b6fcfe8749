-- The target is an integer.
use Rattle.std.proofs.Common.{rules, w64, FitsSigned}
use Rattle.std.proofs.lemmas.Int.{to_z-of_z}
use Rattle.grain_ops.proofs.quick.quick_assigned_with.Goals as goal

pub returns-in-Int-clause-assigned : goal.returns-in-Int-clause-assigned
returns-in-Int-clause-assigned c = λ limits.
    let x_fits : FitsSigned w64 c.in-Int.x = search rules in
    let value_fits : FitsSigned w64 c.args.value = search rules in
    let h = c.assigned_number.ensures limits in
    rw c.in-Int.is (rw (to_z-of_z w64 c.in-Int.x x_fits, to_z-of_z w64 c.args.value value_fits) at h)
