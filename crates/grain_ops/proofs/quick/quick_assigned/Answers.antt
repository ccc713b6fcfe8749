-- Both values are integers.
use Rattle.std.proofs.Common.{rules, w64, FitsSigned}
use Rattle.std.proofs.lemmas.Int.{to_z-of_z}
use Rattle.grain_ops.proofs.quick.quick_assigned.Goals as goal

pub returns-in-Int-value-clause-assigned : goal.returns-in-Int-value-clause-assigned
returns-in-Int-value-clause-assigned c = λ limits.
    let x_fits : FitsSigned w64 c.in-Int.x = search rules in
    let y_fits : FitsSigned w64 c.in-Int-value.y = search rules in
    let h = c.assigned_number.ensures limits in
    rw (c.in-Int.is, c.in-Int-value.is)
    (rw (to_z-of_z w64 c.in-Int.x x_fits, to_z-of_z w64 c.in-Int-value.y y_fits) at h)
