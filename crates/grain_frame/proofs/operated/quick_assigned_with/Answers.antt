use Rattle.std.proofs.Common.{◌≡◌, true, rules, w64, FitsSigned}
use Rattle.std.proofs.lemmas.Int.{to_z-of_z}
use Rattle.grain_frame.proofs.operated.quick_assigned_with.Goals as goal

pub returns-then-engine-clause-assigned : goal.returns-then-engine-clause-assigned
returns-then-engine-clause-assigned c =
    let fits : FitsSigned w64 c.args.value = search rules in
    let fast : c.args.engine.now.fast_operators ≡ true = search rules in
    rw fast (rw (to_z-of_z w64 c.args.value fits) at
    (c.quick_assigned_with.ensures.assigned c.args.engine.now.limits))
