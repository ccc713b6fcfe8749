use Rattle.std.proofs.Common.{◌≡◌, length, arith}
use Rattle.grain_chain.proofs.methods.typed_method.Goals as goal

pub returns-in-Some-clause-can : goal.returns-in-Some-clause-can
returns-in-Some-clause-can c =
    let found = c.in-Some.ensures.called in
    let count : length found.function.params ≡ c.args.step.argc = omega (arith, found.count_is) in
    (found.function, found.is, count)
