-- The value is pushed, or memory is out.
use Rattle.std.proofs.Common.{◌≡◌, true, rules}
use Rattle.grain_fault.specs.Problems.{problem_of}
use Rattle.grain_means.specs.Means.{setup}
use Rattle.grain_means.specs.Rules.{no_memory}
use Rattle.grain_vm.proofs.CallEnds.{over_wanted}
use Rattle.grain_vm.proofs.receiver_ends.end_call.Goals as goal

pub returns-in-Ok-clause-implements : goal.returns-in-Ok-clause-implements
returns-in-Ok-clause-implements g c = λ program engine host.
    rw c.in-Ok.is (c.push_on.ensures.implements program engine host)

pub returns-then-is_want-clause-implements : goal.returns-then-is_want-clause-implements
returns-then-is_want-clause-implements g c = λ program engine host.
    let want : no_memory (problem_of c.in-Err.fault) ≡ true = search rules in
    rw c.in-Err.is (over_wanted (setup g.H.Host.law program engine) c.args.frame.now c.args.run.now
    c.args.steps.now host c.args.next c.requires.inside (problem_of c.in-Err.fault) want (record {}))
