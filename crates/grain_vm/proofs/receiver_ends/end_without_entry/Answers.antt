-- Memory is out.
use Rattle.std.proofs.Common.{◌≡◌, true, rules}
use Rattle.grain_fault.specs.Problems.{problem_of}
use Rattle.grain_means.specs.Means.{setup}
use Rattle.grain_means.specs.Rules.{no_memory}
use Rattle.grain_vm.proofs.CallEnds.{past_wanted}
use Rattle.grain_vm.proofs.receiver_ends.end_without_entry.Goals as goal

pub returns-then-is_want-clause-implements : goal.returns-then-is_want-clause-implements
returns-then-is_want-clause-implements g c = λ next host.
    let want : no_memory (problem_of c.in-Err.fault) ≡ true = search rules in
    rw c.in-Err.is (past_wanted
    (setup g.H.Host.law c.args.context.program.now c.args.context.engine.now) c.args.frame.now
    c.args.run.now c.args.steps.now host next c.requires.inside (problem_of c.in-Err.fault) want
    (record {}) c.args.index)
