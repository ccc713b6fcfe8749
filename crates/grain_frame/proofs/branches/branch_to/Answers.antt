-- Each way on is what the rule of the branch says.
use Rattle.std.proofs.Common.{rules, ◌≡◌, ◌<◌, true, false}
use Rattle.grain_means.specs.Rules.{agrees}
use Rattle.grain_frame.proofs.Branching.{falls, jumps}
use Rattle.grain_frame.proofs.branches.branch_to.Goals as goal

pub returns-then-not-agrees-clause-implements : goal.returns-then-not-agrees-clause-implements
returns-then-not-agrees-clause-implements g c =
    let other : agrees c.args.wanted c.args.truth ≡ false = search rules in
    λ host. rw (c.mark.ensures, c.branch_begins.ensures.counted, c.branch_begins.ensures.run)
    (falls g.H.Host.law c.args.context.program.now c.args.context.engine.now c.args.frame.now
    c.args.run.now c.args.truth c.args.wanted c.args.target c.args.next c.args.steps.now host
    c.requires.two c.requires.inside other c.requires.ahead)

pub returns-clause-implements : goal.returns-clause-implements
returns-clause-implements g c =
    let wanted : agrees c.args.wanted c.args.truth ≡ true = search rules in
    let ahead : c.args.frame.now.address < c.args.target = search rules in
    λ host. rw (c.mark-2.ensures, c.branch_begins-2.ensures.counted, c.branch_begins-2.ensures.run)
    (jumps g.H.Host.law c.args.context.program.now c.args.context.engine.now c.args.frame.now
    c.args.run.now c.args.truth c.args.wanted c.args.target c.args.next c.args.steps.now host
    c.requires.two c.requires.inside wanted ahead)
