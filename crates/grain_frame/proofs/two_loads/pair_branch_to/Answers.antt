-- Each way on is what the rule of the branch says.
use Rattle.std.proofs.Common.{rules, ◌≡◌, ◌<◌, ◌≤◌, length, true, false, arith}
use Rattle.grain_means.specs.Rules.{agrees}
use Rattle.grain_frame.specs.Abstraction.{moved, marked_once}
use Rattle.grain_frame.specs.Following.{loaded, begun_behind}
use Rattle.grain_frame.proofs.Branching.{falls, jumps}
use Rattle.grain_frame.proofs.Paired.{length_both, without_both}
use Rattle.grain_frame.proofs.two_loads.pair_branch_to.Goals as goal

pub returns-then-not-agrees-clause-implements : goal.returns-then-not-agrees-clause-implements
returns-then-not-agrees-clause-implements g c =
    let p = c.args.context.program.now in
    let e = c.args.context.engine.now in
    let x = c.args.first in
    let y = c.args.second in
    let s = loaded (loaded c.args.run.now x) y in
    let two : 2 ≤ length s.stacks.operands = omega (arith, length_both c.args.run.now x y) in
    let other : agrees c.args.wanted c.args.truth ≡ false = search rules in
    let same = without_both c.args.run.now x y in
    λ host. rw (c.mark.ensures, c.pair_begins.ensures)
    (rw same at
    (falls g.H.Host.law p e (moved c.args.frame.now c.args.at) s c.args.truth c.args.wanted
    c.args.target c.args.next (marked_once (begun_behind (begun_behind c.args.steps.now))) host two
    c.requires.inside other c.requires.ahead))

pub returns-clause-implements : goal.returns-clause-implements
returns-clause-implements g c =
    let p = c.args.context.program.now in
    let e = c.args.context.engine.now in
    let x = c.args.first in
    let y = c.args.second in
    let s = loaded (loaded c.args.run.now x) y in
    let two : 2 ≤ length s.stacks.operands = omega (arith, length_both c.args.run.now x y) in
    let wanted : agrees c.args.wanted c.args.truth ≡ true = search rules in
    let ahead : c.args.at < c.args.target = search rules in
    let same = without_both c.args.run.now x y in
    λ host. rw (c.mark-2.ensures, c.pair_begins-2.ensures)
    (rw same at
    (jumps g.H.Host.law p e (moved c.args.frame.now c.args.at) s c.args.truth c.args.wanted
    c.args.target c.args.next (marked_once (begun_behind (begun_behind c.args.steps.now))) host two
    c.requires.inside wanted ahead))
