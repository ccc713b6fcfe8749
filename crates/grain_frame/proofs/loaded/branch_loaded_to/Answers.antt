-- Each way on is what the rule of the branch says.
use Rattle.std.proofs.Common.{rules, ◌≡◌, ◌<◌, ◌≤◌, length, true, false, arith, w64, FitsSigned}
use Rattle.std.proofs.lemmas.Int.{to_z-of_z}
use Rattle.grain_means.specs.Rules.{agrees}
use Rattle.grain_frame.specs.Following.{loaded}
use Rattle.grain_frame.proofs.Branching.{falls, jumps}
use Rattle.grain_frame.proofs.Loading.{length_loaded}
use Rattle.grain_frame.proofs.loaded.branch_loaded_to.Goals as goal

pub returns-then-not-agrees-clause-implements : goal.returns-then-not-agrees-clause-implements
returns-then-not-agrees-clause-implements g c =
    let p = c.args.context.program.now in
    let e = c.args.context.engine.now in
    let z = c.args.integer in
    let fits : FitsSigned w64 z = search rules in
    let s = loaded c.args.run.now z in
    let two : 2 ≤ length s.stacks.operands = omega (
      arith,
      c.requires.one,
      length_loaded g.H.Host.law p e c.args.frame.now c.args.run.now c.args.integer,
    ) in
    let other : agrees c.args.wanted c.args.truth ≡ false = search rules in
    λ host. rw (
      c.mark.ensures,
      c.branch_loaded_begins.ensures.counted,
      rw (to_z-of_z w64 z fits) at c.branch_loaded_begins.ensures.run,
    )
    (falls g.H.Host.law p e c.args.frame.now s c.args.truth c.args.wanted c.args.target c.args.next
    c.args.steps.now host two c.requires.inside other c.requires.ahead)

pub returns-clause-implements : goal.returns-clause-implements
returns-clause-implements g c =
    let p = c.args.context.program.now in
    let e = c.args.context.engine.now in
    let z = c.args.integer in
    let fits : FitsSigned w64 z = search rules in
    let s = loaded c.args.run.now z in
    let two : 2 ≤ length s.stacks.operands = omega (
      arith,
      c.requires.one,
      length_loaded g.H.Host.law p e c.args.frame.now c.args.run.now c.args.integer,
    ) in
    let wanted : agrees c.args.wanted c.args.truth ≡ true = search rules in
    let ahead : c.args.frame.now.address < c.args.target = search rules in
    λ host. rw (
      c.mark-2.ensures,
      c.branch_loaded_begins-2.ensures.counted,
      rw (to_z-of_z w64 z fits) at c.branch_loaded_begins-2.ensures.run,
    )
    (jumps g.H.Host.law p e c.args.frame.now s c.args.truth c.args.wanted c.args.target c.args.next
    c.args.steps.now host two c.requires.inside wanted ahead)
