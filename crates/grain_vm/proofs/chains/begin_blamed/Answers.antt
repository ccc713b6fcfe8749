-- The root is refused or is a lent cell, memory is out, or a walk begins.
use Rattle.std.proofs.Common.{◌≡◌, ◌∙◌, Err, Ok, ap, false, refl, rules, true}
use Rattle.grain_program.specs.View.{chain_of}
use Rattle.grain_global.specs.StepsView.{StepsView}
use Rattle.grain_means.specs.Means.{setup}
use Rattle.grain_means.specs.Rules.Chains.{lent_cell}
use Rattle.grain_frame.specs.Abstraction.{moment}
use Rattle.grain_frame.specs.declared.runs.Progress.TheVariants as progress
use Rattle.grain_vm.specs.Chains.{is_free, root_index}
use Rattle.grain_vm.proofs.Begins.{begun_out, raced, walks}
use Rattle.grain_vm.proofs.Refused.{refused, rule, wanted}
use Rattle.grain_vm.proofs.Rooting.{can_take}
use Rattle.grain_vm.proofs.chains.begin_blamed.Goals as goal

pub returns-in_err-refuse_chain-in-Err-clause-begins :
    goal.returns-in_err-refuse_chain-in-Err-clause-begins
returns-in_err-refuse_chain-in-Err-clause-begins g c = λ host.
    let law = g.H.Host.law in
    let p = c.args.context.program.now in
    let e = c.args.context.engine.now in
    let f = c.args.frame.now in
    let s = c.args.run.now in
    let n = c.args.steps.now in
    let k = c.args.index in
    begun_out (setup law p e) (moment f s n host) (rule law p e f s n host k c.args.next c.args.blamed) k
    c.args.next c.args.blamed c.from_residual.result f c.refuse_chain.new.run c.refuse_chain.new.steps
    c.from_residual.ensures.0
    (λ x. refused law p e f s n host k c.args.next c.args.blamed c.refuse_chain.new.run
    c.refuse_chain.new.steps c.in-Err.refusal (Err x) (rw c.chain-chain.ensures at c.in-Err.ensures)
    c.in_err-refuse_chain-in-Err.ensures c.requires.ready.inside)

pub returns-in-Err-clause-begins : goal.returns-in-Err-clause-begins
returns-in-Err-clause-begins g c = λ host.
    let did = rw c.chain-chain.ensures at c.in_ok-refuse_chain-in-Err.ensures in
    refused g.H.Host.law c.args.context.program.now c.args.context.engine.now c.args.frame.now
    c.args.run.now c.args.steps.now host c.args.index c.args.next c.args.blamed c.refuse_chain.new.run
    c.refuse_chain.new.steps c.in-Err.refusal (Ok progress.Failed)
    (rw c.chain-chain.ensures at c.in-Err.ensures) (refl, did.1, did.2, did.3) c.requires.ready.inside

pub returns-in_err-taken-clause-begins : goal.returns-in_err-taken-clause-begins
returns-in_err-taken-clause-begins g c = λ host.
    let law = g.H.Host.law in
    let p = c.args.context.program.now in
    let e = c.args.context.engine.now in
    let f = c.args.frame.now in
    let s = c.args.run.now in
    let n = c.args.steps.now in
    let k = c.args.index in
    begun_out (setup law p e) (moment f s n host) (rule law p e f s n host k c.args.next c.args.blamed) k
    c.args.next c.args.blamed c.from_residual-in_err-taken.result f s n
    c.from_residual-in_err-taken.ensures.0
    (λ x. wanted law p e f s n host k c.args.next c.args.blamed x c.in-Ok.root c.in-Ok.ensures.0
    (rw c.chain-chain.ensures at c.in-Ok.ensures.1) c.requires.ready.inside)

pub returns-in_err-race_at_root-clause-begins : goal.returns-in_err-race_at_root-clause-begins
returns-in_err-race_at_root-clause-begins g c = λ host.
    let law = g.H.Host.law in
    let p = c.args.context.program.now in
    let e = c.args.context.engine.now in
    let f = c.args.frame.now in
    let s = c.args.run.now in
    let n = c.args.steps.now in
    let k = c.args.index in
    let lent : is_free s c.in-Ok.root.home ≡ false = search rules in
    begun_out (setup law p e) (moment f s n host) (rule law p e f s n host k c.args.next c.args.blamed) k
    c.args.next c.args.blamed c.from_residual-in_err-race_at_root.result f c.race_at_root.new.run
    c.race_at_root.new.steps c.from_residual-in_err-race_at_root.ensures.0
    (λ x. raced law p e f s n host k c.args.next c.args.blamed c.in-Ok.root c.in-Ok.ensures.0
    c.in_ok-taken.taken (rw c.chain-chain.ensures at c.in-Ok.ensures.1)
    (rw c.chain-chain.ensures at c.in_ok-taken.ensures) c.requires.ready.inside c.race_at_root.new.run
    c.race_at_root.new.steps (Err x) lent (rw c.mark.ensures at c.in_err-race_at_root.ensures))

pub returns-then-not-is_free-clause-begins : goal.returns-then-not-is_free-clause-begins
returns-then-not-is_free-clause-begins g c = λ host.
    let lent : is_free c.args.run.now c.in-Ok.root.home ≡ false = search rules in
    let did = rw (c.mark.ensures, c.chain-chain.ensures) at c.in_ok-race_at_root.ensures in
    raced g.H.Host.law c.args.context.program.now c.args.context.engine.now c.args.frame.now
    c.args.run.now c.args.steps.now host c.args.index c.args.next c.args.blamed c.in-Ok.root
    c.in-Ok.ensures.0 c.in_ok-taken.taken (rw c.chain-chain.ensures at c.in-Ok.ensures.1)
    (rw c.chain-chain.ensures at c.in_ok-taken.ensures) c.requires.ready.inside c.race_at_root.new.run
    c.race_at_root.new.steps (Ok progress.Failed) lent (refl, did.1, did.2, did.3)

pub start_walk-walk-requires-clause-copies : goal.start_walk-walk-requires-clause-copies
start_walk-walk-requires-clause-copies g c = rw c.chain-chain.ensures at c.in_ok-taken.ensures

pub start_walk-walk-requires-clause-home : goal.start_walk-walk-requires-clause-home
start_walk-walk-requires-clause-home g c =
    let p = c.args.context.program.now in
    let s = c.args.run.now in
    let f = c.args.frame.now in
    let cc = chain_of p c.args.index in
    let h = c.in-Ok.ensures.0 in
    let found = rw c.chain-chain.ensures at c.in-Ok.ensures.1 in
    let free : is_free s c.in-Ok.root.home ≡ true = search rules in
    rw found.home (can_take s (root_index f.base cc.root) cc.root (lent_cell p cc.steps h) h found.there
    (rw found.home at free))

pub returns-clause-begins : goal.returns-clause-begins
returns-clause-begins g c = λ host.
    let h = c.in-Ok.ensures.0 in
    let found = rw c.chain-chain.ensures at c.in-Ok.ensures.1 in
    let copies = rw c.chain-chain.ensures at c.in_ok-taken.ensures in
    walks g.H.Host.law c.args.context.program.now c.args.context.engine.now c.args.frame.now
    c.args.run.now c.args.steps.now host c.args.index c.args.next c.args.blamed c.in-Ok.root h
    c.in_ok-taken.taken found copies c.requires.ready.inside c.start_walk-walk.result.0
    c.start_walk-walk.result.1 c.start_walk-walk.result.2 c.start_walk-walk.new.run
    c.start_walk-walk.new.steps
    (rw c.mark.ensures at (c.start_walk-walk.ensures.starts h c.args.blamed c.args.next host found))
    (c.start_walk-walk.ensures.before ∙ ap (λ (l : StepsView). l.before) c.mark.ensures)
