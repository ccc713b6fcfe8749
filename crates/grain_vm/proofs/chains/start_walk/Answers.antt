-- The chain's operands and its root are taken, and the walk begins at the root.
use Rattle.std.proofs.Common.{◌≡◌, ◌∙◌, length, ap}
use Rattle.grain_program.specs.View.{chain_of}
use Rattle.grain_means.specs.Means.{setup}
use Rattle.grain_means.specs.Rules.Chains.{assigned_operand, lent_cell}
use Rattle.grain_frame.specs.declared.runs.Run.{Run}
use Rattle.grain_vm.specs.Chains.{left_by, value_taken}
use Rattle.grain_vm.proofs.Rooting.{bound_away, bound_from, can_put_back, can_still, copied_enough, has_operator, long_still, others_are, value_at}
use Rattle.grain_vm.proofs.Starting.{lent_is_cell, placed, starts, walk_task}
use Rattle.grain_vm.proofs.chains.start_walk.Goals as goal

pub take_root-held-requires : goal.take_root-held-requires
take_root-held-requires g c =
    let p = c.args.context.program.now in
    can_still c.args.run.now c.take_operands-operand.new.run
    (left_by (chain_of p c.args.index) c.args.run.now.stacks.operands) c.args.root.home
    (rw c.chain-chain.ensures at c.take_operands-operand.ensures.rest) c.requires.home

pub start-walk-requires : goal.start-walk-requires
start-walk-requires g c =
    let p = c.args.context.program.now in
    let ops = c.args.run.now.stacks.operands in
    record {
      operator = has_operator p (chain_of p c.args.index).tail c.requires.chain.1.tail;
      enough = copied_enough (chain_of p c.args.index) ops c.args.taken.operands c.requires.operands
          c.requires.copies.0;
    }

pub returns-clause-starts : goal.returns-clause-starts
returns-clause-starts g c = λ h blamed next host found.
    let p = c.args.context.program.now in
    let e = c.args.context.engine.now in
    let m = setup g.H.Host.law p e in
    let k = c.args.index in
    let cc = chain_of p k in
    let f = c.args.frame.now in
    let s = c.args.run.now in
    let s0 = c.take_operands-operand.new.run in
    let s1 = c.take_root-held.new.run in
    let n = c.args.steps.now in
    let root = c.args.root in
    let taken = c.args.taken in
    let operand = c.take_operands-operand.result.0 in
    let held = c.take_root-held.result in
    let ops = left_by cc s.stacks.operands in
    let gone : s0 ≡ record s { stacks = record s.stacks { operands = ops } } =
    rw c.chain-chain.ensures at c.take_operands-operand.ensures.rest in
    let took = c.take_root-held.ensures in
    let valued : c.take_operands-operand.result.1
    ≡ value_taken cc.tail taken.kept (assigned_operand cc s.stacks.operands) =
    rw c.chain-chain.ensures at c.take_operands-operand.ensures.value
    ∙ ap (value_taken cc.tail taken.kept) (value_at cc s.stacks.operands c.requires.operands) in
    starts m k next f s s1 n c.mark_all.new.self host blamed root h held taken c.start-walk.result.0
    c.start-walk.result.1
    (rw found.home (placed m k next cc (walk_task m k next f s s1 n c.mark_all.new.self host blamed root h
    held taken c.start-walk.result.0 c.start-walk.result.1) f s s1 n host blamed h held operand ops
    root.read_only (lent_cell p cc.steps h) cc.root (λ j is. lent_is_cell p cc.steps h j is) found.there
    found.flag (rw c.chain-chain.ensures at c.take_operands-operand.ensures.root)
    (rw (gone, found.home) at took)))
    (can_put_back s0 s1 root.home operand held (can_still s s0 ops root.home gone c.requires.home) took)
    (bound_from s s0 s1 root.home (ap (λ (q : Run g.row.H.Denot). q.receivers) gone)
    (bound_away s0 s1 root.home operand held took))
    (rw (c.requires.copies.0, valued, c.position.ensures) at c.start-walk.ensures.did)
    c.start-walk.ensures.rooted
    (rw c.marks.ensures at c.mark_all.ensures)
    (long_still s0 s1 root.home operand held took
    ∙ ap (λ (q : Run g.row.H.Denot). length q.scope) gone)
    (others_are s s0 s1 cc root.home operand held c.requires.operands gone took)
