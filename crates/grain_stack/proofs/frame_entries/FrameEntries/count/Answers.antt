-- One entry more is seen, or it is of another frame.
use Rattle.std.proofs.Common.{◌≡◌, ◌∙◌, arith}
use Rattle.grain_stack.proofs.Depths.{ordered_by, one_more_seen, all_seen, none_unseen}
use Rattle.grain_stack.proofs.frame_entries.FrameEntries.count.Goals as goal

pub own-init : goal.own-init
own-init g c = (omega arith, ordered_by c.args.depth _ c.args.self.now c.self.view_is c.requires)

pub returns-then-index-depth : goal.returns-then-index-depth
returns-then-index-depth g c =
    all_seen c.args.depth c.self.inside.entries.items c.args.self.now c.own.count c.len-all.result
    c.index.result.now c.self.view_is (c.len-all.ensures ∙ c.self.inside.entries.ok.0)
    c.own-test.true c.index.ensures c.if-index-depth.true c.own.invariant

pub own-preserved : goal.own-preserved
own-preserved g c =
    one_more_seen c.args.depth c.self.inside.entries.items c.own.count c.len-all.result
    c.index.result.now (c.len-all.ensures ∙ c.self.inside.entries.ok.0) c.own-test.true
    c.index.ensures c.if-index-depth.false c.own.invariant

pub returns : goal.returns
returns g c =
    let all : c.own.count ≡ c.len-all.result =
    omega (arith, c.own-test.false, c.own.auto.count-end) in
    none_unseen c.args.depth c.self.inside.entries.items c.args.self.now c.own.count
    c.len-all.result c.self.view_is (c.len-all.ensures ∙ c.self.inside.entries.ok.0) all
    c.own.invariant
