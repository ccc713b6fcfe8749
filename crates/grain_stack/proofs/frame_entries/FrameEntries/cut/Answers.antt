-- One entry more goes.
use Rattle.std.proofs.Common.{◌≡◌, ◌<◌, ◌-◌, ℕ, drop, length, arith, subst}
use Rattle.grain_stack.specs.Entries.{entries_at, Becomes}
use Rattle.grain_stack.proofs.Depths.{unchanged, some_there, more_to_cut, one_more_cut}
use Rattle.grain_stack.proofs.frame_entries.FrameEntries.cut.Goals as goal

pub cut-init : goal.cut-init
cut-init g c = unchanged c.args.depth c.args.self.now c.requires.ordered

pub pop-requires : goal.pop-requires
pop-requires g c =
    let less : c.cut.counter < length (entries_at c.args.depth c.args.self.now) = omega arith in
    record {
      there = some_there c.args.depth c.cut.self
          (more_to_cut c.args.depth c.cut.counter c.args.self.now c.cut.self less c.cut.invariant);
    }

pub cut-preserved : goal.cut-preserved
cut-preserved g c =
    let less : c.cut.counter < length (entries_at c.args.depth c.args.self.now) = omega arith in
    one_more_cut c.args.depth c.cut.counter c.args.self.now c.cut.self c.pop.new.self _ less
    c.cut.invariant c.pop.ensures.1

pub returns : goal.returns
returns g c =
    let all : c.cut.counter ≡ length (entries_at c.args.depth c.args.self.now) - c.args.count =
    omega arith in
    subst
    (λ (n : ℕ).
    Becomes c.args.depth c.args.self.now c.cut.self
    (drop n (entries_at c.args.depth c.args.self.now))) all c.cut.invariant
