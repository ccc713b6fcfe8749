use Rattle.std.proofs.Common.{◌≡◌, Some, sym, ◌∙◌, arith}
use Rattle.grain_program.specs.Decoding.{op_at}
use Rattle.grain_program.specs.laws.Widths.{op_at_within}
use Rattle.grain_program.proofs.Marks.{marking_none, marking_more, marking_ends, marking_all}
use Rattle.grain_program.proofs.verifier.owners.mark.Goals as goal
use Rattle.grain_program.proofs.verifier.owners.mark.Goals.{In-Some}

is : (c : In-Some) → op_at c.args.code.now c.loop-at.at ≡ Some (
  c.in-Some.field-0-0,
  c.in-Some.width,
)
is c = sym c.decode.ensures.exact ∙ c.in-Some.is

pub loop-at-init : goal.loop-at-init
loop-at-init c = marking_none c.args.code.now c.args.chunk c.args.owners.now

pub loop-at-preserved : goal.loop-at-preserved
loop-at-preserved c =
    marking_more c.args.code.now c.args.chunk c.loop-at.at c.args.owners.now c.loop-at.owners
    c.loop-at.invariant c.loop-at-test.true (omega arith)
    (c.in-Some.field-0-0, c.in-Some.width) (is c) (op_at_within c.args.code.now c.loop-at.at
    (c.in-Some.field-0-0, c.in-Some.width) (is c)).0

pub returns-in-None-clause-marked : goal.returns-in-None-clause-marked
returns-in-None-clause-marked c =
    marking_ends c.args.code.now c.args.chunk c.loop-at.at c.args.owners.now c.loop-at.owners
    c.loop-at.invariant c.loop-at-test.true (omega arith)
    (sym c.decode.ensures.exact ∙ c.in-None.is)

pub returns-clause-marked : goal.returns-clause-marked
returns-clause-marked c = marking_all c.args.code.now c.args.chunk c.loop-at.at c.args.owners.now
    c.loop-at.owners c.loop-at.invariant (omega arith)
