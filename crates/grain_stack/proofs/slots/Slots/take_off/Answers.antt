-- One operand more is taken off, for which there is room.
use Rattle.std.proofs.Common.{◌≡◌, ◌∙◌, ◌<◌, ◌+◌, length, ap, refl, sym, arith}
use Rattle.grain_value.specs.Operands.{top, below, under}
use Rattle.grain_stack.specs.Filled.{Filled}
use Rattle.grain_stack.proofs.Spreading.{under_more, taken_more}
use Rattle.grain_stack.proofs.slots.Slots.take_off.Goals as goal

pub unreachable-requires : goal.unreachable-requires
unreachable-requires c =
    let i = c.take.invariant in
    omega (
      arith,
      i.many,
      i.room,
      c.take-test.true,
      c.take.auto.counter-end,
      c.in-Err.ensures.full,
    )

pub take-preserved : goal.take-preserved
take-preserved c =
    let i = c.take.invariant in
    let ops = c.args.self.now.operands in
    let more : c.take.counter < length ops =
    omega (arith, c.take-test.true, c.take.auto.counter-end, c.requires.there) in
    let was = ap (λ (v : Filled). v.operands) i.left in
    let rest : below (under c.take.counter ops) ≡ under (c.take.counter + 1) ops =
    sym (under_more c.take.counter ops more) in
    record {
      taken = taken_more c.take.counter ops c.take.taken.items c.push.new.self.items c.pop.result
          more i.taken (c.pop.ensures.value ∙ ap top was) c.in-Ok.ensures.items;
      many = omega (arith, i.many, c.in-Ok.ensures.len);
      room = omega (arith, i.room, c.in-Ok.ensures.capacity);
      left =
          c.pop.ensures.rest
          ∙ rw (i.left, rest) refl;
    }
