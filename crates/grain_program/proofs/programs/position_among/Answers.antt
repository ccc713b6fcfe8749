use Rattle.std.proofs.Common.{◌+◌, ◌-◌, ◌/◌, sym, arith}
use Rattle.std.proofs.lemmas.Option.{slice_get-get_or}
use Rattle.grain_program.proofs.Placing.{present, to_the_right, to_the_left, none_between, middle_of}
use Rattle.grain_program.proofs.programs.position_among.Goals as goal

pub returns-then-at-address : goal.returns-then-at-address
returns-then-at-address c =
    let b = c.loop-low.invariant in
    let m = middle_of c.loop-low.low c.loop-low.high c.loop-low-test.true in
    sym (present 0 c.requires.0 c.args.entries.now c.requires.1
    (c.loop-low.low + (c.loop-low.high - c.loop-low.low) / 2) _ c.args.address
    (slice_get-get_or c.args.entries.now (c.loop-low.low + (c.loop-low.high - c.loop-low.low) / 2) _
    (omega (arith, b.inside))) c.if-at-address.true)

pub loop-low-preserved-then-at-address-2 : goal.loop-low-preserved-then-at-address-2
loop-low-preserved-then-at-address-2 c =
    let b = c.loop-low.invariant in
    let m = middle_of c.loop-low.low c.loop-low.high c.loop-low-test.true in
    to_the_right c.args.entries.now c.requires c.args.address c.loop-low.low c.loop-low.high
    (c.loop-low.low + (c.loop-low.high - c.loop-low.low) / 2) b _
    (slice_get-get_or c.args.entries.now (c.loop-low.low + (c.loop-low.high - c.loop-low.low) / 2) _
    (omega (arith, b.inside))) c.if-at-address-2.true m.1

pub loop-low-preserved : goal.loop-low-preserved
loop-low-preserved c =
    let b = c.loop-low.invariant in
    let m = middle_of c.loop-low.low c.loop-low.high c.loop-low-test.true in
    to_the_left c.args.entries.now c.requires c.args.address c.loop-low.low c.loop-low.high
    (c.loop-low.low + (c.loop-low.high - c.loop-low.low) / 2) b _
    (slice_get-get_or c.args.entries.now (c.loop-low.low + (c.loop-low.high - c.loop-low.low) / 2) _
    (omega (arith, b.inside))) c.if-at-address.false c.if-at-address-2.false m.0 m.1

pub returns : goal.returns
returns c = sym (none_between c.args.entries.now c.args.address c.loop-low.low c.loop-low.high
    c.loop-low.invariant c.loop-low-test.false)
