use Rattle.std.proofs.Common.{arith, rules, ◌≡◌, ℕ, ◌+◌, ◌<◌, ◌≤◌, ◌++◌, length, take, drop, option_map}
use Rattle.std.proofs.lemmas.List.{length-take, take-append-le}
use Rattle.grain_streams.specs.Reads.{unended, ended}
use Rattle.grain_streams.proofs.Readings.{is_room, got_none, got_more}
use Rattle.grain_streams.proofs.Takes.{taken_more, taken_length}
use Rattle.grain_streams.proofs.inputs.read_all.Goals as goal

pub fill-init : goal.fill-init
fill-init g c = (
  search rules,
  search rules,
  search rules,
  search rules,
  got_none g.S.Source.reads (c.args.most + 1) c.args.source.now c.new-bytes.result.items
      c.new-bytes.ensures.items,
)

pub returns-in-Failed-clause-reads : goal.returns-in-Failed-clause-reads
returns-in-Failed-clause-reads g c =
    let room = is_room c.args.most (length c.fill.bytes.items) c.min-room.result c.fill.buffer
    (omega (arith, c.fill-test.true)) c.fill.invariant.2 (omega (arith, c.min-room.ensures)) in
    ended c.fill.invariant.4 room tt c.in-Failed.ensures.step

pub returns-in-End-clause-reads : goal.returns-in-End-clause-reads
returns-in-End-clause-reads g c =
    let room = is_room c.args.most (length c.fill.bytes.items) c.min-room.result c.fill.buffer
    (omega (arith, c.fill-test.true)) c.fill.invariant.2 (omega (arith, c.min-room.ensures)) in
    ended c.fill.invariant.4 room tt c.in-End.ensures.step

pub returns-in-Got-eq0-clause-reads : goal.returns-in-Got-eq0-clause-reads
returns-in-Got-eq0-clause-reads g c =
    let room = is_room c.args.most (length c.fill.bytes.items) c.min-room.result c.fill.buffer
    (omega (arith, c.fill-test.true)) c.fill.invariant.2 (omega (arith, c.min-room.ensures)) in
    let none : c.in-Got-eq0.field-0 ≡ 0 = search rules in
    ended c.fill.invariant.4 room none c.in-Got-eq0.ensures.step

pub fill-preserved : goal.fill-preserved
fill-preserved g c =
    let bytes = c.fill.bytes.items in
    let slice = c.read.new.buffer in
    let room = is_room c.args.most (length bytes) c.min-room.result c.fill.buffer
    (omega (arith, c.fill-test.true)) c.fill.invariant.2 (omega (arith, c.min-room.ensures)) in
    let some : 0 < c.in-Got.count = search rules in
    let taken : take c.in-Got.count (slice ++ drop c.min-room.result c.fill.buffer) ≡ take
    c.in-Got.count slice = take-append-le c.in-Got.count slice
    (drop c.min-room.result c.fill.buffer) c.in-Got.ensures.bytes.0 in
    let items : c.extend_from_slice.new.self.items ≡ bytes ++ take c.in-Got.count slice =
    rw taken at c.in_ok-extend_from_slice-in-Got.ensures.items in
    let more = got_more g.S.Source.reads (c.args.most + 1) _ c.in-Got.count c.args.source.now c.fill.source
    c.read.new.self bytes slice c.fill.invariant.4 room some
    (omega (arith, c.in-Got.ensures.bytes.0, c.read.auto.buffer)) c.in-Got.ensures.bytes.0
    c.in-Got.ensures.step in
    let left : option_map (λ others. c.extend_from_slice.new.self.items ++ others)
    (g.S.Source.left c.read.new.self) ≡ g.S.Source.left c.args.source.now =
    rw items (taken_more c.in-Got.count bytes slice (g.S.Source.left c.args.source.now)
    (g.S.Source.left c.fill.source) (g.S.Source.left c.read.new.self) c.fill.invariant.0
    c.in-Got.ensures.bytes.1) in
    (left, search rules, search rules, search rules, rw items more)

pub returns-in_err-extend_from_slice-in-Got-clause-bounded :
    goal.returns-in_err-extend_from_slice-in-Got-clause-bounded
returns-in_err-extend_from_slice-in-Got-clause-bounded g c =
    let bytes = c.fill.bytes.items in
    let slice = c.read.new.buffer in
    let taken = bytes ++ take c.in-Got.count slice in
    let more = taken_length c.in-Got.count bytes slice c.in-Got.ensures.bytes.0 in
    let within : length taken ≤ c.args.most + 1 = omega (
      arith,
      more,
      c.in-Got.ensures.bytes.0,
      c.read.auto.buffer,
      c.min-room.ensures,
      length-take {A = ℕ},
    ) in (
      taken,
      (
        within,
        taken_more c.in-Got.count bytes slice (g.S.Source.left c.args.source.now)
            (g.S.Source.left c.fill.source) (g.S.Source.left c.read.new.self) c.fill.invariant.0
            c.in-Got.ensures.bytes.1,
      ),
    )

pub returns-in_err-extend_from_slice-in-Got-clause-reads :
    goal.returns-in_err-extend_from_slice-in-Got-clause-reads
returns-in_err-extend_from_slice-in-Got-clause-reads g c =
    let room = is_room c.args.most (length c.fill.bytes.items) c.min-room.result c.fill.buffer
    (omega (arith, c.fill-test.true)) c.fill.invariant.2 (omega (arith, c.min-room.ensures)) in
    let some : 0 < c.in-Got.count = search rules in
    unended (got_more g.S.Source.reads (c.args.most + 1) _ c.in-Got.count c.args.source.now c.fill.source
    c.read.new.self c.fill.bytes.items c.read.new.buffer c.fill.invariant.4 room some
    (omega (arith, c.in-Got.ensures.bytes.0, c.read.auto.buffer)) c.in-Got.ensures.bytes.0
    c.in-Got.ensures.step)

pub returns-clause-reads : goal.returns-clause-reads
returns-clause-reads g c = unended c.fill.invariant.4
