use Rattle.std.proofs.Common.{rules, arith, ◌≡◌, drop, length}
use Rattle.grain_streams.specs.Puts.{none, another}
use Rattle.grain_streams.proofs.Readings.{took_some}
use Rattle.grain_streams.proofs.Writes.{piece_more}
use Rattle.grain_streams.proofs.outputs.write_all.Goals as goal

pub write-init : goal.write-init
write-init g c = (search rules, search rules, search rules, none)

pub write-preserved : goal.write-preserved
write-preserved g c =
    let r : c.split_at.result.1.now ≡ drop c.write.done c.args.text.now = search rules in
    let put = rw r at c.in-Took.ensures.step in
    let some = c.in-Took.ensures.bytes.1 in
    let within = c.in-Took.ensures.bytes.0 in (
      piece_more c.write.done c.in-Took.count c.args.text.now c.split_at.result.1.now
          (g.K.Sink.written c.args.sink.now) (g.K.Sink.written c.write.sink)
          (g.K.Sink.written c.put.new.self) r c.write.invariant.0 c.in-Took.ensures.bytes.2,
      omega (arith, c.in-Took.ensures.count),
      omega (arith, c.in-Took.ensures.bytes.0, c.split_at.ensures.back_len),
      another c.write.invariant.3
          (took_some c.in-Took.count (length c.split_at.result.1.now) some
          (omega (arith, c.write-test.true, c.split_at.ensures.back_len)))
          (omega (arith, within, c.split_at.ensures.back_len)) put,
    )

pub returns-in-Failed-clause-put_part : goal.returns-in-Failed-clause-put_part
returns-in-Failed-clause-put_part g c =
    let r : c.split_at.result.1.now ≡ drop c.write.done c.args.text.now = search rules in
    record {
      count = c.write.done;
      before = c.write.sink;
      part = omega (arith, c.write-test.true);
      took = c.write.invariant.3;
      failed = rw r at c.in-Failed.ensures.step;
    }

pub returns-clause-put_whole : goal.returns-clause-put_whole
returns-clause-put_whole g c =
    let all : c.write.done ≡ length c.args.text.now =
    omega (arith, c.write-test.false, c.write.invariant.2) in
    rw all at c.write.invariant.3
