-- The host's native on the operands, as they are read.
use Rattle.std.proofs.Common.{◌≡◌, ◌∙◌, ◌∷◌, ◌+◌, ◌-◌, [], Err, None, Ok, Some, length, refl, sym, true, arith, rules}
use Rattle.std.proofs.lemmas.List.{length-take}
use Rattle.std.specs.Prelude.{is_some}
use Rattle.grain_value.specs.Operands.{arguments, under}
use Rattle.grain_host.specs.Law as reply
use Rattle.grain_program.specs.View.{position_of}
use Rattle.grain_means.specs.Rules.{flat_all, pushed, raised}
use Rattle.grain_means.specs.Means.{setup}
use Rattle.grain_means.specs.Simulation.{stopped, world}
use Rattle.grain_frame.specs.Abstraction.{abstraction, frame_in, is_out}
use Rattle.grain_frame.specs.declared.native_calls.NativeEnd.TheVariants as native_end
use Rattle.grain_frame.specs.lemmas.Bound.{as_bound}
use Rattle.grain_frame.specs.lemmas.Failing.{native_stops, wants_memory}
use Rattle.grain_frame.specs.lemmas.Performing.{led, led_out}
use Rattle.grain_frame.proofs.Serving.{may_be_called, serves, serves_by}
use Rattle.grain_frame.proofs.Flattening.{all_there, last_read}
use Rattle.grain_frame.proofs.Handing.{native_pushed}
use Rattle.grain_frame.proofs.runs.Run.native_on.Goals as goal

pub returns-in_err-arguments : goal.returns-in_err-arguments
returns-in_err-arguments g c =
    let p = c.args.context.program.now in
    let engine = c.args.context.engine.now in
    let s = c.args.self.now in
    let f = c.args.frame.now in
    let ops = under c.args.count s.stacks.operands in
    let out : is_out c.from_residual.result ≡ true = search rules in
    record {
      implements = λ args are. led_out c.in_err-arguments.field-0.0 c.from_residual.result out
          (as_bound (wants_memory g.H.Host.law p engine f s c.args.steps.now c.args.host.now
          (Err c.in_err-arguments.field-0.0) refl c.requires.inside (λ stop w place halts.
          let m = stopped (setup g.H.Host.law p engine) stop in
          native_stops m c.args.name.now None args (frame_in f s place)
          (world (abstraction s c.args.steps.now c.args.host.now) w)
          (λ v w1. pushed m (frame_in f s place) c.args.next ops v w1)
          (raised m (frame_in f s place)) halts (λ y. rw halts refl))));
    }

pub not_callable-requires-clause-described : goal.not_callable-requires-clause-described
not_callable-requires-clause-described g c =
    let s = c.args.self.now in
    let count = c.args.count in
    let readable : is_some (flat_all s.cells (arguments count s.stacks.operands)) ≡ true =
    search rules in
    let read = all_there (flat_all s.cells (arguments count s.stacks.operands)) readable in (
      read.0,
      c.in_ok-arguments.ensures read.0 (last_read s.cells count s.stacks.operands
          c.frame_operands-operands.result.now read.0 c.frame_operands-operands.ensures read.1),
    )

pub returns-in_default : goal.returns-in_default
returns-in_default g c =
    let s = c.args.self.now in
    let f = c.args.frame.now in
    let count = c.args.count in
    let ops = under count s.stacks.operands in
    record {
      implements = λ args are.
          let describes = c.in_ok-arguments.ensures args (last_read s.cells count s.stacks.operands
          c.frame_operands-operands.result.now args c.frame_operands-operands.ensures are) in
          c.not_callable.ensures.implements args
          (λ m place v w1. pushed m (frame_in f s place) c.args.next ops v w1)
          (c.args.next ∷ []) count 1 describes;
    }

pub returns : goal.returns
returns g c =
    let s = c.args.self.now in
    let count = c.args.count in
    record {
      implements = λ args are.
          let describes = c.in_ok-arguments.ensures args (last_read s.cells count s.stacks.operands
          c.frame_operands-operands.result.now args c.frame_operands-operands.ensures are) in
          let seeks = may_be_called g.H.Host.law c.args.host.now c.args.name.now args
          c.in_ok-arguments.arguments
          (position_of c.args.context.program.now c.args.frame.now.address) c.in-Some.key describes
          (sym c.callable.ensures ∙ c.in-Some.is) in
          c.native_answered.ensures.implements c.args.host.now c.call.new.self c.args.name.now args
          c.in-Some.key c.in_ok-arguments.arguments.values c.call.new.args seeks
          c.call.ensures;
    }

pub returns-in-Done : goal.returns-in-Done
returns-in-Done g c =
    let p = c.args.context.program.now in
    let engine = c.args.context.engine.now in
    let s = c.args.self.now in
    let f = c.args.frame.now in
    let n = c.args.steps.now in
    let q = position_of p f.address in
    let count = c.args.count in
    let ops = under count s.stacks.operands in
    let m = setup g.H.Host.law p engine in
    let values = c.in_ok-arguments.arguments.values in
    let key = c.in-Some.key in
    let value = c.in-Done.value in
    let passed = record n { passed = n.passed + 1 + 1 } in
    let marked : c.mark-in-Done.new.self ≡ passed = search rules in
    let cut : c.cut.new.self ≡ record s.stacks { operands = ops } = search rules in
    record {
      implements = λ args are.
          let describes = c.in_ok-arguments.ensures args (last_read s.cells count s.stacks.operands
          c.frame_operands-operands.result.now args c.frame_operands-operands.ensures are) in
          let seeks = may_be_called g.H.Host.law c.args.host.now c.args.name.now args
          c.in_ok-arguments.arguments q key describes (sym c.callable.ensures ∙ c.in-Some.is) in
          let did = serves g.H.Host.law s n c.args.host.now q m c.args.name.now args (frame_in f s)
          (λ n place v w. pushed n (frame_in f s place) c.args.next ops v w)
          (λ n place x w. raised n (frame_in f s place) x w) refl (λ place. refl) key values
          (Ok (native_end.Value value)) s c.mark-in-Done.new.self c.call.new.self seeks
          (serves_by g.H.Host.law s n c.mark-in-Done.new.self c.args.host.now c.call.new.self key
          values q (Some (reply.Done value)) c.call.new.args (Ok (native_end.Value value))
          (refl, marked) (rw c.in-Done.is at c.call.ensures)) in
          led (Ok c.push_on.result) (as_bound (native_pushed g.H.Host.law p engine f s s n
          c.mark-in-Done.new.self c.args.host.now c.call.new.self refl (rw marked refl)
          c.requires.inside c.push_on.new.frame c.push_on.new.self c.push_on.new.steps value
          c.args.next count ops c.cut.new.self did cut
          (c.push_on.ensures.implements p engine c.call.new.self)
          (omega (arith, length-take (length s.stacks.operands - count) s.stacks.operands))));
    }
