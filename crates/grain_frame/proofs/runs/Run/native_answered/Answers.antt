-- The host has answered to the call of a native.
use Rattle.std.proofs.Common.{◌≡◌, ◌-◌, Err, Ok, length, refl, sym, true, arith, rules}
use Rattle.std.proofs.lemmas.List.{length-take}
use Rattle.grain_value.specs.Operands.{read_write, under}
use Rattle.grain_value.specs.declared.values.Dynamic.TheVariants as dynamic
use Rattle.grain_means.specs.Rules.{pushed, raised}
use Rattle.grain_means.specs.Means.{setup}
use Rattle.grain_frame.specs.Abstraction.{frame_in, is_out}
use Rattle.grain_frame.specs.declared.runs.Progress.TheVariants as progress
use Rattle.grain_frame.specs.declared.waiting.Rest.TheVariants as rest
use Rattle.grain_frame.specs.lemmas.Bound.{as_bound}
use Rattle.grain_frame.specs.lemmas.Performing.{led, led_out, native_waits}
use Rattle.grain_frame.proofs.Serving.{native_raised, native_wants, serves, serves_by}
use Rattle.grain_host.specs.Answers.{reply_of}
use Rattle.grain_frame.proofs.Handing.{native_pushed}
use Rattle.grain_frame.proofs.runs.Run.native_answered.Goals as goal

pub returns-in_err-value : goal.returns-in_err-value
returns-in_err-value g c =
    let p = c.args.context.program.now in
    let engine = c.args.context.engine.now in
    let s = c.args.self.now in
    let f = c.args.frame.now in
    let count = c.args.count in
    let ops = under count s.stacks.operands in
    let m = setup g.H.Host.law p engine in
    let out : is_out c.from_residual.result ≡ true = search rules in
    record {
      implements = λ asked host name args key values left seeks replies.
          let did = serves g.H.Host.law s c.args.steps.now asked c.position-position.result m name
          args (frame_in f s)
          (λ n place v w. pushed n (frame_in f s place) c.args.next ops v w)
          (λ n place x w. raised n (frame_in f s place) x w) refl
          (λ place. sym c.position-position.ensures) key values
          (Err c.in_err-value.field-0.0) s c.served.new.steps host seeks
          (serves_by g.H.Host.law s c.args.steps.now c.served.new.steps asked host key values
          c.position-position.result (reply_of c.args.answer) left (Err c.in_err-value.field-0.0)
          c.in_err-value.ensures.ends replies) in
          led_out c.in_err-value.field-0.0 c.from_residual.result out
          (as_bound (native_wants g.H.Host.law p engine f s s
          c.args.steps.now c.served.new.steps asked host
          (λ n place v w. pushed n (frame_in f s place) c.args.next ops v w)
          (λ n place x w. raised n (frame_in f s place) x w)
          s.scope s.cells refl refl c.served.ensures.before
          c.requires.inside c.in_err-value.field-0.0 (Err c.in_err-value.field-0.0) refl did));
    }

pub returns-in-Fault : goal.returns-in-Fault
returns-in-Fault g c =
    let p = c.args.context.program.now in
    let engine = c.args.context.engine.now in
    let s = c.args.self.now in
    let f = c.args.frame.now in
    let count = c.args.count in
    let ops = under count s.stacks.operands in
    let m = setup g.H.Host.law p engine in
    rw c.raise.ensures.progress
    (record {
      implements = λ asked host name args key values left seeks replies.
          let did = serves g.H.Host.law s c.args.steps.now asked c.position-position.result m name
          args (frame_in f s)
          (λ n place v w. pushed n (frame_in f s place) c.args.next ops v w)
          (λ n place x w. raised n (frame_in f s place) x w) refl
          (λ place. sym c.position-position.ensures) key values
          (Ok c.in_ok-value.field-0) s c.served.new.steps host seeks
          (serves_by g.H.Host.law s c.args.steps.now c.served.new.steps asked host key values
          c.position-position.result (reply_of c.args.answer) left (Ok c.in_ok-value.field-0)
          c.in_ok-value.ensures.ends replies) in
          led (Ok progress.Failed) (as_bound (native_raised g.H.Host.law p engine f s
          s c.args.steps.now c.served.new.steps asked
          host
          (λ n place v w. pushed n (frame_in f s place) c.args.next ops v w)
          (λ n place x w. raised n (frame_in f s place) x w)
          s.scope s.cells refl refl c.served.ensures.before
          c.requires.inside c.in-Fault.fault c.raise.new.self c.raise.new.steps
          (rw c.in-Fault.is at did) c.raise.ensures.after c.raise.ensures.marked));
    })

pub returns-in-Value : goal.returns-in-Value
returns-in-Value g c =
    let p = c.args.context.program.now in
    let engine = c.args.context.engine.now in
    let s = c.args.self.now in
    let f = c.args.frame.now in
    let count = c.args.count in
    let ops = under count s.stacks.operands in
    let m = setup g.H.Host.law p engine in
    let cut : c.cut.new.self ≡ record s.stacks { operands = ops } =
    search rules in
    record {
      implements = λ asked host name args key values left seeks replies.
          let did = serves g.H.Host.law s c.args.steps.now asked c.position-position.result m name
          args (frame_in f s)
          (λ n place v w. pushed n (frame_in f s place) c.args.next ops v w)
          (λ n place x w. raised n (frame_in f s place) x w) refl
          (λ place. sym c.position-position.ensures) key values
          (Ok c.in_ok-value.field-0) s c.served.new.steps host seeks
          (serves_by g.H.Host.law s c.args.steps.now c.served.new.steps asked host key values
          c.position-position.result (reply_of c.args.answer) left (Ok c.in_ok-value.field-0)
          c.in_ok-value.ensures.ends replies) in
          led (Ok c.push_on.result) (as_bound (native_pushed g.H.Host.law p engine f s
          s c.args.steps.now c.served.new.steps asked
          host refl c.served.ensures.before
          c.requires.inside c.push_on.new.frame c.push_on.new.self c.push_on.new.steps
          c.in-Value.value c.args.next count ops c.cut.new.self (rw c.in-Value.is at did) cut
          (c.push_on.ensures.implements p engine host)
          (omega (arith, length-take (length s.stacks.operands - count) s.stacks.operands))));
    }

pub returns-in-Asks : goal.returns-in-Asks
returns-in-Asks g c =
    let p = c.args.context.program.now in
    let engine = c.args.context.engine.now in
    let s = c.args.self.now in
    let f = c.args.frame.now in
    let count = c.args.count in
    let ops = under count s.stacks.operands in
    let m = setup g.H.Host.law p engine in
    record {
      implements = λ asked host name args key values left seeks replies.
          let did = serves g.H.Host.law s c.args.steps.now asked c.position-position.result m name
          args (frame_in f s)
          (λ n place v w. pushed n (frame_in f s place) c.args.next ops v w)
          (λ n place x w. raised n (frame_in f s place) x w) refl
          (λ place. sym c.position-position.ensures) key values
          (Ok c.in_ok-value.field-0) s c.served.new.steps host seeks
          (serves_by g.H.Host.law s c.args.steps.now c.served.new.steps asked host key values
          c.position-position.result (reply_of c.args.answer) left (Ok c.in_ok-value.field-0)
          c.in_ok-value.ensures.ends replies) in
          native_waits g.H.Host.law p engine f s s c.args.steps.now
          c.served.new.steps asked host
          refl c.served.ensures.before c.requires.inside
          (read_write dynamic.Unit) refl c.in-Asks.asked (rest.Push count c.args.next) refl (
            c.requires.inside,
            c.requires.operands,
            c.requires.room,
            c.requires.ahead,
            refl,
            refl,
            refl,
          ) (rw c.in-Asks.is at did) c.wait.new.self c.wait.result c.wait.ensures.after
          c.wait.ensures.waits;
    }
