use Rattle.std.proofs.Common.{rules, refl, sym, ap, subst, arith, ◌≡◌, ◌∙◌, ◌-◌, ℕ, [], None, Ok, Some, length}
use Rattle.grain_value.specs.Operands.{under, arguments}
use Rattle.grain_fault.specs.Problems.{Plain, DataRace}
use Rattle.grain_ops.specs.Answers.{FailsSo}
use Rattle.grain_ops.specs.Outcomes.{NotBuiltIn, Gave}
use Rattle.grain_means.specs.Rules.{flat_all, operated, race_text}
use Rattle.std.proofs.lemmas.List.{length-take}
use Rattle.grain_frame.specs.lemmas.Arms.{implements_after}
use Rattle.grain_program.specs.View.{name_of, position_of}
use Rattle.grain_means.specs.Means.{setup}
use Rattle.grain_means.specs.Simulation.{stopped, world}
use Rattle.grain_frame.specs.Abstraction.{abstraction, frame_in}
use Rattle.grain_frame.specs.lemmas.Bound.{as_bound}
use Rattle.grain_frame.specs.lemmas.Performing.{led, led_exactly, waits_as}
use Rattle.grain_frame.specs.lemmas.Failing.{outcome_raises, raises_here}
use Rattle.grain_frame.proofs.Flattening.{all_there}
use Rattle.grain_frame.proofs.Handing.{operator_is, operator_raises, operator_wants}
use Rattle.grain_frame.proofs.runs.Run.call_op.Goals as goal

pub returns-in-Done : goal.returns-in-Done
returns-in-Done g c =
    let read = all_there (flat_all c.args.self.now.cells
    (arguments c.args.count c.args.self.now.stacks.operands)) (search rules) in
    let gives : operated c.args.context.program.now c.args.context.engine.now c.args.token
    read.0 ≡ Gave c.in-Done.value =
    search rules in
    let cut : c.cut.new.self ≡ record c.args.self.now.stacks
    { operands = under c.args.count c.args.self.now.stacks.operands } = search rules in
    let long =
    length-take (length c.args.self.now.stacks.operands - c.args.count)
    c.args.self.now.stacks.operands in
    record {
      performs = led (Ok c.push_on.result) (as_bound (implements_after g.H.Host.law
          c.args.context.program.now c.args.context.engine.now c.args.frame.now
          c.push_on.new.frame c.args.self.now c.push_on.new.self c.args.steps.now
          c.push_on.new.steps c.cut.new.self (under c.args.count c.args.self.now.stacks.operands)
          c.args.host.now c.args.host.now cut
          (c.push_on.ensures.implements c.args.context.program.now c.args.context.engine.now
          c.args.host.now)
          (λ stop u place. rw (read.1, gives, cut) refl) (λ b i. i) (omega (arith, long))
          (omega (arith, long))));
    }

pub returns-in-Failed : goal.returns-in-Failed
returns-in-Failed g c =
    let p = c.args.context.program.now in
    let engine = c.args.context.engine.now in
    let s = c.args.self.now in
    let f = c.args.frame.now in
    let read = all_there (flat_all s.cells (arguments c.args.count s.stacks.operands)) (search
    rules)
    in
    let o = operated p engine c.args.token read.0 in
    let fails : FailsSo c.in-Failed.fault o = search rules in
    record {
      performs = led_exactly c.operator_failed.result c.of-in-Failed.result
          c.of-in-Failed.ensures (outcome_raises g.H.Host.law p engine f s c.operator_failed.new.self
          c.args.steps.now c.operator_failed.new.steps c.args.host.now o c.operator_failed.result
          (c.operator_failed.ensures o fails) c.requires.ready.inside
          (λ stop u place is. operator_raises (stopped (setup g.H.Host.law p engine) stop)
          c.args.name c.args.count c.args.token c.args.next (frame_in f s place)
          (world (abstraction s c.args.steps.now c.args.host.now) u) read.0 read.1 is)
          (λ stop u place halts. operator_wants (stopped (setup g.H.Host.law p engine) stop)
          c.args.name c.args.count c.args.token c.args.next (frame_in f s place)
          (world (abstraction s c.args.steps.now c.args.host.now) u) read.0 read.1 halts));
    }

pub returns-in-NotBuiltIn : goal.returns-in-NotBuiltIn
returns-in-NotBuiltIn g c =
    let p = c.args.context.program.now in
    let engine = c.args.context.engine.now in
    let s = c.args.self.now in
    let f = c.args.frame.now in
    let ops = s.stacks.operands in
    let read = all_there (flat_all s.cells (arguments c.args.count ops)) (search rules) in
    let gives : operated p engine c.args.token read.0 ≡ NotBuiltIn = search rules in
    let named : c.name-name.result.now ≡ name_of p c.args.name =
    c.name-name.ensures ∙ ap (name_of p) c.from.ensures in
    let here : flat_all s.cells (arguments c.from-arguments.result ops) ≡ Some read.0 =
    subst (λ (k : ℕ). flat_all s.cells (arguments k ops) ≡ Some read.0)
    (sym c.from-arguments.ensures) read.1 in
    record {
      performs = waits_as (rw c.from-arguments.ensures at
          (c.native_on.ensures.implements read.0 here))
          (λ stop u place bound.
          operator_is (stopped (setup g.H.Host.law p engine) stop) c.args.name c.args.count
          c.args.token c.args.next (frame_in f s place)
          (world (abstraction s c.args.steps.now c.args.host.now) u) read.0 read.1 gives
          ∙ rw named refl);
    }

pub returns-then-not-are_readable : goal.returns-then-not-are_readable
returns-then-not-are_readable g c =
    let p = c.args.context.program.now in
    let s = c.args.self.now in
    let f = c.args.frame.now in
    let none : flat_all s.cells (arguments c.args.count s.stacks.operands) ≡ None =
    search rules in
    record {
      performs = led_exactly c.data_race.result c.of.result c.of.ensures
          (raises_here g.H.Host.law p c.args.context.engine.now f s
          c.data_race.new.self c.args.steps.now c.data_race.new.steps c.args.host.now
          (Plain (DataRace (race_text [])) (position_of p f.address)) c.data_race.result
          c.data_race.ensures c.requires.ready.inside (λ stop u place. rw none refl));
    }
