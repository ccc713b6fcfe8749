-- The operands go after the values of the pointer under them.
use Rattle.std.proofs.Common.{◌≡◌, ◌∙◌, ◌+◌, ◌-◌, ◌++◌, [], None, Some, length, refl, arith, rules}
use Rattle.std.proofs.lemmas.List.{length-take}
use Rattle.std.specs.Prelude.{codes}
use Rattle.grain_value.specs.Cells.{flat}
use Rattle.grain_value.specs.Operands.{arguments, under}
use Rattle.grain_value.specs.Writing.{type_name_of}
use Rattle.grain_fault.specs.Problems.{Plain, DataRace, MismatchDataType}
use Rattle.grain_program.specs.View.{position_of}
use Rattle.grain_means.specs.Rules.{operand_under, race_text, trees_in}
use Rattle.grain_means.specs.Means.{setup}
use Rattle.grain_means.specs.Simulation.{stopped, world}
use Rattle.grain_frame.specs.Abstraction.{abstraction, frame_in}
use Rattle.grain_frame.specs.lemmas.Arms.{implements_after}
use Rattle.grain_frame.specs.lemmas.Failing.{raises_here}
use Rattle.grain_frame.proofs.Currying.{curry_adds, curry_refused}
use Rattle.grain_frame.proofs.runs.Run.curry.Goals as goal

pub returns-in-Lent : goal.returns-in-Lent
returns-in-Lent g c =
    let p = c.args.context.program.now in
    let s = c.args.self.now in
    let f = c.args.frame.now in
    let none : flat s.cells (operand_under c.args.count s.stacks.operands).value ≡ None =
    rw c.from-count.ensures at c.in-Lent.ensures in
    record {
      performs = λ host. raises_here g.H.Host.law p c.args.context.engine.now f s
          c.data_race.new.self c.args.steps.now c.data_race.new.steps host
          (Plain (DataRace (race_text [])) (position_of p f.address)) c.data_race.result
          c.data_race.ensures c.requires.ready.inside (λ stop u place. rw none refl);
    }

pub returns-in-Other : goal.returns-in-Other
returns-in-Other g c =
    let p = c.args.context.program.now in
    let engine = c.args.context.engine.now in
    let s = c.args.self.now in
    let f = c.args.frame.now in
    let n = c.args.count in
    let ops = s.stacks.operands in
    let stands = c.in-Other.ensures in
    let v = stands.0 in
    let read : flat s.cells (operand_under n ops).value ≡ Some v =
    rw c.from-count.ensures at stands.1 in
    let x = Plain (MismatchDataType (codes "Fn") (type_name_of v)) (position_of p f.address) in
    record {
      performs = λ host. raises_here g.H.Host.law p engine f s c.not_a_pointer.new.self
          c.args.steps.now
          c.not_a_pointer.new.steps host x c.not_a_pointer.result (c.not_a_pointer.ensures v
          stands.1)
          c.requires.ready.inside
          (λ stop u place. curry_refused (stopped (setup g.H.Host.law p engine) stop) n c.args.next
          (frame_in f s place) (world (abstraction s c.args.steps.now host) u) v read stands.2);
    }

pub returns : goal.returns
returns g c =
    let p = c.args.context.program.now in
    let engine = c.args.context.engine.now in
    let s = c.args.self.now in
    let f = c.args.frame.now in
    let n = c.args.count in
    let ops = s.stacks.operands in
    let there = c.in_ok-pointer.ensures in
    let q = c.in_ok-pointer.pointer in
    let read : flat s.cells (operand_under n ops).value ≡ Some there.0 =
    rw c.from-count.ensures at there.1 in
    let added : c.add_to.new.pointer ≡ record q { curry = q.curry ++ trees_in (arguments n ops) } =
    rw c.from-count.ensures at c.in_ok-add_to.ensures in
    let cut : c.cut.new.self ≡ record s.stacks { operands = under (n + 1) ops } = search rules in
    let long = length-take (length ops - (n + 1)) ops in
    record {
      performs = λ host. implements_after g.H.Host.law p engine f c.push_on.new.frame s
          c.push_on.new.self c.args.steps.now c.push_on.new.steps c.cut.new.self
          (under (n + 1) ops) host host cut (c.push_on.ensures.implements p engine host)
          (λ stop u place. curry_adds (stopped (setup g.H.Host.law p engine) stop) n c.args.next
          (frame_in f s place) (world (abstraction s c.args.steps.now host) u) there.0 q read
          there.2 ∙ rw (added, cut) refl)
          (λ b i. i) (omega (arith, long)) (omega (arith, long));
    }
