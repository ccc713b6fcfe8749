-- The elements can be read, and memory is there for them.
use Rattle.std.proofs.Common.{◌≡◌, ◌-◌, [], None, length, true, refl, arith, rules}
use Rattle.std.proofs.lemmas.List.{length-take}
use Rattle.grain_value.specs.Operands.{arguments, under}
use Rattle.grain_fault.specs.Problems.{Plain, DataRace}
use Rattle.grain_program.specs.View.{position_of}
use Rattle.grain_means.specs.Rules.{flat_all, race_text, trees_in}
use Rattle.grain_frame.specs.Abstraction.{is_out}
use Rattle.grain_frame.specs.lemmas.Arms.{implements_after}
use Rattle.grain_frame.specs.lemmas.Failing.{raises_here}
use Rattle.grain_frame.proofs.Flattening.{all_there}
use Rattle.grain_frame.proofs.Totalled.{wants_with_less}
use Rattle.grain_frame.proofs.runs.Run.make_array.Goals as goal

pub returns-then-not-are_readable : goal.returns-then-not-are_readable
returns-then-not-are_readable g c =
    let p = c.args.context.program.now in
    let s = c.args.self.now in
    let f = c.args.frame.now in
    let none : flat_all s.cells (arguments c.args.count s.stacks.operands) ≡ None = search rules in
    record {
      performs = λ host. raises_here g.H.Host.law p c.args.context.engine.now f s
          c.data_race.new.self c.args.steps.now c.data_race.new.steps host
          (Plain (DataRace (race_text [])) (position_of p f.address)) c.data_race.result
          c.data_race.ensures c.requires.ready.inside (λ stop u place. rw none refl);
    }

pub returns : goal.returns
returns g c =
    let p = c.args.context.program.now in
    let engine = c.args.context.engine.now in
    let s = c.args.self.now in
    let f = c.args.frame.now in
    let n = c.args.count in
    let ops = s.stacks.operands in
    let read = all_there (flat_all s.cells (arguments n ops)) (search rules) in
    let made : c.in_ok-array.array ≡ trees_in read.0 =
    c.in_ok-array.ensures.taken read.0 (rw c.from-count.ensures read.1) in
    let left : c.take_array.new.self ≡ record s {
      stacks = record s.stacks { operands = under n ops };
    } = rw c.from-count.ensures at c.in_ok-array.ensures.left in
    let long = length-take (length ops - n) ops in
    record {
      performs = λ host. implements_after g.H.Host.law p engine f c.literal_made.new.frame s
          c.literal_made.new.self c.args.steps.now c.literal_made.new.steps
          (record s.stacks { operands = under n ops }) (under n ops) host host refl
          (rw (left, c.from-count.ensures) at (c.literal_made.ensures.implements p engine host))
          (λ stop u place. rw (read.1, made) refl) (λ b i. i) (omega (arith, long))
          (omega (arith, long));
    }

pub returns-in_err-array : goal.returns-in_err-array
returns-in_err-array g c =
    let p = c.args.context.program.now in
    let s = c.args.self.now in
    let f = c.args.frame.now in
    let read = all_there (flat_all s.cells (arguments c.args.count s.stacks.operands)) (search rules)
    in
    let out : is_out c.from_residual.result ≡ true = search rules in
    record {
      performs = λ host. wants_with_less g.H.Host.law p c.args.context.engine.now f s
          c.take_array.new.self c.args.steps.now host c.take_array.new.self.stacks.operands
          c.from_residual.result out c.requires.ready.inside c.take_array.ensures.others
          (λ stop u place halts. rw (read.1, halts) refl);
    }
