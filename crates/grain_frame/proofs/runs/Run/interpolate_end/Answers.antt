-- The buffer is a cell that is lent, no text, or a text.
use Rattle.std.proofs.Common.{◌≡◌, ◌-◌, [], Some, None, length, refl, arith, rules}
use Rattle.std.proofs.lemmas.List.{length-take}
use Rattle.grain_value.specs.Cells.{flat}
use Rattle.grain_value.specs.Looking.{text_of}
use Rattle.grain_value.specs.Operands.{below, top}
use Rattle.grain_value.specs.Writing.{type_name_of}
use Rattle.grain_value.specs.declared.values.Dynamic.TheVariants as dynamic
use Rattle.grain_fault.specs.Problems.{Plain, DataRace, Malformed}
use Rattle.grain_fault.specs.declared.faults.MalformedKind.TheVariants as kind
use Rattle.grain_program.specs.View.{position_of}
use Rattle.grain_means.specs.Rules.{race_text}
use Rattle.grain_frame.specs.lemmas.Arms.{implements_after}
use Rattle.grain_frame.specs.lemmas.Failing.{raises_here}
use Rattle.grain_frame.proofs.Appending.{under_none}
use Rattle.grain_frame.proofs.runs.Run.interpolate_end.Goals as goal

pub returns-in-None : goal.returns-in-None
returns-in-None g c =
    let p = c.args.context.program.now in
    let s = c.args.self.now in
    let f = c.args.frame.now in
    let none : flat s.cells (top s.stacks.operands).value ≡ None = search rules in
    record {
      performs = λ host. raises_here g.H.Host.law p c.args.context.engine.now f s
          c.data_race.new.self c.args.steps.now c.data_race.new.steps host
          (Plain (DataRace (race_text [])) (position_of p f.address)) c.data_race.result
          c.data_race.ensures c.requires.ready.inside (λ stop u place. rw none refl);
    }

pub buffer_not_text-requires-clause-readable : goal.buffer_not_text-requires-clause-readable
buffer_not_text-requires-clause-readable g c =
    let s = c.args.self.now in
    let v = c.in-Some.field-0.now in
    let read : flat s.cells (top s.stacks.operands).value ≡ Some v = search rules in
    rw (under_none s.stacks.operands, read) refl

pub returns-in-Some : goal.returns-in-Some
returns-in-Some g c =
    let p = c.args.context.program.now in
    let s = c.args.self.now in
    let f = c.args.frame.now in
    let v = c.in-Some.field-0.now in
    let read : flat s.cells (top s.stacks.operands).value ≡ Some v = search rules in
    let none : text_of v ≡ None = search rules in
    record {
      performs = λ host. raises_here g.H.Host.law p c.args.context.engine.now f s
          c.buffer_not_text.new.self c.args.steps.now c.buffer_not_text.new.steps host
          (Plain (Malformed (kind.BufferNotText (type_name_of v))) (position_of p f.address))
          c.buffer_not_text.result (c.buffer_not_text.ensures v (rw (under_none s.stacks.operands) read))
          c.requires.ready.inside (λ stop u place. rw (read, none) refl);
    }

pub returns : goal.returns
returns g c =
    let p = c.args.context.program.now in
    let engine = c.args.context.engine.now in
    let s = c.args.self.now in
    let f = c.args.frame.now in
    let ops = s.stacks.operands in
    let t = c.in-Some-Text.field-0-0 in
    let read : flat s.cells (top ops).value ≡ Some (dynamic.Text t) = search rules in
    let same : c.in_ok-text.text ≡ dynamic.Text t = search rules in
    let left : c.take_flat.new.self ≡ record s {
      stacks = record s.stacks { operands = below ops };
    } = search rules in
    let long = length-take (length ops - 1) ops in
    record {
      performs = λ host. implements_after g.H.Host.law p engine f c.push_on.new.frame s
          c.push_on.new.self c.args.steps.now c.push_on.new.steps
          (record s.stacks { operands = below ops }) (below ops) host host refl
          (rw (left, same) at (c.push_on.ensures.implements p engine host))
          (λ stop u place. rw read refl) (λ b i. i) (omega (arith, long)) (omega (arith, long));
    }
