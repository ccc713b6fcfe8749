-- The buffer is a cell that is lent, no text, or a text, to which the text is not too much.
use Rattle.std.proofs.Common.{◌≡◌, ◌+◌, ◌-◌, ◌++◌, [], Some, None, true, false, length, refl, arith, rules}
use Rattle.std.specs.Prelude.{codes}
use Rattle.std.proofs.lemmas.List.{length-take}
use Rattle.grain_value.specs.Cells.{flat}
use Rattle.grain_value.specs.Looking.{text_of}
use Rattle.grain_value.specs.Operands.{below, under}
use Rattle.grain_value.specs.Sizes.{is_over}
use Rattle.grain_value.specs.Writing.{type_name_of}
use Rattle.grain_value.specs.declared.values.Dynamic.TheVariants as dynamic
use Rattle.grain_fault.specs.Problems.{Plain, DataRace, DataTooLarge, Malformed}
use Rattle.grain_fault.specs.declared.faults.MalformedKind.TheVariants as kind
use Rattle.grain_program.specs.View.{position_of}
use Rattle.grain_means.specs.Means.{setup}
use Rattle.grain_means.specs.Rules.{operand_under, race_text}
use Rattle.grain_means.specs.Simulation.{stopped, world}
use Rattle.grain_frame.specs.Abstraction.{abstraction, frame_in}
use Rattle.grain_frame.specs.lemmas.Arms.{implements_after}
use Rattle.grain_frame.specs.lemmas.Failing.{raises_here}
use Rattle.grain_frame.proofs.Appending.{appends, appends_lent, appends_to_none, appends_too_much, below_twice}
use Rattle.grain_frame.proofs.runs.Run.append.Goals as goal

pub returns-in-None : goal.returns-in-None
returns-in-None g c =
    let p = c.args.context.program.now in
    let engine = c.args.context.engine.now in
    let s = c.args.self.now in
    let f = c.args.frame.now in
    let none : flat s.cells (operand_under 1 s.stacks.operands).value ≡ None = search rules in
    record {
      implements = λ host. raises_here g.H.Host.law p engine f s c.data_race.new.self
          c.args.steps.now c.data_race.new.steps host
          (Plain (DataRace (race_text [])) (position_of p f.address)) c.data_race.result
          c.data_race.ensures c.requires.begins.inside
          (λ stop u place. appends_lent (stopped (setup g.H.Host.law p engine) stop)
          (frame_in f s place) (world (abstraction s c.args.steps.now host) u) c.args.next
          c.args.text.now none);
    }

pub returns-in-Some : goal.returns-in-Some
returns-in-Some g c =
    let p = c.args.context.program.now in
    let engine = c.args.context.engine.now in
    let s = c.args.self.now in
    let f = c.args.frame.now in
    let v = c.in-Some.field-0.now in
    let read : flat s.cells (operand_under 1 s.stacks.operands).value ≡ Some v = search rules in
    let none : text_of v ≡ None = search rules in
    record {
      implements = λ host. raises_here g.H.Host.law p engine f s c.buffer_not_text.new.self
          c.args.steps.now c.buffer_not_text.new.steps host
          (Plain (Malformed (kind.BufferNotText (type_name_of v))) (position_of p f.address))
          c.buffer_not_text.result (c.buffer_not_text.ensures v read) c.requires.begins.inside
          (λ stop u place. appends_to_none (stopped (setup g.H.Host.law p engine) stop)
          (frame_in f s place) (world (abstraction s c.args.steps.now host) u) c.args.next
          c.args.text.now v read none);
    }

pub returns-then-is_too_long : goal.returns-then-is_too_long
returns-then-is_too_long g c =
    let p = c.args.context.program.now in
    let engine = c.args.context.engine.now in
    let s = c.args.self.now in
    let f = c.args.frame.now in
    let b = c.in-Some-Text.buffer in
    let t = c.args.text.now in
    let read : flat s.cells (operand_under 1 s.stacks.operands).value ≡ Some (dynamic.Text b) =
    search rules in
    let over : is_over engine.limits.text (length b + length t) ≡ true = search rules in
    record {
      implements = λ host. raises_here g.H.Host.law p engine f s c.data_too_large.new.self
          c.args.steps.now c.data_too_large.new.steps host
          (Plain (DataTooLarge (codes "Length of string")) (position_of p f.address))
          c.data_too_large.result c.data_too_large.ensures c.requires.begins.inside
          (λ stop u place. appends_too_much (stopped (setup g.H.Host.law p engine) stop)
          (frame_in f s place) (world (abstraction s c.args.steps.now host) u) c.args.next t b
          read over);
    }

pub returns : goal.returns
returns g c =
    let p = c.args.context.program.now in
    let engine = c.args.context.engine.now in
    let s = c.args.self.now in
    let f = c.args.frame.now in
    let ops = s.stacks.operands in
    let b = c.in-Some-Text.buffer in
    let t = c.args.text.now in
    let read : flat s.cells (operand_under 1 ops).value ≡ Some (dynamic.Text b) = search rules in
    let within : is_over engine.limits.text (length b + length t) ≡ false = search rules in
    let less : c.take_flat.new.self ≡ record s {
      stacks = record s.stacks { operands = below (below ops) };
    } = search rules in
    let left : c.take_flat.new.self ≡ record s {
      stacks = record s.stacks { operands = under 2 ops };
    } = rw (below_twice ops c.requires.begins.operands) at less in
    let whole : c.push_str.new.self ≡ b ++ t = search rules in
    let long = length-take (length ops - 2) ops in
    record {
      implements = λ host. implements_after g.H.Host.law p engine f c.push_on.new.frame s
          c.push_on.new.self c.args.steps.now c.push_on.new.steps
          (record s.stacks { operands = under 2 ops }) (under 2 ops) host host refl
          (rw (left, whole) at (c.push_on.ensures.implements p engine host))
          (λ stop u place. appends (stopped (setup g.H.Host.law p engine) stop)
          (frame_in f s place) (world (abstraction s c.args.steps.now host) u) c.args.next t b
          read within) (λ b i. i) (omega (arith, long)) (omega (arith, long));
    }
