-- The operand is no text, no name of functions, or a name of which a pointer is made.
use Rattle.std.proofs.Common.{◌≡◌, ◌-◌, [], Some, None, true, false, length, refl, arith, rules}
use Rattle.std.proofs.lemmas.List.{length-take}
use Rattle.std.specs.Prelude.{codes}
use Rattle.grain_value.specs.Cells.{flat}
use Rattle.grain_value.specs.Looking.{text_of}
use Rattle.grain_value.specs.Operands.{below, top}
use Rattle.grain_value.specs.Pointers.{is_pointer_name}
use Rattle.grain_value.specs.Writing.{type_name_of}
use Rattle.grain_value.specs.declared.values.Dynamic.TheVariants as dynamic
use Rattle.grain_fault.specs.Problems.{Plain, FunctionNotFound, MismatchDataType}
use Rattle.grain_program.specs.View.{position_of}
use Rattle.grain_frame.specs.lemmas.Arms.{implements_after}
use Rattle.grain_frame.specs.lemmas.Failing.{raises_here}
use Rattle.grain_frame.proofs.runs.Run.make_fn_ptr.Goals as goal

pub returns-in-Some : goal.returns-in-Some
returns-in-Some g c =
    let p = c.args.context.program.now in
    let s = c.args.self.now in
    let f = c.args.frame.now in
    let v = c.in-Some.field-0.now in
    let read : flat s.cells (top s.stacks.operands).value ≡ Some v = search rules in
    let none : text_of v ≡ None = search rules in
    record {
      performs = λ host. raises_here g.H.Host.law p c.args.context.engine.now f s
          c.not_a_name.new.self c.args.steps.now c.not_a_name.new.steps host
          (Plain (MismatchDataType (codes "string") (type_name_of v)) (position_of p f.address))
          c.not_a_name.result (c.not_a_name.ensures v read) c.requires.ready.inside
          (λ stop u place. rw (read, none) refl);
    }

pub returns-in-Ok : goal.returns-in-Ok
returns-in-Ok g c =
    let p = c.args.context.program.now in
    let engine = c.args.context.engine.now in
    let s = c.args.self.now in
    let f = c.args.frame.now in
    let ops = s.stacks.operands in
    let t = c.in-Some-Text.name in
    let read : flat s.cells (top ops).value ≡ Some (dynamic.Text t) = search rules in
    let fits : is_pointer_name t ≡ true = search rules in
    let made : c.in-Ok.pointer ≡ record { name = t; curry = [] } = search rules in
    let left : c.pop-name.new.self ≡ record s.stacks { operands = below ops } =
    c.pop-name.ensures.rest in
    let long = length-take (length ops - 1) ops in
    record {
      performs = λ host. implements_after g.H.Host.law p engine f c.push_on.new.frame s
          c.push_on.new.self c.args.steps.now c.push_on.new.steps c.pop-name.new.self (below ops)
          host host left (rw made at (c.push_on.ensures.implements p engine host))
          (λ stop u place. rw (read, fits, left) refl) (λ b i. i) (omega (arith, long))
          (omega (arith, long));
    }

pub returns-in-Err-BadName : goal.returns-in-Err-BadName
returns-in-Err-BadName g c =
    let p = c.args.context.program.now in
    let s = c.args.self.now in
    let f = c.args.frame.now in
    let t = c.in-Some-Text.name in
    let read : flat s.cells (top s.stacks.operands).value ≡ Some (dynamic.Text t) = search rules in
    let no : is_pointer_name t ≡ false = search rules in
    record {
      performs = λ host. raises_here g.H.Host.law p c.args.context.engine.now f s
          c.no_function_named.new.self c.args.steps.now c.no_function_named.new.steps host
          (Plain (FunctionNotFound t) (position_of p f.address)) c.no_function_named.result
          (c.no_function_named.ensures t read) c.requires.ready.inside
          (λ stop u place. rw (read, no) refl);
    }
