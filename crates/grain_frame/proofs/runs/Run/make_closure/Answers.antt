-- The pointer that is made is the meaning's.
use Rattle.std.proofs.Common.{◌≡◌, ◌∙◌, refl, ap}
use Rattle.grain_program.specs.View.{name_of}
use Rattle.grain_frame.specs.lemmas.Arms.{implements_as}
use Rattle.grain_frame.proofs.runs.Run.make_closure.Goals as goal

pub returns : goal.returns
returns g c =
    let p = c.args.context.program.now in
    let engine = c.args.context.engine.now in
    let s = c.args.self.now in
    let f = c.args.frame.now in
    let named : c.in_ok-name.name ≡ name_of p c.args.name =
    c.in_ok-name.ensures ∙ (c.name.ensures ∙ ap (name_of p) c.from.ensures) in
    record {
      performs = λ host. implements_as g.H.Host.law p engine f c.push_on.new.frame s s
          c.push_on.new.self c.args.steps.now c.push_on.new.steps host host refl
          (rw (named, c.new-curry.ensures) at (c.push_on.ensures.implements p engine host))
          (λ stop u place. refl);
    }
