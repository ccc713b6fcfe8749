-- The frame has a `this`, and goes on.
use Rattle.std.proofs.Common.{◌≡◌, Some, refl, rules}
use Rattle.grain_frame.specs.Abstraction.{this_of}
use Rattle.grain_frame.specs.lemmas.Arms.{implements_as}
use Rattle.grain_frame.proofs.runs.Run.require_this.Goals as goal

pub returns-in-Some : goal.returns-in-Some
returns-in-Some g c =
    let p = c.args.context.program.now in
    let engine = c.args.context.engine.now in
    let s = c.args.self.now in
    let there : this_of s ≡ Some c.in-Some.field-0.now = search rules in
    record {
      implements = λ host. implements_as g.H.Host.law p engine c.args.frame.now
          c.go_on.new.frame s s c.go_on.new.self c.args.steps.now c.go_on.new.steps host host refl
          (c.go_on.ensures.implements p engine host) (λ stop u place. rw there refl);
    }
