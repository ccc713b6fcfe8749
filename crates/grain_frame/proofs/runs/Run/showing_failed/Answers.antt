-- The fault is passed over, or raised.
use Rattle.std.proofs.Common.{◌≡◌, ◌∙◌, refl, sym, true}
use Rattle.grain_fault.specs.Classes.{catchable}
use Rattle.grain_fault.specs.Problems.{problem_of}
use Rattle.grain_frame.specs.lemmas.Arms.{implements_as}
use Rattle.grain_frame.proofs.runs.Run.showing_failed.Goals as goal

pub returns-then-is_catchable : goal.returns-then-is_catchable
returns-then-is_catchable g c =
    let p = c.args.context.program.now in
    let engine = c.args.context.engine.now in
    let s = c.args.self.now in
    let yes : catchable (problem_of c.args.fault) ≡ true =
    sym c.is_catchable.ensures ∙ c.if-is_catchable.true in
    record {
      implements = λ host. implements_as g.H.Host.law p engine c.args.frame.now
          c.append_type.new.frame s s c.append_type.new.self c.args.steps.now
          c.append_type.new.steps host host refl (c.append_type.ensures.implements host)
          (λ stop u place. rw yes refl);
    }
