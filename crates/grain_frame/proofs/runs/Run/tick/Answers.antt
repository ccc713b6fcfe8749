use Rattle.std.proofs.Common.{rules, refl, inl, ◌≡◌, true, false}
use Rattle.grain_means.specs.Rules.{onward, stepped}
use Rattle.grain_frame.specs.Abstraction.{frame_in, is_out}
use Rattle.grain_frame.specs.lemmas.Charging.{charged_on, charge_failed, charge_wants}
use Rattle.grain_frame.proofs.runs.Run.tick.Goals as goal

pub returns-in_err-charge : goal.returns-in_err-charge
returns-in_err-charge g c =
    let f = c.args.frame.now in
    let s = c.args.self.now in
    let out : is_out c.from_residual.result ≡ true = search rules in
    record {
      performs = charge_wants g.H.Host.law c.args.context.program.now
          c.args.context.engine.now
          f s c.charge.new.self c.args.steps.now c.charge.new.steps c.args.host.now
          c.charge.new.host
          (λ m place.
          onward m (frame_in f s place)
          (stepped (frame_in f s place) c.args.next s.stacks.operands))
          c.charge.ensures.before c.requires.ready.inside (λ stop u place. refl)
          c.in_err-charge.field-0.0 c.from_residual.result out c.in_err-charge.ensures.same
          c.in_err-charge.ensures.run;
    }

pub returns-then-not-branch : goal.returns-then-not-branch
returns-then-not-branch g c =
    let f = c.args.frame.now in
    let s = c.args.self.now in
    let no : c.in_ok-charge.field-0 ≡ false = search rules in
    record {
      performs = charge_failed g.H.Host.law c.args.context.program.now
          c.args.context.engine.now
          f s c.charge.new.self c.args.steps.now c.charge.new.steps c.args.host.now
          c.charge.new.host
          (λ m place.
          onward m (frame_in f s place)
          (stepped (frame_in f s place) c.args.next s.stacks.operands))
          c.charge.ensures.before c.requires.ready.inside (λ stop u place. refl)
          c.in_ok-charge.field-0 no c.in_ok-charge.ensures.same c.in_ok-charge.ensures.run;
    }

pub returns : goal.returns
returns g c =
    let f = c.args.frame.now in
    let s = c.args.self.now in
    let taken : c.in_ok-charge.field-0 ≡ true = search rules in
    rw c.mark.ensures
    record {
      performs = charged_on g.H.Host.law c.args.context.program.now
          c.args.context.engine.now
          f s c.charge.new.self c.args.steps.now c.charge.new.steps c.args.host.now
          c.charge.new.host
          c.args.next c.in_ok-charge.field-0 taken c.in_ok-charge.ensures.same
          c.in_ok-charge.ensures.run
          c.charge.ensures.before c.requires.ready.inside (inl refl) (λ stop u place. refl);
    }
