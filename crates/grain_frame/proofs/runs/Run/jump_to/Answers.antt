use Rattle.std.proofs.Common.{rules, refl, inl, ◌≡◌, ◌≤◌, true, false}
use Rattle.grain_means.specs.Rules.{onward, stepped}
use Rattle.grain_means.specs.Means.{setup}
use Rattle.grain_means.specs.Simulation.{stopped, world}
use Rattle.grain_frame.specs.Abstraction.{abstraction, frame_in, is_out}
use Rattle.grain_frame.specs.lemmas.Charging.{charged_on, charge_failed, charge_wants, jump_costs}
use Rattle.grain_frame.proofs.runs.Run.jump_to.Goals as goal

pub returns-in_err-charge : goal.returns-in_err-charge
returns-in_err-charge g c =
    let f = c.args.frame.now in
    let s = c.args.self.now in
    let behind : c.args.target ≤ f.address = search rules in
    let out : is_out c.from_residual.result ≡ true = search rules in
    record {
      implements = charge_wants g.H.Host.law c.args.context.program.now
          c.args.context.engine.now
          f s c.charge.new.self c.args.steps.now c.charge.new.steps c.args.host.now
          c.charge.new.host
          (λ m place.
          onward m (frame_in f s place)
          (stepped (frame_in f s place) c.args.target s.stacks.operands))
          c.charge.ensures.before c.requires.inside
          (λ stop u place.
          jump_costs
          (stopped (setup g.H.Host.law c.args.context.program.now c.args.context.engine.now) stop)
          (frame_in f s place)
          (stepped (frame_in f s place) c.args.target s.stacks.operands)
          (world (abstraction s c.args.steps.now c.args.host.now) u) behind)
          c.in_err-charge.field-0.0 c.from_residual.result out c.in_err-charge.ensures.same
          c.in_err-charge.ensures.run;
    }

pub returns-then-not-branch : goal.returns-then-not-branch
returns-then-not-branch g c =
    let f = c.args.frame.now in
    let s = c.args.self.now in
    let behind : c.args.target ≤ f.address = search rules in
    let no : c.in_ok-charge.field-0 ≡ false = search rules in
    record {
      implements = charge_failed g.H.Host.law c.args.context.program.now
          c.args.context.engine.now
          f s c.charge.new.self c.args.steps.now c.charge.new.steps c.args.host.now
          c.charge.new.host
          (λ m place.
          onward m (frame_in f s place)
          (stepped (frame_in f s place) c.args.target s.stacks.operands))
          c.charge.ensures.before c.requires.inside
          (λ stop u place.
          jump_costs
          (stopped (setup g.H.Host.law c.args.context.program.now c.args.context.engine.now) stop)
          (frame_in f s place)
          (stepped (frame_in f s place) c.args.target s.stacks.operands)
          (world (abstraction s c.args.steps.now c.args.host.now) u) behind)
          c.in_ok-charge.field-0 no c.in_ok-charge.ensures.same c.in_ok-charge.ensures.run;
    }

pub returns : goal.returns
returns g c =
    let f = c.args.frame.now in
    let s = c.args.self.now in
    let behind : c.args.target ≤ f.address = search rules in
    let taken : c.in_ok-charge.field-0 ≡ true = search rules in
    rw c.mark-2.ensures
    record {
      implements = charged_on g.H.Host.law c.args.context.program.now
          c.args.context.engine.now
          f s c.charge.new.self c.args.steps.now c.charge.new.steps c.args.host.now
          c.charge.new.host
          c.args.target c.in_ok-charge.field-0 taken c.in_ok-charge.ensures.same
          c.in_ok-charge.ensures.run
          c.charge.ensures.before c.requires.inside (inl refl)
          (λ stop u place.
          jump_costs
          (stopped (setup g.H.Host.law c.args.context.program.now c.args.context.engine.now) stop)
          (frame_in f s place)
          (stepped (frame_in f s place) c.args.target s.stacks.operands)
          (world (abstraction s c.args.steps.now c.args.host.now) u) behind);
    }
