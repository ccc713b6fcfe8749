use Rattle.std.proofs.Common.{rules, refl, arith, ◌≡◌, ◌-◌, length, true, false, Some}
use Rattle.grain_value.specs.Operands.{top, below}
use Rattle.grain_value.specs.Cells.{flat}
use Rattle.grain_value.specs.Looking.{truth_of}
use Rattle.grain_means.specs.Rules.{agrees}
use Rattle.std.proofs.lemmas.List.{length-take}
use Rattle.grain_means.specs.Simulation.{stopped, world}
use Rattle.grain_means.specs.Means.{setup}
use Rattle.grain_frame.specs.Abstraction.{abstraction}
use Rattle.grain_frame.specs.lemmas.Arms.{implements_after, to_target, to_next}
use Rattle.grain_frame.specs.lemmas.Jumping.{if_jumps}
use Rattle.grain_frame.proofs.runs.Run.jump_if.Goals as goal

pub returns-then-agrees : goal.returns-then-agrees
returns-then-agrees g c =
    let read : flat c.args.self.now.cells (top c.args.self.now.stacks.operands).value
    ≡ Some c.in-Some.value.now = search rules in
    let truth : truth_of c.in-Some.value.now ≡ Some c.in-Some-as_bool.truth = search rules in
    let agreed : agrees c.args.wanted c.in-Some-as_bool.truth ≡ true = search rules in
    let long =
    length-take (length c.args.self.now.stacks.operands - 1) c.args.self.now.stacks.operands in
    record {
      implements = implements_after g.H.Host.law c.args.context.program.now
          c.args.context.engine.now c.args.frame.now c.jump_to.new.frame c.args.self.now
          c.jump_to.new.self c.args.steps.now c.jump_to.new.steps c.pop-value.new.self
          (below c.args.self.now.stacks.operands) c.args.host.now c.jump_to.new.host
          c.pop-value.ensures.rest c.jump_to.ensures.implements
          (λ stop u place.
          if_jumps (stopped
          (setup g.H.Host.law c.args.context.program.now c.args.context.engine.now) stop)
          c.args.frame.now c.args.self.now c.pop-value.new.self c.args.wanted c.args.target
          c.args.next c.in-Some.value.now c.in-Some-as_bool.truth place
          (world (abstraction c.args.self.now c.args.steps.now c.args.host.now) u) read truth agreed
          c.pop-value.ensures.rest)
          (to_target c.args.target c.args.next)
          (omega (arith, long)) (omega (arith, long));
    }

pub returns-in-Some-as_bool : goal.returns-in-Some-as_bool
returns-in-Some-as_bool g c =
    let read : flat c.args.self.now.cells (top c.args.self.now.stacks.operands).value
    ≡ Some c.in-Some.value.now = search rules in
    let truth : truth_of c.in-Some.value.now ≡ Some c.in-Some-as_bool.truth = search rules in
    let agreed : agrees c.args.wanted c.in-Some-as_bool.truth ≡ false = search rules in
    let long =
    length-take (length c.args.self.now.stacks.operands - 1) c.args.self.now.stacks.operands in
    record {
      implements = implements_after g.H.Host.law c.args.context.program.now
          c.args.context.engine.now c.args.frame.now c.go_on.new.frame c.args.self.now
          c.go_on.new.self c.args.steps.now c.go_on.new.steps c.pop-value.new.self
          (below c.args.self.now.stacks.operands) c.args.host.now c.args.host.now
          c.pop-value.ensures.rest
          (c.go_on.ensures.implements c.args.context.program.now c.args.context.engine.now
          c.args.host.now)
          (λ stop u place.
          rw (read, truth, agreed, c.pop-value.ensures.rest) refl)
          (to_next c.args.target c.args.next)
          (omega (arith, long)) (omega (arith, long));
    }
