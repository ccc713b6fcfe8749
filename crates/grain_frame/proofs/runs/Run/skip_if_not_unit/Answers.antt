use Rattle.std.proofs.Common.{rules, refl, arith, ◌≡◌, true, false}
use Rattle.grain_value.specs.Operands.{top}
use Rattle.grain_value.specs.Looking.{is_unit}
use Rattle.grain_frame.specs.lemmas.Arms.{implements_after, to_target, to_next}
use Rattle.grain_frame.proofs.runs.Run.skip_if_not_unit.Goals as goal

pub returns-then-is_unit : goal.returns-then-is_unit
returns-then-is_unit g c =
    let unit : is_unit (top c.args.self.now.stacks.operands).value ≡ true = search rules in
    record {
      performs = implements_after g.H.Host.law c.args.context.program.now c.args.context.engine.now
          c.args.frame.now c.go_on.new.frame c.args.self.now c.go_on.new.self c.args.steps.now
          c.go_on.new.steps c.args.self.now.stacks c.args.self.now.stacks.operands c.args.host.now
          c.args.host.now refl
          (c.go_on.ensures.implements c.args.context.program.now c.args.context.engine.now
          c.args.host.now)
          (λ stop u place. rw unit refl) (to_next c.args.target c.args.next)
          (omega (arith, c.requires.ready.operands)) (omega arith);
    }

pub returns-else-is_unit : goal.returns-else-is_unit
returns-else-is_unit g c =
    let unit : is_unit (top c.args.self.now.stacks.operands).value ≡ false = search rules in
    record {
      performs = implements_after g.H.Host.law c.args.context.program.now c.args.context.engine.now
          c.args.frame.now c.jump_to.new.frame c.args.self.now c.jump_to.new.self c.args.steps.now
          c.jump_to.new.steps c.args.self.now.stacks c.args.self.now.stacks.operands c.args.host.now
          c.jump_to.new.host refl c.jump_to.ensures.implements
          (λ stop u place. rw unit refl) (to_target c.args.target c.args.next)
          (omega (arith, c.requires.ready.operands)) (omega arith);
    }
