use Rattle.std.proofs.Common.{◌≡◌, ◌<◌, ◌∙◌, List, length, take, sym, ap, arith}
use Rattle.grain_stack.specs.Views.{StackFrame, StacksView}
use Rattle.grain_stack.specs.Filled.{Filled}
use Rattle.grain_stack.specs.Floors.{frames_on, floors, belongings}
use Rattle.grain_stack.proofs.Lists.{length_front}
use Rattle.grain_stack.proofs.Nesting.{room_below}
use Rattle.grain_stack.proofs.stacks.Stacks.settle_value.Goals as goal

pub push-requires : goal.push-requires
push-requires c =
    let outer : frames_on (take c.self.inside.bottom c.self.inside.slots.operands)
    (belongings c.self.inside) (floors c.self.inside) ≡ c.args.self.now.outer =
    ap (λ (v : StacksView). v.outer) c.self.view_is ∙ ap (λ (v : StacksView). v.outer)
    c.take_value-value.ensures.rest in
    let free : c.self.inside.bottom < c.self.inside.slots.slots =
    room_below c.self.inside c.self.invariant (rw outer c.requires.entered)
    (λ (first : StackFrame) (others : List StackFrame) e.
    c.requires.room first others (sym outer ∙ e)) in
    record {
      room = omega (
        arith,
        free,
        ap (λ (v : Filled). length v.operands) c.truncate.ensures,
        ap (λ (v : Filled). v.slots) c.truncate.ensures,
        length_front c.self.inside.bottom c.self.inside.slots.operands c.self.invariant.bottom,
      );
    }
