use Rattle.std.proofs.Common.{◌∙◌, false, length, refl, ap, arith, rules}
use Rattle.grain_stack.proofs.Belonging.{entered_view}
use Rattle.grain_stack.specs.declared.floors.Floor.{Floor}
use Rattle.grain_stack.specs.declared.stacks.Stacks.TheInside.{Inside}
use Rattle.grain_stack.proofs.Nesting.{same_sound, entered_sound}
use Rattle.grain_stack.proofs.stacks.Stacks.enter.Goals as goal

pub invariant_of-self : goal.invariant_of-self
invariant_of-self c =
    same_sound c.self.inside _ c.self.invariant c.reserve.ensures.operands c.reserve.ensures.slots
    refl refl refl refl refl (omega arith) refl

pub invariant_of-self-in_err-reserve-2 : goal.invariant_of-self-in_err-reserve-2
invariant_of-self-in_err-reserve-2 c =
    same_sound c.self.inside _ c.self.invariant c.reserve.ensures.operands c.reserve.ensures.slots
    refl refl refl refl c.reserve-2.ensures.items c.reserve-2.ensures.capacity refl

pub invariant_of-self-in_err-push : goal.invariant_of-self-in_err-push
invariant_of-self-in_err-push c =
    same_sound c.self.inside _ c.self.invariant c.reserve.ensures.operands c.reserve.ensures.slots
    refl refl refl c.in_err-push.ensures c.reserve-2.ensures.items
    c.reserve-2.ensures.capacity refl

pub invariant_of-self-2 : goal.invariant_of-self-2
invariant_of-self-2 c =
    entered_sound c.self.inside _ _ c.self.invariant c.reserve.ensures.operands
    c.reserve.ensures.slots
    (c.len-self-inside.ensures.value ∙ ap length c.reserve.ensures.operands)
    (omega (
      arith,
      c.len-self-inside.ensures.value,
      ap length c.reserve.ensures.operands,
      c.in_ok-reserve.ensures.room,
    )) refl c.in_ok-push.ensures refl refl refl
    c.reserve-2.ensures.items
    (omega (arith, c.in_ok-reserve-2.ensures.ok, c.len.ensures.value, c.reserve-2.ensures.len)) refl

pub returns : goal.returns
returns c =
    let entered : Inside = record c.self.inside {
      slots = c.reserve.new.self;
      bottom = c.len-self-inside.result;
      room = c.from-room.result;
      noted = false;
      outer = c.push.new.self;
      trace = c.reserve-2.new.self;
      entered = c.saturating_add-self-inside.result;
    } in
    let floor : Floor = record {
      bottom = c.self.inside.bottom;
      room = c.self.inside.room;
      noted = c.self.inside.noted;
    } in
    rw (← c.self.view_is)
    (entered_view c.self.inside entered floor c.args.operands c.self.invariant.ordered
    c.reserve.ensures.operands
    (c.len-self-inside.ensures.value ∙ ap length c.reserve.ensures.operands) c.from-room.ensures
    refl c.in_ok-push.ensures refl refl refl refl c.reserve-2.ensures.items (search rules))
