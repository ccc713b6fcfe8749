-- One argument more is bound.
use Rattle.std.specs.Prelude.{slice_set}
use Rattle.std.proofs.Common.{◌≡◌, ◌<◌, ◌≤◌, ◌+◌, ◌-◌, ◌++◌, ◌∙◌, ℕ, [], ◌∷◌, length, take, drop, refl, ap, arith, length-append}
use Rattle.std.proofs.lemmas.List.{take-append-le}
use Rattle.std.proofs.Math.Seq.{take-length}
use Rattle.grain_value.specs.declared.values.Held.{Held}
use Rattle.grain_value.specs.declared.scopes.Entry.{Entry}
use Rattle.grain_value.specs.Scopes.{new_entry}
use Rattle.grain_value.specs.Operands.{read_write, bound_entries}
use Rattle.grain_stack.specs.Filled.{Filled, operand_at}
use Rattle.grain_stack.proofs.Lists.{set_length}
use Rattle.grain_stack.proofs.Bound.{kept_front, bound_more}
use Rattle.grain_stack.proofs.Regaining.{all_regained, one_moved}
use Rattle.grain_stack.proofs.slots.Slots.bind_arguments.Goals as goal

pub bind-init : goal.bind-init
bind-init c =
    let first : ℕ = c.len.result - length c.args.params.now in
    record {
      scope = ap (λ (n : ℕ). c.args.scope.now
          ++ bound_entries c.args.names.now c.args.params.now (drop n c.args.self.now.operands))
          (let same : first + 0 ≡ first = omega arith in same);
      front = take-length c.args.scope.now;
      entries = omega arith;
      back = all_regained first (length c.args.scope.now) c.args.scope.now
          c.args.self.now.operands refl;
      below = refl;
      height = refl;
      slots = refl;
    }

pub bind-preserved : goal.bind-preserved
bind-preserved c =
    let i = c.bind.invariant in
    let o = c.in-Ok.ensures.others in
    let xs = c.bind.self.operands in
    let first : ℕ = c.len.result - length c.args.params.now in
    let place : ℕ = first + c.bind.index in
    let held : Held = record (operand_at place xs) { value = o.0 } in
    let entry : Entry = new_entry c.at.result.now (read_write (operand_at place xs).value) in
    let ops : c.move_to.new.self.operands ≡ slice_set xs place held =
    ap (λ (v : Filled). v.operands) o.1 in
    let inside : place < length xs =
    omega (arith, c.requires.there, c.len.ensures.value, i.height, c.bind-test.true) in
    let more : c.move_to.new.scope ≡ c.bind.scope ++ entry ∷ [] = c.in-Ok.ensures.scope in
    let long : length c.args.scope.now ≤ length c.bind.scope = omega (arith, i.entries) in
    record {
      scope = bound_more c.bind.scope c.move_to.new.scope c.args.names.now c.args.params.now
          xs c.move_to.new.self.operands c.bind.index first held c.at.result.now
          c.bind-test.true inside c.at.ensures more ops ∙ i.scope;
      front = ap (take (length c.args.scope.now)) more
          ∙ take-append-le (length c.args.scope.now) c.bind.scope (entry ∷ []) long ∙ i.front;
      entries = omega (arith, ap length more, length-append c.bind.scope (entry ∷ []), i.entries);
      back = one_moved first place (length c.args.scope.now) c.bind.scope c.move_to.new.scope entry
          xs c.move_to.new.self.operands o.0 long (omega (arith, i.entries)) inside refl more ops
          ∙ i.back;
      below = kept_front first place c.args.self.now.operands xs c.move_to.new.self.operands held
          (omega arith) ops i.below;
      height = ap length ops ∙ set_length xs place held ∙ i.height;
      slots = ap (λ (v : Filled). v.slots) o.1 ∙ i.slots;
    }
