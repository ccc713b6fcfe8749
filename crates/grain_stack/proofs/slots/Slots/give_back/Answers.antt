-- The values go back one by one.
use Rattle.std.proofs.Common.{◌≡◌, ◌∙◌, ◌+◌, ◌-◌, ℕ, List, length, drop, refl, sym, ap, arith}
use Rattle.grain_value.specs.declared.values.Held.{Held}
use Rattle.grain_stack.specs.Filled.{Filled}
use Rattle.grain_stack.specs.Regained.{regained}
use Rattle.grain_stack.proofs.Lists.{set_length}
use Rattle.grain_stack.proofs.Regaining.{one_regained, all_regained, no_entry, held_length, held_front}
use Rattle.grain_stack.proofs.slots.Slots.give_back.Goals as goal

filled_is : (v : Filled) (hs : List Held) (n : ℕ) → v.operands ≡ hs → v.slots ≡ n →
    v ≡ record { operands = hs; slots = n }
filled_is v hs n eh en = rw (← eh, ← en) refl

pub unreachable-requires : goal.unreachable-requires
unreachable-requires c =
    omega (
      arith,
      no_entry (c.len.result - c.args.count + c.back.index) c.back.scope c.in-None.ensures.value,
      c.back.invariant.entries,
      c.back-test.true,
      c.requires.entries,
      c.len.ensures.value,
    )

pub back-preserved : goal.back-preserved
back-preserved c =
    let i = c.back.invariant in
    let n : ℕ = c.args.first + c.back.index in
    let b : ℕ = c.len.result - c.args.count + c.back.index in
    let ops = ap (λ (v : Filled). v.operands) c.put_value.ensures in
    let left : Held = record { value = c.take.new.self; read_only = c.in-Some.held.now.read_only } in
    record {
      back = rw ops (one_regained n (c.args.first + (c.back.index + 1)) b
          (c.len.result - c.args.count + (c.back.index + 1)) c.back.scope
          c.back.self.operands c.in-Some.held.now left c.take.result (omega arith) (omega arith)
          c.in-Some.ensures.value c.take.ensures.value) ∙ i.back;
      slots = ap (λ (v : Filled). v.slots) c.put_value.ensures ∙ i.slots;
      high = ap length ops ∙ set_length c.back.self.operands n _ ∙ i.high;
      entries = held_length c.back.scope b left ∙ i.entries;
      front = held_front (c.len.result - c.args.count) b c.back.scope left (omega arith) ∙ i.front;
    }

pub returns-clause-operands : goal.returns-clause-operands
returns-clause-operands c =
    let i = c.back.invariant in
    let b : ℕ = c.len.result - c.args.count + c.back.index in
    let all : regained (c.args.first + c.back.index) (drop b c.back.scope) c.back.self.operands
    ≡ c.back.self.operands =
    all_regained (c.args.first + c.back.index) b c.back.scope c.back.self.operands
    (omega (
      arith,
      i.entries,
      c.len.ensures.value,
      c.requires.entries,
      c.back-test.false,
      c.back.auto.index-end,
    )) in
    filled_is c.back.self _ _ (sym all ∙ i.back
    ∙ ap (λ (n : ℕ). regained c.args.first (drop (n - c.args.count) c.args.scope.now)
    c.args.self.now.operands) c.len.ensures.value) i.slots
