use Rattle.std.proofs.Common.{arith, refl}
use Rattle.grain_stack.proofs.Nesting.{traced_sound}
use Rattle.grain_stack.proofs.stacks.Stacks.put_trace.Goals as goal

pub invariant_of-self : goal.invariant_of-self
invariant_of-self c =
    traced_sound c.self.inside _ c.self.invariant refl refl refl refl refl refl
    (omega (arith, c.in_ok-reserve.ensures.ok, c.len.ensures.value))
