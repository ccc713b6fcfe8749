-- The first spare slot is used.
use Rattle.std.proofs.Common.{arith}
use Rattle.grain_value.proofs.Spares.{used}
use Rattle.grain_value.proofs.scopes.Scope.push_int.Goals as goal

pub invariant_of-self-2 : goal.invariant_of-self-2
invariant_of-self-2 c = used c.self.inside.height c.self.inside.slots.items _ (omega arith)
    c.self.invariant
