-- The first spare slot is used.
use Rattle.std.proofs.Common.{arith}
use Rattle.grain_value.proofs.Spares.{used}
use Rattle.grain_value.proofs.scopes.Scope.put_or_give_back.Goals as goal

pub invariant_of-self : goal.invariant_of-self
invariant_of-self c = used c.self.inside.height c.self.inside.slots.items c.args.entry (omega arith)
    c.self.invariant
