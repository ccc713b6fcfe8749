use Rattle.grain_value.proofs.Pairs.{ascending}
use Rattle.grain_value.proofs.values.Map.len.Goals as goal

pub returns-clause-ascending : goal.returns-clause-ascending
returns-clause-ascending c = rw (← c.self.view_is) (ascending _ c.len.ensures.ordered)
