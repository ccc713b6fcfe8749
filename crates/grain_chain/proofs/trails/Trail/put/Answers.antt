use Rattle.grain_chain.proofs.Paths.{leading_put}
use Rattle.grain_chain.proofs.trails.Trail.put.Goals as goal

pub invariant_of-self : goal.invariant_of-self
invariant_of-self c =
    leading_put c.self.inside.outer.items c.self.inside.here c.self.inside.path c.args.value
    c.put_at.new.self c.put_at.ensures.left c.self.invariant
