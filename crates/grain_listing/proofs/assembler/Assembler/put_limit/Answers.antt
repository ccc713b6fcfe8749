use Rattle.std.specs.Prelude.{is_ok}
use Rattle.grain_listing.proofs.AllowedLimits.{allowed_after}
use Rattle.grain_listing.proofs.assembler.Assembler.put_limit.Goals as goal

pub invariant_of-self : goal.invariant_of-self
invariant_of-self c = record {
  allowed = allowed_after (is_ok c.push.result) c.args.self.now.limits.items c.push.new.self.items
      c.in-Ok.limit c.push.ensures.items c.args.self.now.allowed c.in-Ok.ensures.least;
}
