use Rattle.std.proofs.Common.{subst, sym}
use Rattle.grain_value.specs.View.{tree}
use Rattle.grain_value.specs.Paths.{Leads}
use Rattle.grain_value.specs.declared.values.Held.{Held}
use Rattle.grain_chain.specs.Standings.{AllLead}
use Rattle.grain_chain.proofs.Paths.{lead_fewer}
use Rattle.grain_chain.proofs.trails.Trail.leave_root.Goals as goal

pub invariant_of-self-2 : goal.invariant_of-self-2
invariant_of-self-2 c =
    let fewer = lead_fewer c.pop.new.self.items c.in-Some.outer
    (subst AllLead c.in-Some.ensures.items c.self.invariant.outer) in
    record {
      leads = subst (λ (h : Held). Leads c.in-Some.outer.path (tree h.value))
          (sym c.replace-root.ensures.after) fewer.1;
      outer = fewer.0;
    }
