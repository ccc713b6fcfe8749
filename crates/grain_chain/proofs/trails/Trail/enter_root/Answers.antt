use Rattle.std.proofs.Common.{List, sym, ◌∙◌, subst, refl}
use Rattle.grain_value.specs.View.{tree}
use Rattle.grain_value.specs.Paths.{Leads}
use Rattle.grain_value.specs.declared.values.Held.{Held}
use Rattle.grain_value.specs.declared.values.paths.PathStep.{PathStep}
use Rattle.grain_chain.specs.Standings.{AllLead}
use Rattle.grain_chain.specs.declared.origins.OuterRoot.{OuterRoot}
use Rattle.grain_chain.proofs.Paths.{lead_more}
use Rattle.grain_chain.proofs.trails.Trail.enter_root.Goals as goal

pub invariant_of-self : goal.invariant_of-self
invariant_of-self c =
    let aside : OuterRoot = record {
      root = c.replace-root.result;
      path = c.replace-path.result;
      step = c.args.step;
      origin = c.args.origin;
    } in
    let leads : Leads aside.path (tree aside.root.value) =
    subst (λ (path : List PathStep). Leads path (tree aside.root.value)) (sym c.replace-path.ensures.value)
    (subst (λ (h : Held). Leads c.self.inside.path (tree h.value)) (sym c.replace-root.ensures.value)
    c.self.invariant.leads) in
    record {
      leads = subst (λ (path : List PathStep). Leads path (tree c.replace-root.new.dest.value))
          (sym (c.replace-path.ensures.after ∙ c.new.ensures)) refl;
      outer = subst AllLead (sym c.in-Ok.ensures.items)
          (lead_more c.self.inside.outer.items aside c.self.invariant.outer leads);
    }
