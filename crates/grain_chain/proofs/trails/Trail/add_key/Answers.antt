use Rattle.std.proofs.Common.{◌≡◌, ℕ, ◌∷◌, [], List, ◌++◌, sym, ap, ◌∙◌, subst}
use Rattle.grain_value.specs.View.{tree}
use Rattle.grain_value.specs.Paths.{at, put_value, Leads}
use Rattle.grain_value.specs.declared.values.Dynamic.{Dynamic}
use Rattle.grain_value.specs.declared.values.Dynamic.TheVariants as dynamic
use Rattle.grain_value.specs.declared.values.paths.PathStep.{PathStep}
use Rattle.grain_value.specs.declared.values.paths.PathStep.TheVariants.{Key}
use Rattle.grain_means.specs.Walks.{with_key}
use Rattle.grain_chain.specs.Standings.{Standing, Stands, put_there, key_added}
use Rattle.grain_chain.proofs.Paths.{leads_put, leading_twice, put_back, unchanged, twice, one_value}
use Rattle.grain_chain.proofs.Keys.{added_leads}
use Rattle.grain_chain.proofs.trails.Trail.add_key.Goals as goal

pub put_at-requires : goal.put_at-requires
put_at-requires c =
    leads_put c.self.inside.path c.self.inside.here.value dynamic.Unit c.take_at-map.new.self
    c.take_at-map.ensures.left c.self.invariant.leads

pub invariant_of-self : goal.invariant_of-self
invariant_of-self c =
    let path = c.self.inside.path in
    let d = c.self.inside.here.value in
    let s : Standing = record { outer = c.self.inside.outer.items; here = c.self.inside.here; path = path } in
    let es = c.requires.0 in
    let here : Stands s (dynamic.Map es) =
    subst (λ (u : Standing). Stands u (dynamic.Map es)) (sym c.self.view_is) c.requires.1 in
    let same = one_value (at path (tree d)) c.take_at-map.result (dynamic.Map es)
    c.take_at-map.ensures.taken here in
    let made : c.insert_key-added.new.map ≡ with_key c.args.key (dynamic.Map es) =
    c.in-Ok.ensures ∙ ap (with_key c.args.key) same in
    let is = twice path d dynamic.Unit c.insert_key-added.new.map c.take_at-map.new.self c.put_at.new.self
    c.self.invariant.leads c.take_at-map.ensures.left c.put_at.ensures.left in
    let longer = c.in_ok-path.ensures ∙ ap (λ (k : List ℕ). path ++ Key k ∷ []) c.in_ok-copy.ensures in
    record {
      leads = subst (λ (p : List PathStep). Leads p (tree c.put_at.new.self)) (sym longer)
          (added_leads path c.args.key d c.put_at.new.self es here
          (is ∙ ap (λ (m : Dynamic). put_value path m d) made));
      outer = c.self.invariant.outer;
    }

pub invariant_of-self-in-Err-1 : goal.invariant_of-self-in-Err-1
invariant_of-self-in-Err-1 c =
    leading_twice c.self.inside.outer.items c.self.inside.here c.self.inside.path dynamic.Unit
    c.insert_key-added.new.map c.take_at-map.new.self c.put_at.new.self
    c.take_at-map.ensures.left c.put_at.ensures.left c.self.invariant

pub returns-in-Ok-clause-added : goal.returns-in-Ok-clause-added
returns-in-Ok-clause-added c = λ v stands.
    let s : Standing = record {
      outer = c.self.inside.outer.items;
      here = c.self.inside.here;
      path = c.self.inside.path;
    } in
    let here : Stands s v = subst (λ (u : Standing). Stands u v) (sym c.self.view_is) stands in
    let same = one_value (at s.path (tree s.here.value)) c.take_at-map.result v
    c.take_at-map.ensures.taken here in
    let back = put_back s dynamic.Unit c.insert_key-added.new.map c.take_at-map.new.self c.put_at.new.self
    c.self.invariant c.take_at-map.ensures.left c.put_at.ensures.left in
    let made : c.insert_key-added.new.map ≡ with_key c.args.key v =
    c.in-Ok.ensures ∙ ap (with_key c.args.key) same in
    ap (λ (u : Standing). let t : Standing = record u { path = c.in_ok-path.path } in t) back
    ∙ ap (λ (p : List PathStep). let t : Standing = record (put_there s c.insert_key-added.new.map)
    { path = p } in t)
    (c.in_ok-path.ensures ∙ ap (λ (k : List ℕ). s.path ++ Key k ∷ []) c.in_ok-copy.ensures)
    ∙ ap (λ (d : Dynamic). let t : Standing = record (put_there s d)
    { path = s.path ++ Key c.args.key ∷ [] } in t) made
    ∙ ap (λ (u : Standing). key_added u c.args.key v) c.self.view_is

pub returns-in-Err-clause-unchanged : goal.returns-in-Err-clause-unchanged
returns-in-Err-clause-unchanged c =
    let s : Standing = record {
      outer = c.self.inside.outer.items;
      here = c.self.inside.here;
      path = c.self.inside.path;
    } in
    put_back s dynamic.Unit c.insert_key-added.new.map c.take_at-map.new.self c.put_at.new.self
    c.self.invariant c.take_at-map.ensures.left c.put_at.ensures.left
    ∙ ap (put_there s) c.in-Err.ensures
    ∙ unchanged s c.take_at-map.result c.take_at-map.ensures.taken
    ∙ c.self.view_is
