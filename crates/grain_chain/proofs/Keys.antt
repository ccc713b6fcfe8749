-- A key that is added to a map, and the way to it.
use Rattle.std.proofs.Common.{◌≡◌, ℕ, List, [], ◌∷◌, ◌++◌, Bool, cond, Some, None, Ok, is_ok, refl, ap, ◌∙◌}
use Rattle.std.specs.Ordering.{nat_cmp, match_ordering, is_eq}
use Rattle.std.specs.declared.cmp.Ordering.{Ordering}
use Rattle.std.specs.declared.cmp.Ordering.TheVariants.{Less, Equal, Greater}
use Rattle.std.specs.Cmp.Lexicographic.{slice_cmp}
use Rattle.std.specs.Map.{lookup}
use Rattle.std.specs.BTreeMap.{is_at}
use Rattle.std.proofs.lemmas.Cmp.{tied_itself, nat_list_cmp_total}
use Rattle.grain_value.specs.Tree.{Tree, unit}
use Rattle.grain_value.specs.View.{tree}
use Rattle.grain_value.specs.Maps.{Entries, entry_at, put_entry}
use Rattle.grain_value.specs.Paths.{at, put, put_value, keyed, Leads}
use Rattle.grain_value.specs.laws.Same.{tree-value_of}
use Rattle.grain_value.specs.laws.PathLaws.{at-put}
use Rattle.grain_value.specs.laws.PathSteps.{child-dict, at-step}
use Rattle.grain_value.specs.declared.values.Dynamic.{Dynamic}
use Rattle.grain_value.specs.declared.values.Dynamic.TheVariants as dynamic
use Rattle.grain_value.specs.declared.values.paths.PathStep.{PathStep}
use Rattle.grain_value.specs.declared.values.paths.PathStep.TheVariants.{Key}
use Rattle.grain_means.specs.lemmas.PlaceLaws.{at-further}

abbrev test : List ℕ → List ℕ → Bool
test k = is_at (slice_cmp nat_cmp k)

step : (k : List ℕ) (v : Tree) (e : List ℕ × Tree) (es : Entries) (o : Ordering) →
    slice_cmp nat_cmp k e.0 ≡ o → entry_at k (put_entry k v es) ≡ Some v →
    lookup (test k) (match_ordering o ((k, v) ∷ e ∷ es) ((e.0, v) ∷ es) (e ∷ put_entry k v es)) ≡ Some v
step k v e es Less h r =
    ap (λ (q : Ordering). cond (is_eq q) (Some v) (lookup (test k) (e ∷ es)))
    (tied_itself nat_list_cmp_total k)
step k v e es Equal h r = ap (λ (q : Ordering). cond (is_eq q) (Some v) (lookup (test k) es)) h
step k v e es Greater h r =
    ap (λ (q : Ordering). cond (is_eq q) (Some e.1) (lookup (test k) (put_entry k v es))) h ∙ r

-- what was put at a key is there
pub entry_put : (k : List ℕ) (v : Tree) (es : Entries) → entry_at k (put_entry k v es) ≡ Some v
entry_put k v [] =
    ap (λ (q : Ordering). cond (is_eq q) (Some v) None) (tied_itself nat_list_cmp_total k)
entry_put k v (e ∷ es) = step k v e es (slice_cmp nat_cmp k e.0) refl (entry_put k v es)

-- a step to a key that is there
pub leads_key : (path : List PathStep) (k : List ℕ) (d : Dynamic) (es : Entries) (t : Tree) →
    at path (tree d) ≡ Ok (tree (dynamic.Map es)) → entry_at k es ≡ Some t →
    Leads (path ++ Key k ∷ []) (tree d)
leads_key path k d es t h there =
    ap is_ok (at-further path (Key k ∷ []) (tree d) (tree (dynamic.Map es)) h
    ∙ at-step (Key k) [] (tree (dynamic.Map es)) t (child-dict es k ∙ ap keyed there))

-- and to one that was added
pub added_leads : (path : List PathStep) (k : List ℕ) (d e : Dynamic) (es : Entries) →
    at path (tree d) ≡ Ok (tree (dynamic.Map es)) →
    e ≡ put_value path (dynamic.Map (put_entry k unit es)) d → Leads (path ++ Key k ∷ []) (tree e)
added_leads path k d e es h is =
    let m : Dynamic = dynamic.Map (put_entry k unit es) in
    leads_key path k e (put_entry k unit es) unit
    (ap (λ (a : Dynamic). at path (tree a)) is
    ∙ ap (at path) (tree-value_of (put path (tree m) (tree d)))
    ∙ at-put path (tree d) (tree m) (ap is_ok h)) (entry_put k unit es)
