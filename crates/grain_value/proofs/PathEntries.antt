-- One step down a path, in a list of values and in the pairs of a map.
use Rattle.std.proofs.Common.{◌≡◌, ℕ, ◌<◌, List, [], ◌∷◌, length, get_or, set, Option, Some, None, Ok, Bool, arith, cond, true, false, refl, sym, ap, ◌∙◌, option_map, string_bytes, nat_cmp, String, Global}
use Rattle.std.proofs.lemmas.Option.{slice_get-get_or, slice_get_within, slice_get-map}
use Rattle.std.proofs.lemmas.List.{map-set, length-map}
use Rattle.std.specs.List.{slice_get}
use Rattle.std.specs.Map.{set_value, lookup}
use Rattle.std.specs.Cmp.Lexicographic.{slice_cmp}
use Rattle.std.specs.BTreeMap.{is_at}
use Rattle.grain_value.specs.Tree.{Tree, array, dict, pack, pack_fields}
use Rattle.grain_value.specs.Maps.{entry_at}
use Rattle.grain_value.specs.View.{tree, trees, entry, entries_view}
use Rattle.grain_value.specs.Paths.{put, child, set_entry, element, keyed, Leads}
use Rattle.grain_value.specs.laws.Same.{unpack-pack, unpack-pack_fields}
use Rattle.grain_value.specs.laws.PathSteps.{child-array, child-dict, put-step, leads-found, element_found, keyed_found}
use Rattle.grain_value.proofs.Pairs.{Pair, view-lookup}
use Rattle.grain_value.specs.declared.values.Dynamic.{Dynamic}
use Rattle.grain_value.specs.declared.values.paths.PathStep.{PathStep}
use Rattle.grain_value.specs.declared.values.paths.PathStep.TheVariants.{Index, Key}

-- in a list of values
pub leads-within : (ds : List Dynamic) (i : ℕ) (p : List PathStep) →
    Leads (Index i ∷ p) (array (pack (trees ds))) → i < length ds
leads-within ds i p l =
    let f = leads-found (Index i) p (array (pack (trees ds))) l in
    let within = slice_get_within (trees ds) i f.0 (element_found _ _ _ _ (sym (child-array (trees
    ds) i) ∙ f.1)) in
    omega (arith, length-map ds tree)

pub child-element : (ds : List Dynamic) (i : ℕ) (d : Dynamic) → i < length ds → d ≡ get_or ds i d →
    child (Index i) (array (pack (trees ds))) ≡ Ok (tree d)
child-element ds i d h e =
    child-array (trees ds) i ∙ ap (λ o. element o (length (trees ds)) i) (slice_get-map tree ds i
    ∙ ap (option_map tree) (slice_get-get_or ds i d h ∙ ap Some (sym e)))

pub put-element : (ds : List Dynamic) (i : ℕ) (d new : Dynamic) (p : List PathStep) (v : Tree) →
    i < length ds → d ≡ get_or ds i d → tree new ≡ put p v (tree d)
    → array (pack (trees (set ds i new))) ≡ put (Index i ∷ p) v (array (pack (trees ds)))
put-element ds i d new p v h e n =
    ap (λ l. array (pack l)) (map-set tree ds i new ∙ ap (λ c. set (trees ds) i c) n
    ∙ ap (λ l. set l i (put p v (tree d))) (sym (unpack-pack (trees ds))))
    ∙ sym (put-step (Index i) p v (array (pack (trees ds))) (tree d) (child-element ds i d h e))

-- in the pairs of a map
abbrev pub at_key : List ℕ → String Global → Bool
at_key key = is_at (λ k. slice_cmp nat_cmp key (string_bytes k))

view-cond : (b : Bool) (xs ys : List Pair) → entries_view (cond b xs ys) ≡ cond b (entries_view xs)
    (entries_view ys)
view-cond true xs ys = refl
view-cond false xs ys = refl

pub view-set_value : (es : List Pair) (key : List ℕ) (d : Dynamic) →
    entries_view (set_value (at_key key) es d) ≡ set_entry key (tree d) (entries_view es)
view-set_value [] key d = refl
view-set_value (e ∷ es) key d =
    view-cond (at_key key e.0) ((e.0, d) ∷ es) (e ∷ set_value (at_key key) es d)
    ∙ ap (λ l. cond (at_key key e.0) ((string_bytes e.0, tree d) ∷ entries_view es) (entry e ∷ l))
    (view-set_value es key d)

pub child-member : (es : List Pair) (key : List ℕ) (d : Dynamic) → lookup (at_key key) es ≡ Some d →
    child (Key key) (dict (pack_fields (entries_view es))) ≡ Ok (tree d)
child-member es key d h = child-dict (entries_view es) key ∙ ap keyed (sym (view-lookup key es)
    ∙ ap (option_map tree) h)

pub leads-member : (es : List Pair) (key : List ℕ) (p : List PathStep) →
    Leads (Key key ∷ p) (dict (pack_fields (entries_view es))) → lookup (at_key key) es ≡ None → ⊥
leads-member es key p l h =
    let f = leads-found (Key key) p (dict (pack_fields (entries_view es))) l in
    let some = keyed_found _ _ (sym (child-dict (entries_view es) key) ∙ f.1) in
    let none : entry_at key (entries_view es) ≡ None = sym (view-lookup key es)
    ∙ ap (option_map tree) h in cc

pub put-member : (es : List Pair) (key : List ℕ) (d new : Dynamic) (p : List PathStep) (v : Tree) →
    lookup (at_key key) es ≡ Some d → tree new ≡ put p v (tree d)
    → dict (pack_fields (entries_view (set_value (at_key key) es new))) ≡ put (Key key ∷ p) v (dict
    (pack_fields (entries_view es)))
put-member es key d new p v h n =
    ap (λ l. dict (pack_fields l)) (view-set_value es key new
    ∙ ap (λ c. set_entry key c (entries_view es)) n ∙ ap (λ l. set_entry key (put p v (tree d)) l)
    (sym (unpack-pack_fields (entries_view es))))
    ∙ sym (put-step (Key key) p v (dict (pack_fields (entries_view es))) (tree d) (child-member es
    key d h))
