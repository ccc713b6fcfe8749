-- A `BTreeMap` of values beside the pairs that it is seen as.
use Rattle.std.proofs.Common.{◌≡◌, ℕ, List, [], ◌∷◌, ◌++◌, Option, Some, None, option_map, String, Global, Ordering, Less, Equal, Greater, string_bytes, string_cmp, nat_cmp, is_eq, cond, Bor, MutBor, refl, ap, ◌∙◌}
use Rattle.std.proofs.lemmas.Cmp.{nat_list_cmp_total}
use Rattle.std.specs.Cmp.Lexicographic.{slice_cmp}
use Rattle.std.specs.List.{AllByRecursion}
use Rattle.std.specs.List.Sorted.{IsStrictlySortedBy}
use Rattle.std.specs.Map.{keys_of, lookup}
use Rattle.std.specs.Ordering.{match_ordering, ordering_reverse}
use Rattle.std.specs.BTreeMap.{insert_entry, is_at}
use Rattle.grain_value.specs.Tree.{Tree}
use Rattle.grain_value.specs.View.{tree, entry, entries_view}
use Rattle.grain_value.specs.Maps.{Entries, entry_at, put_entry, IsAscending}
use Rattle.grain_value.specs.declared.values.Dynamic.{Dynamic}

abbrev pub Pair : Type 0
Pair = String Global × Dynamic

pub tree_of_ref : (o : Option (Bor Dynamic)) → option_map (λ d. tree d.now) o ≡
    option_map tree (option_map (λ d. d.now) o)
tree_of_ref None = refl
tree_of_ref (Some d) = refl

pub tree_of_mut : (o : Option (MutBor Dynamic)) → option_map (λ d. tree d.now) o ≡
    option_map tree (option_map (λ d. d.now) o)
tree_of_mut None = refl
tree_of_mut (Some d) = refl

view-match_ordering : (o : Ordering) (a b c : List Pair) → entries_view (match_ordering o a b c) ≡
    match_ordering o (entries_view a) (entries_view b) (entries_view c)
view-match_ordering Less a b c = refl
view-match_ordering Equal a b c = refl
view-match_ordering Greater a b c = refl

pub view-insert_entry : (es : List Pair) (k : String Global) (d : Dynamic) →
    entries_view (insert_entry string_cmp es k d) ≡ put_entry (string_bytes k) (tree d)
    (entries_view es)
view-insert_entry [] k d = refl
view-insert_entry (e ∷ es) k d = view-match_ordering (string_cmp k e.0) _ _ _ ∙
    ap (λ l. match_ordering (string_cmp k e.0) ((string_bytes k, tree d) ∷ entries_view (e ∷ es))
    ((string_bytes e.0, tree d) ∷ entries_view es) (entry e ∷ l)) (view-insert_entry es k d)

found_or : (o : Ordering) (d : Dynamic) (rest : Option Dynamic) (t : Option Tree) →
    option_map tree rest ≡ t → option_map tree (cond (is_eq o) (Some d) rest) ≡
    cond (is_eq o) (Some (tree d)) t
found_or Less d rest t e = e
found_or Equal d rest t e = refl
found_or Greater d rest t e = e

pub view-lookup : (key : List ℕ) (es : List Pair) →
    option_map tree (lookup (is_at (λ k. slice_cmp nat_cmp key (string_bytes k))) es) ≡
    entry_at key (entries_view es)
view-lookup key [] = refl
view-lookup key (e ∷ es) =
    found_or (slice_cmp nat_cmp key (string_bytes e.0)) e.1 _ _ (view-lookup key es)

below_each : (k : List ℕ) (es : List Pair) →
    AllByRecursion (λ y. slice_cmp nat_cmp k (string_bytes y) ≡ Less) (keys_of es) →
    AllByRecursion (λ y. slice_cmp nat_cmp k y ≡ Less) (keys_of (entries_view es))
below_each k [] h = tt
below_each k (e ∷ es) h = (h.0, below_each k es h.1)

pub ascending : (es : List Pair) → IsStrictlySortedBy string_cmp (keys_of es) →
    IsAscending (entries_view es)
unfolding IsStrictlySortedBy
ascending [] h = tt
ascending (e ∷ es) h = (below_each (string_bytes e.0) es h.0, ascending es h.1)

below_middle : (k : List ℕ) (es : Entries) (e : List ℕ × Tree) (more : Entries) →
    AllByRecursion (λ y. slice_cmp nat_cmp k y ≡ Less) (keys_of (es ++ e ∷ more)) →
    slice_cmp nat_cmp k e.0 ≡ Less
below_middle k [] e more h = h.0
below_middle k (x ∷ es) e more h = below_middle k es e more h.1

-- a key that is above those before it goes last
pub put_last : (done : Entries) (e : List ℕ × Tree) (more : Entries) →
    IsAscending (done ++ e ∷ more) → put_entry e.0 e.1 done ≡ done ++ e ∷ []
unfolding IsStrictlySortedBy
put_last [] e more h = refl
put_last (first ∷ done) e more h =
    let above : slice_cmp nat_cmp e.0 first.0 ≡ Greater = nat_list_cmp_total.antisymm e.0 first.0 ∙
    ap ordering_reverse (below_middle first.0 done e more h.0) in
    rw above (ap (λ l. first ∷ l) (put_last done e more h.1))
