-- Entries whose keys ascend are put as they stand.
use Rattle.std.proofs.Common.{◌≡◌, ℕ, List, [], ◌∷◌, ◌++◌, Less, Greater, nat_cmp, refl, sym, ap, ◌∙◌, subst, append_assoc, append-nil}
use Rattle.std.proofs.lemmas.Cmp.{nat_list_cmp_total}
use Rattle.std.specs.Cmp.Lexicographic.{slice_cmp}
use Rattle.std.specs.List.{AllByRecursion}
use Rattle.std.specs.List.Sorted.{IsStrictlySortedBy}
use Rattle.std.specs.Map.{keys_of}
use Rattle.std.specs.Ordering.{ordering_reverse}
use Rattle.grain_value.specs.Tree.{Tree}
use Rattle.grain_value.specs.Maps.{Entries, put_entry, IsAscending}
use Rattle.grain_literals.specs.Values.{put_all}

below_middle : (k : List ℕ) (es : Entries) (e : List ℕ × Tree) (more : Entries) →
    AllByRecursion (λ y. slice_cmp nat_cmp k y ≡ Less) (keys_of (es ++ e ∷ more)) →
    slice_cmp nat_cmp k e.0 ≡ Less
below_middle k [] e more h = h.0
below_middle k (x ∷ es) e more h = below_middle k es e more h.1

-- a key that is above those before it goes last
put_last : (done : Entries) (e : List ℕ × Tree) (more : Entries) → IsAscending (done ++ e ∷ more) →
    put_entry e.0 e.1 done ≡ done ++ e ∷ []
unfolding IsStrictlySortedBy
put_last [] e more h = refl
put_last (first ∷ done) e more h =
    let above : slice_cmp nat_cmp e.0 first.0 ≡ Greater =
    nat_list_cmp_total.antisymm e.0 first.0 ∙
    ap ordering_reverse (below_middle first.0 done e more h.0) in
    rw above (ap (λ l. first ∷ l) (put_last done e more h.1))

put_after : (done es : Entries) → IsAscending (done ++ es) → put_all done es ≡ done ++ es
put_after done [] h = sym (append-nil done)
put_after done (e ∷ es) h =
    let same : (done ++ e ∷ []) ++ es ≡ done ++ e ∷ es = append_assoc done (e ∷ []) es in
    ap (λ l. put_all l es) (put_last done e es h) ∙
    put_after (done ++ e ∷ []) es (subst IsAscending (sym same) h) ∙ same

pub put_ascending : (es : Entries) → IsAscending es → put_all [] es ≡ es
put_ascending es h = put_after [] es h
