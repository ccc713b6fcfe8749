-- Entries that are put into a map ascend, and each is one that was there or was put.
use Rattle.std.proofs.Common.{◌≡◌, ℕ, List, [], ◌∷◌, Ordering, Less, Equal, Greater, nat_cmp, refl, ap, ◌∙◌}
use Rattle.std.proofs.lemmas.Cmp.{nat_list_cmp_total}
use Rattle.std.specs.Cmp.Lexicographic.{slice_cmp}
use Rattle.std.specs.List.{AllByRecursion}
use Rattle.std.specs.List.Sorted.{IsStrictlySortedBy}
use Rattle.std.specs.Map.{keys_of}
use Rattle.std.specs.Ordering.{match_ordering, ordering_reverse}
use Rattle.grain_value.specs.Tree.{Tree}
use Rattle.grain_value.specs.Maps.{Entries, put_entry, IsAscending}
use Rattle.grain_literals.specs.Values.{put_all}

abbrev Key : Type 0
Key = List ℕ

abbrev order : Key → Key → Ordering
order a b = slice_cmp nat_cmp a b

-- what each key and each value of a map satisfies
abbrev pub Each : (Key → Type 0) → (Tree → Type 0) → Entries → Type 0
Each K P [] = Unit {0}
Each K P (e ∷ es) = (K e.0 × P e.1) × Each K P es

each_by : (K : Key → Type 0) (P : Tree → Type 0) (o : Ordering) (k : Key) (t : Tree)
    (e : Key × Tree) (es more : Entries) → K k → P t → Each K P (e ∷ es) → Each K P more →
    Each K P (match_ordering o ((k, t) ∷ e ∷ es) ((e.0, t) ∷ es) (e ∷ more))
each_by K P Less k t e es more hk ht all rest = ((hk, ht), all)
each_by K P Equal k t e es more hk ht all rest = ((all.0.0, ht), all.1)
each_by K P Greater k t e es more hk ht all rest = (all.0, rest)

each_put : (K : Key → Type 0) (P : Tree → Type 0) (es : Entries) (k : Key) (t : Tree) → K k → P t →
    Each K P es → Each K P (put_entry k t es)
each_put K P [] k t hk ht all = ((hk, ht), tt)
each_put K P (e ∷ es) k t hk ht all =
    each_by K P (order k e.0) k t e es (put_entry k t es) hk ht all
    (each_put K P es k t hk ht all.1)

pub each_put_all : (K : Key → Type 0) (P : Tree → Type 0) (es done : Entries) → Each K P done →
    Each K P es → Each K P (put_all done es)
each_put_all K P [] done before all = before
each_put_all K P (e ∷ es) done before all =
    each_put_all K P es (put_entry e.0 e.1 done)
    (each_put K P done e.0 e.1 all.0.0 all.0.1 before) all.1

above : (x : Key) (e : Key × Tree) → order e.0 x ≡ Greater → order x e.0 ≡ Less
above x e h = nat_list_cmp_total.antisymm x e.0 ∙ ap ordering_reverse h

below_others : (k x : Key) (ys : List Key) → order k x ≡ Less →
    AllByRecursion (λ y. order x y ≡ Less) ys → AllByRecursion (λ y. order k y ≡ Less) ys
below_others k x [] h all = tt
below_others k x (y ∷ ys) h all =
    (nat_list_cmp_total.trans k x y h all.0, below_others k x ys h all.1)

keys_by : (x : Key) (o : Ordering) (k : Key) (t : Tree) (e : Key × Tree) (es more : Entries) →
    order x k ≡ Less → AllByRecursion (λ y. order x y ≡ Less) (keys_of (e ∷ es)) →
    AllByRecursion (λ y. order x y ≡ Less) (keys_of more) →
    AllByRecursion (λ y. order x y ≡ Less)
    (keys_of (match_ordering o ((k, t) ∷ e ∷ es) ((e.0, t) ∷ es) (e ∷ more)))
keys_by x Less k t e es more h all rest = (h, all)
keys_by x Equal k t e es more h all rest = all
keys_by x Greater k t e es more h all rest = (all.0, rest)

below_put : (x : Key) (es : Entries) (k : Key) (t : Tree) → order x k ≡ Less →
    AllByRecursion (λ y. order x y ≡ Less) (keys_of es) →
    AllByRecursion (λ y. order x y ≡ Less) (keys_of (put_entry k t es))
below_put x [] k t h all = (h, tt)
below_put x (e ∷ es) k t h all =
    keys_by x (order k e.0) k t e es (put_entry k t es) h all (below_put x es k t h all.1)

ascending_by : (o : Ordering) (k : Key) (t : Tree) (e : Key × Tree) (es : Entries) →
    order k e.0 ≡ o → IsAscending (e ∷ es) → IsAscending (put_entry k t es) →
    IsAscending (match_ordering o ((k, t) ∷ e ∷ es) ((e.0, t) ∷ es) (e ∷ put_entry k t es))
unfolding IsStrictlySortedBy
ascending_by Less k t e es is all more = ((is, below_others k e.0 (keys_of es) is all.0), all)
ascending_by Equal k t e es is all more = all
ascending_by Greater k t e es is all more =
    let less : order e.0 k ≡ Less =
    nat_list_cmp_total.antisymm e.0 k ∙ ap ordering_reverse is in
    (below_put e.0 es k t less all.0, more)

ascending_put : (es : Entries) (k : Key) (t : Tree) → IsAscending es →
    IsAscending (put_entry k t es)
unfolding IsStrictlySortedBy
ascending_put [] k t all = (tt, tt)
ascending_put (e ∷ es) k t all =
    ascending_by (order k e.0) k t e es refl all (ascending_put es k t all.1)

pub ascending_put_all : (es done : Entries) → IsAscending done → IsAscending (put_all done es)
ascending_put_all [] done all = all
ascending_put_all (e ∷ es) done all =
    ascending_put_all es (put_entry e.0 e.1 done) (ascending_put done e.0 e.1 all)

pub none_ascend : IsAscending []
unfolding IsStrictlySortedBy
none_ascend = tt
