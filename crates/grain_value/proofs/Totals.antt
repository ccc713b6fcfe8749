-- Sums of sizes that stop at each step, and sums that stop once at the end.
use Rattle.std.proofs.Common.{◌≡◌, ◌∙◌, ◌+◌, ◌<◌, ℕ, List, [], ◌∷◌, ◌++◌, sym, ap, arith, length, get_or, take}
use Rattle.std.proofs.lemmas.List.{take_more, map-append}
use Rattle.grain_value.specs.View.{tree, trees}
use Rattle.grain_value.specs.declared.values.Dynamic.{Dynamic}
use Rattle.grain_value.specs.Tree.{Tree}
use Rattle.grain_value.specs.Maps.{Entries}
use Rattle.grain_value.specs.Sizes.{Sizes, nothing, one_element, one_value, plus, counted, stopped, inner_sizes, array_sizes, map_sizes}

stopped_twice : (a b : ℕ) → stopped (stopped a + stopped b) ≡ stopped (a + b)
stopped_twice a b = omega arith

counted_twice : (p q : Sizes) → counted (plus (counted p) (counted q)) ≡ counted (plus p q)
counted_twice p q =
    λ i. (stopped_twice p.0 q.0 i, stopped_twice p.1 q.1 i, stopped_twice p.2 q.2 i)

plus_assoc : (p q r : Sizes) → plus (plus p q) r ≡ plus p (plus q r)
plus_assoc p q r =
    let e : (a b c : ℕ) → a + b + c ≡ a + (b + c) = λ a b c. omega arith in
    λ i. (e p.0 q.0 r.0 i, e p.1 q.1 r.1 i, e p.2 q.2 r.2 i)

plus_nothing : (p : Sizes) → plus p nothing ≡ plus nothing p
plus_nothing p =
    let e : (a : ℕ) → a + 0 ≡ 0 + a = λ a. omega arith in
    λ i. (e p.0 i, e p.1 i, e p.2 i)

pub array_sizes-append : (ts : List Tree) (t : Tree) →
    array_sizes (ts ++ t ∷ []) ≡ plus (array_sizes ts) (plus one_element (inner_sizes t))
array_sizes-append [] t = plus_nothing (plus one_element (inner_sizes t))
array_sizes-append (x ∷ ts) t =
    ap (plus (plus one_element (inner_sizes x))) (array_sizes-append ts t) ∙
    sym (plus_assoc (plus one_element (inner_sizes x)) (array_sizes ts)
    (plus one_element (inner_sizes t)))

pub map_sizes-append : (es : Entries) (e : List ℕ × Tree) →
    map_sizes (es ++ e ∷ []) ≡ plus (map_sizes es) (plus one_value (inner_sizes e.1))
map_sizes-append [] e = plus_nothing (plus one_value (inner_sizes e.1))
map_sizes-append (x ∷ es) e =
    ap (plus (plus one_value (inner_sizes x.1))) (map_sizes-append es e) ∙
    sym (plus_assoc (plus one_value (inner_sizes x.1)) (map_sizes es)
    (plus one_value (inner_sizes e.1)))

-- what one more element or value makes of the total so far
pub more : (p q one : Sizes) → counted one ≡ one →
    counted (plus (counted p) (counted (plus one (counted q)))) ≡ counted (plus p (plus one q))
more p q one fits =
    counted_twice p (plus one (counted q))
    ∙ sym (counted_twice p (plus one (counted q)))
    ∙ ap (λ (s : Sizes). counted (plus (counted p) s))
    (sym (ap (λ (s : Sizes). counted (plus s (counted q))) fits) ∙ counted_twice one q)
    ∙ counted_twice p (plus one q)

pub trees-take : (ds : List Dynamic) (i : ℕ) (d : Dynamic) → i < length ds → d ≡ get_or ds i d →
    trees (take (i + 1) ds) ≡ trees (take i ds) ++ tree d ∷ []
trees-take ds i d h e =
    ap trees (take_more ds i d h ∙ ap (λ (x : Dynamic). take i ds ++ x ∷ []) (sym e))
    ∙ map-append tree (take i ds) (d ∷ [])
