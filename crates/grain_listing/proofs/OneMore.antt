-- One entry more of a list that is made from another, entry by entry.
use Rattle.std.proofs.Common.{◌≡◌, ℕ, suc, ◌+◌, ◌<◌, List, [], ◌∷◌, ◌++◌, length, map, drop, get_or, sym, ap, ◌∙◌, arith, append_assoc}
use Rattle.std.proofs.Math.Seq.{drop-cons}

pub one_more : {A B : Type 0} (f : A → B) (found now : List B) (xs : List A) (i : ℕ) (x : A) (y : B)
    (all : List B) → i < length xs → x ≡ get_or xs i x → found ++ map f (drop i xs) ≡ all →
    y ≡ f x → now ≡ found ++ y ∷ [] → now ++ map f (drop (i + 1) xs) ≡ all
one_more f found now xs i x y all lt is so made put =
    let next : suc i ≡ i + 1 = omega arith in
    ap (λ l. l ++ map f (drop (i + 1) xs)) put ∙
    append_assoc found (y ∷ []) (map f (drop (i + 1) xs)) ∙
    ap (λ z. found ++ z ∷ map f (drop (i + 1) xs)) (made ∙ ap f is) ∙
    ap (λ n. found ++ f (get_or xs i x) ∷ map f (drop n xs)) (sym next) ∙
    ap (λ l. found ++ map f l) (sym (drop-cons xs i x lt)) ∙
    so
