-- Bytes that move from what is left to a slice.
use Rattle.std.proofs.Common.{◌≡◌, ℕ, ◌+◌, ◌<◌, List, [], ◌∷◌, ◌++◌, length, min, take, drop, refl, sym, ap, ◌∙◌, arith}
use Rattle.std.proofs.lemmas.List.{take-append-drop, drop-drop}

-- the moved bytes, and the others after them, are what was left
pub moved : (place n : ℕ) (bytes slice : List ℕ) → take n slice ≡ take n (drop place bytes) →
    take n slice ++ drop (place + n) bytes ≡ drop place bytes
moved place n bytes slice same =
    let others : drop n (drop place bytes) ≡ drop (place + n) bytes = drop-drop n place bytes in
    ap (λ x. x ++ drop (place + n) bytes) same ∙
    ap (λ x. take n (drop place bytes) ++ x) (sym others) ∙
    take-append-drop n (drop place bytes)

empty : (s : List ℕ) → length s ≡ 0 → s ≡ []
empty [] e = refl
empty (x ∷ xs) e = absurd (omega arith)

-- where nothing moved into a slice with room, nothing is left
pub spent : (place n room : ℕ) (bytes : List ℕ) → n ≡ min (length (drop place bytes)) room →
    n ≡ 0 →
    0 < room → drop (place + n) bytes ≡ []
spent place n room bytes count none some =
    let over : length (drop place bytes) ≡ 0 = omega arith in
    let here : place + n ≡ place = omega arith in
    ap (λ k. drop k bytes) here ∙ empty (drop place bytes) over
