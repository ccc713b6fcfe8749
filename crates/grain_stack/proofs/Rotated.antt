-- The last operand goes below others.
use Rattle.std.proofs.Common.{◌≡◌, ◌<◌, ◌≤◌, ℕ, zero, suc, ◌+◌, ◌-◌, List, [], ◌∷◌, ◌++◌, take, drop, length, refl, sym, subst, ap, ◌∙◌, arith, length-drop, length-append, append_assoc}
use borrow.Rule.Slice.PartMut.{mid_of, put_mid, post_of, same_len_mid}
use Rattle.std.proofs.lemmas.List.{drop-append-le, drop-drop, drop-take, take-append-le}
use Rattle.grain_value.specs.declared.values.Held.{Held}
use Rattle.grain_value.specs.Operands.{rotated}
use Rattle.grain_stack.specs.Filled.{filled}
use Rattle.grain_stack.proofs.Lists.{take_shorter, length_front}

front_all : (us vs : List Held) (n : ℕ) → n ≡ length us → take n (us ++ vs) ≡ us
front_all [] vs zero e = refl
front_all [] vs (suc n) e = absurd (omega (arith, e))
front_all (u ∷ us) vs zero e = absurd (omega (arith, e))
front_all (u ∷ us) vs (suc n) e =
    ap (λ (l : List Held). u ∷ l) (front_all us vs n (omega (arith, e)))

-- the last operand below a height, moved below n others
pub rotated_mid : (h n a : ℕ) (xs ys : List Held) → a ≡ h - (n + 1) → n < h → h ≤ length xs →
    ys ≡ drop (length (mid_of a (h - a) xs) - 1) (mid_of a (h - a) xs) ++
    take (length (mid_of a (h - a) xs) - 1) (mid_of a (h - a) xs) →
    take h (put_mid a (h - a) xs ys) ≡ rotated n (take h xs)
rotated_mid h n a xs ys ea lt le e =
    let mid : drop a (take h xs) ≡ mid_of a (h - a) xs =
    rw (ap (λ (k : ℕ). take k xs) (let k : h ≡ a + (h - a) = omega (arith, ea, lt) in k))
    (drop-take a (h - a) xs) in
    let long : length (mid_of a (h - a) xs) ≡ n + 1 =
    length_front (h - a) (drop a xs) (omega (arith, length-drop a xs, ea, lt, le)) ∙
    omega (arith, ea, lt) in
    let whole : length (take h xs) ≡ h = length_front h xs le in
    let place : length (take h xs) - (n + 1) ≡ a = omega (arith, whole, ea) in
    let last : length (mid_of a (h - a) xs) - 1 ≡ n = omega (arith, long) in
    let ys_are : ys ≡ drop n (mid_of a (h - a) xs) ++ take n (mid_of a (h - a) xs) =
    e ∙ ap (λ (k : ℕ). drop k (mid_of a (h - a) xs) ++ take k (mid_of a (h - a) xs)) last in
    let ys_long : length ys ≡ h - a = ap length ys_are ∙
    omega (
      arith,
      length-append (drop n (mid_of a (h - a) xs)) (take n (mid_of a (h - a) xs)),
      length-drop n (mid_of a (h - a) xs),
      length_front n (mid_of a (h - a) xs) (omega (arith, long)),
      long,
      ea,
      lt,
    ) in
    let front : length (take a xs ++ ys) ≡ h =
    omega (
      arith,
      length-append (take a xs) ys,
      length_front a xs (omega (arith, ea, le)),
      ys_long,
      ea,
      lt,
    ) in
    ap (take h) (sym (append_assoc (take a xs) ys (post_of a (h - a) xs))) ∙
    (front_all (take a xs ++ ys) (post_of a (h - a) xs) h (sym front) ∙
    rw (place, mid, take_shorter a h xs (omega (arith, ea)), ys_are)
    (sym (append_assoc (take a xs) (drop n (mid_of a (h - a) xs))
    (take n (mid_of a (h - a) xs)))))

pub rotated_filled : (h n a : ℕ) (xs zs ys : List Held) → zs ≡ xs → a ≡ h - (n + 1) → n < h →
    h ≤ length xs → ys ≡ drop (length (mid_of a (h - a) zs) - 1) (mid_of a (h - a) zs) ++
    take (length (mid_of a (h - a) zs) - 1) (mid_of a (h - a) zs) →
    filled h (put_mid a (h - a) zs ys) ≡
    record { operands = rotated n (take h xs); slots = length xs }
rotated_filled h n a xs zs ys ez ea lt le e =
    let here : ys ≡ drop (length (mid_of a (h - a) xs) - 1) (mid_of a (h - a) xs) ++
    take (length (mid_of a (h - a) xs) - 1) (mid_of a (h - a) xs) =
    subst (λ (l : List Held). ys ≡ drop (length (mid_of a (h - a) l) - 1)
    (mid_of a (h - a) l) ++ take (length (mid_of a (h - a) l) - 1) (mid_of a (h - a) l)) ez e in
    let m : List Held = mid_of a (h - a) xs in
    let k : ℕ = length (mid_of a (h - a) xs) - 1 in
    let long : length ys ≡ length (mid_of a (h - a) xs) = ap length here ∙
    omega (
      arith,
      length-append (drop k m) (take k m),
      length-drop k m,
      length_front k m (omega arith),
    ) in
    rw (ez, rotated_mid h n a xs ys ea lt le here, same_len_mid a (h - a) xs ys long) refl

-- the same of a frame's operands
pub rotated_own : (b n : ℕ) (xs : List Held) → b + n < length xs → drop b (rotated n xs) ≡
    rotated n (drop b xs)
rotated_own b n xs lt =
    let p : length xs - (n + 1) ≡ b + (length (drop b xs) - (n + 1)) =
    omega (arith, lt, length-drop b xs) in
    let others : drop (length xs - (n + 1)) xs ≡ drop (length (drop b xs) - (n + 1)) (drop b xs) =
    rw p (sym (drop-drop (length (drop b xs) - (n + 1)) b xs)) in
    let long : length (take (length xs - (n + 1)) xs) ≡ length xs - (n + 1) =
    length_front (length xs - (n + 1)) xs (omega arith) in
    let own : drop b (take (length xs - (n + 1)) xs) ≡ take (length (drop b xs) - (n + 1))
    (drop b xs) = rw p (drop-take b (length (drop b xs) - (n + 1)) xs) in
    let o : List Held = drop (length xs - (n + 1)) xs in
    ap (drop b) (append_assoc (take (length xs - (n + 1)) xs) (drop n o) (take n o)) ∙
    (drop-append-le b (take (length xs - (n + 1)) xs) (drop n o ++ take n o)
    (omega (arith, long, lt)) ∙
    (rw (own, others) refl ∙
    sym (append_assoc (take (length (drop b xs) - (n + 1)) (drop b xs))
    (drop n (drop (length (drop b xs) - (n + 1)) (drop b xs)))
    (take n (drop (length (drop b xs) - (n + 1)) (drop b xs))))))

pub rotated_rest : (b n : ℕ) (xs : List Held) → b + n < length xs → take b (rotated n xs) ≡
    take b xs
rotated_rest b n xs lt =
    let o : List Held = drop (length xs - (n + 1)) xs in
    let long : length (take (length xs - (n + 1)) xs) ≡ length xs - (n + 1) =
    length_front (length xs - (n + 1)) xs (omega arith) in
    ap (take b) (append_assoc (take (length xs - (n + 1)) xs) (drop n o) (take n o)) ∙
    (take-append-le b (take (length xs - (n + 1)) xs) (drop n o ++ take n o)
    (omega (arith, long, lt)) ∙
    take_shorter b (length xs - (n + 1)) xs (omega (arith, lt)))
