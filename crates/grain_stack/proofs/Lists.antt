-- Operands above a frame's bottom: the last ones are taken, written and cut.
use Rattle.std.proofs.Common.{◌≡◌, ◌<◌, ◌≤◌, ℕ, zero, suc, ◌+◌, ◌-◌, List, [], ◌∷◌, ◌++◌, take, drop, length, get_or, refl, sym, ap, ◌∙◌, arith, length-drop}
use Rattle.std.specs.Prelude.{slice_set}
use Rattle.std.proofs.lemmas.List.{drop-append-le, drop-take, get_or-take, take-append-le}
use Rattle.grain_value.specs.declared.values.Held.{Held}
use Rattle.grain_value.specs.Operands.{top, below, under}
use Rattle.grain_stack.specs.Filled.{operand_at}

-- the last operand
top-snoc : (xs : List Held) (h : Held) → top (xs ++ h ∷ []) ≡ h
top-snoc [] h = refl
top-snoc (x ∷ []) h = refl
top-snoc (x ∷ y ∷ xs) h = top-snoc (y ∷ xs) h

-- what was popped was the frame's last operand
pub popped : (n : ℕ) (xs ys : List Held) (h : Held) → n ≤ length ys → xs ≡ ys ++ h ∷ [] →
    h ≡ top (drop n xs)
popped n xs ys h le e = rw (e, drop-append-le n ys (h ∷ []) le) (sym (top-snoc (drop n ys) h))

-- the front of a front
pub take_shorter : (b n : ℕ) (xs : List Held) → b ≤ n → take b (take n xs) ≡ take b xs
take_shorter zero n xs le = refl
take_shorter (suc b) zero xs le = absurd (omega (arith, le))
take_shorter (suc b) (suc n) [] le = refl
take_shorter (suc b) (suc n) (x ∷ xs) le =
    ap (λ (l : List Held). x ∷ l) (take_shorter b n xs (omega (arith, le)))

-- a frame's operands without the last k
cut_own : (n k m : ℕ) (xs : List Held) → m ≡ length xs - k → n + k ≤ length xs →
    drop n (take m xs) ≡ under k (drop n xs)
cut_own n k m xs em le =
    let s : m ≡ n + (length (drop n xs) - k) = omega (arith, em, length-drop n xs) in
    rw s (drop-take n (length (drop n xs) - k) xs)

-- a write after the front of a list
pub take_set : (b i : ℕ) (xs : List Held) (h : Held) → b ≤ i → take b (slice_set xs i h) ≡ take b xs
take_set zero i xs h le = refl
take_set (suc b) zero xs h le = absurd (omega (arith, le))
take_set (suc b) (suc i) [] h le = refl
take_set (suc b) (suc i) (x ∷ xs) h le =
    ap (λ (l : List Held). x ∷ l) (take_set b i xs h (omega (arith, le)))

pub drop_set : (b k n : ℕ) (xs : List Held) (h : Held) → n ≡ b + k → drop b (slice_set xs n h) ≡
    slice_set (drop b xs) k h
drop_set zero k n xs h e = ap (λ (i : ℕ). slice_set xs i h) (omega (arith, e))
drop_set (suc b) k zero xs h e = absurd (omega (arith, e))
drop_set (suc b) k (suc n) [] h e = refl
drop_set (suc b) k (suc n) (x ∷ xs) h e = drop_set b k n xs h (omega (arith, e))

pub set_length : (xs : List Held) (n : ℕ) (h : Held) → length (slice_set xs n h) ≡ length xs
set_length [] n h = refl
set_length (x ∷ xs) zero h = refl
set_length (x ∷ xs) (suc n) h = ap (λ (m : ℕ). suc m) (set_length xs n h)

below_set : (xs : List Held) (k : ℕ) (h : Held) → length xs ≡ k + 2 →
    take (suc k) (slice_set xs k h) ≡ take k xs ++ h ∷ []
below_set [] k h e = absurd (omega (arith, e))
below_set (x ∷ xs) zero h e = refl
below_set (x ∷ xs) (suc k) h e = ap (λ (l : List Held). x ∷ l) (below_set xs k h (omega (arith, e)))

-- a frame's operands, once the last but one was overwritten and the last one was taken
pub answered_own : (b n m : ℕ) (xs ys : List Held) (h : Held) → n ≡ length xs - 2 →
    m ≡ length xs - 1 → b + 2 ≤ length xs → ys ≡ take m (slice_set xs n h) →
    drop b ys ≡ under 2 (drop b xs) ++ h ∷ []
answered_own b n m xs ys h en em le e =
    let last : m ≡ b + suc (n - b) = omega (arith, le, en, em) in
    let front : drop b ys ≡ take (suc (n - b)) (drop b (slice_set xs n h)) =
    rw (e, last) (drop-take b (suc (n - b)) (slice_set xs n h)) in
    let set : drop b (slice_set xs n h) ≡ slice_set (drop b xs) (n - b) h =
    drop_set b (n - b) n xs h (omega (arith, le, en)) in
    let long : length (drop b xs) ≡ (n - b) + 2 = omega (arith, le, en, length-drop b xs) in
    let place : n - b ≡ length (drop b xs) - 2 = omega (arith, long) in
    front ∙
    (ap (take (suc (n - b))) set ∙
    (below_set (drop b xs) (n - b) h long ∙ ap (λ (k : ℕ). take k (drop b xs) ++ h ∷ []) place))

-- the operands of the frames around it are as they were
pub answered_rest : (b n m : ℕ) (xs ys : List Held) (h : Held) → n ≡ length xs - 2 →
    m ≡ length xs - 1 → b + 2 ≤ length xs → ys ≡ take m (slice_set xs n h) →
    take b ys ≡ take b xs
answered_rest b n m xs ys h en em le e =
    rw e (take_shorter b m (slice_set xs n h) (omega (arith, le, em)) ∙
    take_set b n xs h (omega (arith, le, en)))

last_is : (xs : List Held) (i : ℕ) (h : Held) → i + 1 ≡ length xs → h ≡ get_or xs i h →
    h ≡ top xs
last_is [] i h el e = absurd (omega (arith, el))
last_is (x ∷ []) zero h el e = e
last_is (x ∷ y ∷ xs) zero h el e = absurd (omega (arith, el))
last_is (x ∷ []) (suc i) h el e = absurd (omega (arith, el))
last_is (x ∷ y ∷ xs) (suc i) h el e = last_is (y ∷ xs) i h (omega (arith, el)) e

-- the last operand, by its place
pub top_at : (b : ℕ) (xs : List Held) (i : ℕ) (h : Held) → b < length xs → i + 1 ≡ length xs →
    h ≡ get_or xs i h → h ≡ top (drop b xs)
top_at zero xs i h lt el e = last_is xs i h el e
top_at (suc b) [] i h lt el e = absurd (omega (arith, lt))
top_at (suc b) (x ∷ xs) zero h lt el e = absurd (omega (arith, lt, el))
top_at (suc b) (x ∷ xs) (suc i) h lt el e =
    top_at b xs i h (omega (arith, lt)) (omega (arith, el)) e

pub length_front : (n : ℕ) (xs : List Held) → n ≤ length xs → length (take n xs) ≡ n
length_front zero xs le = refl
length_front (suc n) [] le = absurd (omega (arith, le))
length_front (suc n) (x ∷ xs) le = ap (λ (m : ℕ). suc m) (length_front n xs (omega (arith, le)))

-- an operand that has d others above it, by its place
pub peek_at : (b d : ℕ) (xs : List Held) (i : ℕ) (h : Held) → b + d < length xs →
    i + 1 + d ≡ length xs → h ≡ get_or xs i h → h ≡ top (under d (drop b xs))
peek_at b d xs i h lt el e =
    let front : length (take (i + 1) xs) ≡ i + 1 = length_front (i + 1) xs (omega (arith, el)) in
    let there : h ≡ get_or (take (i + 1) xs) i h =
    e ∙ sym (get_or-take (i + 1) xs i h (omega arith)) in
    top_at b (take (i + 1) xs) i h (omega (arith, front, lt, el)) (sym front) there ∙
    ap top (cut_own b d (i + 1) xs (omega (arith, el)) (omega (arith, lt)))

-- ---- operands below a height

below-of : (i n : ℕ) (xs : List Held) → i < length (take n xs) → i < n
below-of i zero xs lt = absurd (omega (arith, lt))
below-of i (suc n) [] lt = absurd (omega (arith, lt))
below-of zero (suc n) (x ∷ xs) lt = omega arith
below-of (suc i) (suc n) (x ∷ xs) lt = omega (arith, below-of i n xs (omega (arith, lt)))

-- an index of the operands lies below the height
pub below_height : (i n : ℕ) (xs : List Held) → i < length (take n xs) → i < n
below_height i n xs lt = below-of i n xs lt

-- a write below the height
pub set_taken : (n i : ℕ) (xs : List Held) (h : Held) → i < n → take n (slice_set xs i h) ≡
    slice_set (take n xs) i h
set_taken zero i xs h lt = absurd (omega (arith, lt))
set_taken (suc n) i [] h lt = refl
set_taken (suc n) zero (x ∷ xs) h lt = refl
set_taken (suc n) (suc i) (x ∷ xs) h lt =
    ap (λ (l : List Held). x ∷ l) (set_taken n i xs h (omega (arith, lt)))

-- an operand below the height
pub at_taken : (i n : ℕ) (xs : List Held) (h : Held) → i < n → n ≤ length xs →
    h ≡ get_or xs i h → operand_at i (take n xs) ≡ h
at_taken i zero xs h lt le e = absurd (omega (arith, lt))
at_taken i (suc n) [] h lt le e = absurd (omega (arith, le))
at_taken zero (suc n) (x ∷ xs) h lt le e = sym e
at_taken (suc i) (suc n) (x ∷ xs) h lt le e =
    at_taken i n xs h (omega (arith, lt)) (omega (arith, le)) e

-- the last operand below the height
pub top_taken : (n : ℕ) (xs : List Held) (h : Held) → 0 < length (take n xs) → n ≤ length xs →
    h ≡ get_or xs (n - 1) h → h ≡ top (take n xs)
top_taken n xs h some le e =
    let low : 0 < n = below-of 0 n xs some in
    let long : length (take n xs) ≡ n = length_front n xs le in
    last_is (take n xs) (n - 1) h (omega (arith, low, long))
    (e ∙ sym (get_or-take n xs (n - 1) h (omega (arith, low))))

-- ---- a frame's operands, which begin at b

pub under_own : (b k : ℕ) (xs : List Held) → b + k ≤ length xs → drop b (under k xs) ≡
    under k (drop b xs)
under_own b k xs le = cut_own b k (length xs - k) xs refl le

under_rest : (b k : ℕ) (xs : List Held) → b + k ≤ length xs → take b (under k xs) ≡ take b xs
under_rest b k xs le = take_shorter b (length xs - k) xs (omega (arith, le))

-- what an operator gives stands in the place of the last two
pub answer_own : (b : ℕ) (xs : List Held) (h : Held) → b + 2 ≤ length xs →
    drop b (under 2 xs ++ h ∷ []) ≡ under 2 (drop b xs) ++ h ∷ []
answer_own b xs h le =
    let short : length (under 2 xs) ≡ length xs - 2 =
    length_front (length xs - 2) xs (omega arith) in
    drop-append-le b (under 2 xs) (h ∷ []) (omega (arith, short, le)) ∙
    ap (λ (l : List Held). l ++ h ∷ []) (under_own b 2 xs le)

pub answer_rest : (b : ℕ) (xs : List Held) (h : Held) → b + 2 ≤ length xs →
    take b (under 2 xs ++ h ∷ []) ≡ take b xs
answer_rest b xs h le =
    let short : length (under 2 xs) ≡ length xs - 2 =
    length_front (length xs - 2) xs (omega arith) in
    take-append-le b (under 2 xs) (h ∷ []) (omega (arith, short, le)) ∙ under_rest b 2 xs le

-- the last operand overwritten
pub put_own : (b : ℕ) (xs : List Held) (h : Held) → b < length xs →
    drop b (below xs ++ h ∷ []) ≡ below (drop b xs) ++ h ∷ []
put_own b xs h lt =
    let short : length (below xs) ≡ length xs - 1 =
    length_front (length xs - 1) xs (omega arith) in
    drop-append-le b (below xs) (h ∷ []) (omega (arith, short, lt)) ∙
    ap (λ (l : List Held). l ++ h ∷ []) (under_own b 1 xs (omega (arith, lt)))

pub put_rest : (b : ℕ) (xs : List Held) (h : Held) → b < length xs →
    take b (below xs ++ h ∷ []) ≡ take b xs
put_rest b xs h lt =
    let short : length (below xs) ≡ length xs - 1 =
    length_front (length xs - 1) xs (omega arith) in
    take-append-le b (below xs) (h ∷ []) (omega (arith, short, lt)) ∙
    under_rest b 1 xs (omega (arith, lt))

-- without the last operand
pub below_own : (b : ℕ) (xs : List Held) → b < length xs → drop b (below xs) ≡ below (drop b xs)
below_own b xs lt = under_own b 1 xs (omega (arith, lt))

pub below_rest : (b : ℕ) (xs : List Held) → b < length xs → take b (below xs) ≡ take b xs
below_rest b xs lt = under_rest b 1 xs (omega (arith, lt))

-- without the last k
pub under_frame : (b k : ℕ) (xs : List Held) → k ≤ length (drop b xs) → b ≤ length xs →
    drop b (under k xs) ≡ under k (drop b xs)
under_frame b k xs le lb = under_own b k xs (omega (arith, le, lb, length-drop b xs))

pub under_others : (b k : ℕ) (xs : List Held) → k ≤ length (drop b xs) → b ≤ length xs →
    take b (under k xs) ≡ take b xs
under_others b k xs le lb = under_rest b k xs (omega (arith, le, lb, length-drop b xs))

-- the first n operands of the frame
pub cut_frame : (b n : ℕ) (xs : List Held) → drop b (take (b + n) xs) ≡ take n (drop b xs)
cut_frame b n xs = drop-take b n xs

pub cut_others : (b n : ℕ) (xs : List Held) → take b (take (b + n) xs) ≡ take b xs
cut_others b n xs = take_shorter b (b + n) xs (omega arith)

last-of : (xs : List Held) (i : ℕ) → i + 1 ≡ length xs → operand_at i xs ≡ top xs
last-of [] i e = absurd (omega (arith, e))
last-of (x ∷ []) zero e = refl
last-of (x ∷ []) (suc i) e = absurd (omega (arith, e))
last-of (x ∷ y ∷ xs) zero e = absurd (omega (arith, e))
last-of (x ∷ y ∷ xs) (suc i) e = last-of (y ∷ xs) i (omega (arith, e))

-- the frame's last operand
pub top_of : (b i : ℕ) (xs : List Held) → b < length xs → i + 1 ≡ length xs → operand_at i xs ≡
    top (drop b xs)
top_of zero i xs lt e = last-of xs i e
top_of (suc b) i [] lt e = absurd (omega (arith, lt))
top_of (suc b) zero (x ∷ xs) lt e = absurd (omega (arith, lt, e))
top_of (suc b) (suc i) (x ∷ xs) lt e = top_of b i xs (omega (arith, lt)) (omega (arith, e))

at-front : (i n : ℕ) (xs : List Held) → i < n → operand_at i (take n xs) ≡ operand_at i xs
at-front i zero xs lt = absurd (omega (arith, lt))
at-front i (suc n) [] lt = refl
at-front zero (suc n) (x ∷ xs) lt = refl
at-front (suc i) (suc n) (x ∷ xs) lt = at-front i n xs (omega (arith, lt))

-- the operand of the frame that has d others above it
pub peek_of : (b d i : ℕ) (xs : List Held) → b + d < length xs → i + 1 + d ≡ length xs →
    operand_at i xs ≡ top (under d (drop b xs))
peek_of b d i xs lt e =
    let front : length (take (i + 1) xs) ≡ i + 1 = length_front (i + 1) xs (omega (arith, e)) in
    sym (at-front i (i + 1) xs (omega arith)) ∙
    (top_of b i (take (i + 1) xs) (omega (arith, front, lt, e)) (sym front) ∙
    ap top (cut_own b d (i + 1) xs (omega (arith, e)) (omega (arith, lt))))

pub top_drop : (b : ℕ) (xs : List Held) → b < length xs → top xs ≡ top (drop b xs)
top_drop b xs lt =
    sym (last-of xs (length xs - 1) (omega (arith, lt))) ∙ top_of b (length xs - 1) xs lt
    (omega (arith, lt))

-- two stretches of operands that follow one another
pub joined_operands : (f b : ℕ) (xs : List Held) → f ≤ b → drop f (take b xs) ++ drop b xs ≡
    drop f xs
joined_operands zero zero xs le = refl
joined_operands (suc f) zero xs le = absurd (omega (arith, le))
joined_operands zero (suc b) [] le = refl
joined_operands zero (suc b) (x ∷ xs) le =
    ap (λ (l : List Held). x ∷ l) (joined_operands zero b xs (omega (arith, le)))
joined_operands (suc f) (suc b) [] le = refl
joined_operands (suc f) (suc b) (x ∷ xs) le = joined_operands f b xs (omega (arith, le))
