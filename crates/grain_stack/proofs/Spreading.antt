-- Values take the place of an operand, for which the operands above it are taken off one by one.
use Rattle.std.proofs.Common.{◌≡◌, ◌∙◌, ◌<◌, ◌≤◌, ℕ, zero, suc, ◌+◌, ◌-◌, List, [], ◌∷◌, ◌++◌, Bool, true, false, if◌then◌else◌, Result, Ok, Err, is_ok, OnOk, length, take, drop, reverse, refl, sym, ap, arith, length-append, length-drop}
use Rattle.std.proofs.lemmas.List.{reverse-append, drop-append-le, drop-drop}
use Rattle.grain_value.specs.declared.values.Held.{Held}
use Rattle.grain_value.specs.Operands.{top, below, under, arguments}
use Rattle.grain_stack.proofs.Lists.{take_shorter, length_front, under_own}

-- one operand less
pub under_more : (i : ℕ) (xs : List Held) → i < length xs → under (i + 1) xs ≡ below (under i xs)
under_more i xs lt =
    let long : length (under i xs) ≡ length xs - i =
    length_front (length xs - i) xs (omega arith) in
    let less : length (under i xs) - 1 ≡ length xs - (i + 1) = omega (arith, long) in
    rw less (sym (take_shorter (length xs - (i + 1)) (length xs - i) xs (omega arith)))

-- the last of a front is the first of what is after one less
front_last : (n : ℕ) (xs : List Held) → n < length xs →
    drop n xs ≡ top (take (suc n) xs) ∷ drop (suc n) xs
front_last n [] lt = absurd (omega (arith, lt))
front_last zero (x ∷ xs) lt = refl
front_last (suc n) (x ∷ []) lt = absurd (omega (arith, lt))
front_last (suc n) (x ∷ y ∷ xs) lt = front_last n (y ∷ xs) (omega (arith, lt))

-- one argument more
pub arguments_more : (i : ℕ) (xs : List Held) → i < length xs →
    arguments (i + 1) xs ≡ top (under i xs) ∷ arguments i xs
arguments_more i xs lt =
    let at : suc (length xs - (i + 1)) ≡ length xs - i = omega (arith, lt) in
    rw (← at) (front_last (length xs - (i + 1)) xs (omega (arith, lt)))

-- what was taken off, with one more
pub taken_more : (i : ℕ) (xs taken now : List Held) (h : Held) → i < length xs →
    taken ≡ reverse (arguments i xs) → h ≡ top (under i xs) → now ≡ taken ++ h ∷ [] →
    now ≡ reverse (arguments (i + 1) xs)
taken_more i xs taken now h lt was is more =
    rw (more, was, is, arguments_more i xs lt)
    (sym (reverse-append (top (under i xs) ∷ []) (arguments i xs)))

-- these in the place of the operand that has d others above it
abbrev pub spread_out : ℕ → List Held → List Held → List Held
spread_out d vs xs = under (d + 1) xs ++ vs ++ arguments d xs

-- what lies under that operand is there, whether or not they are put in its place
front_stays : (b d : ℕ) (xs : List Held) → b + d < length xs → b ≤ length (under (d + 1) xs)
front_stays b d xs lt =
    omega (arith, lt, length_front (length xs - (d + 1)) xs (omega arith))

pub spread_high : (ok : Bool) (b d : ℕ) (xs ys vs : List Held) → b + d < length xs →
    ys ≡ (if ok then spread_out d vs xs else xs) → b ≤ length ys
spread_high true b d xs ys vs lt is = omega (
  arith,
  ap length is,
  front_stays b d xs lt,
  length-append (under (d + 1) xs ++ vs) (arguments d xs),
  length-append (under (d + 1) xs) vs,
)
spread_high false b d xs ys vs lt is = omega (arith, lt, ap length is)

-- the arguments are the frame's own
pub arguments_own : (b d : ℕ) (xs : List Held) → b + d ≤ length xs →
    arguments d xs ≡ arguments d (drop b xs)
arguments_own b d xs le =
    let at : length xs - d ≡ b + (length (drop b xs) - d) = omega (arith, le, length-drop b xs) in
    rw at (sym (drop-drop (length (drop b xs) - d) b xs))

pub spread_own : {A E : Type 0} (r : Result A E) (b d : ℕ) (xs ys vs : List Held) →
    b + d < length xs → ys ≡ (if is_ok r then spread_out d vs xs else xs) →
    OnOk r (drop b ys ≡ spread_out d vs (drop b xs))
spread_own (Ok x) b d xs ys vs lt is =
    let front = front_stays b d xs lt in
    ap (drop b) is
    ∙ drop-append-le b (under (d + 1) xs ++ vs) (arguments d xs)
    (omega (arith, front, length-append (under (d + 1) xs) vs))
    ∙ ap (λ (l : List Held). l ++ arguments d xs)
    (drop-append-le b (under (d + 1) xs) vs front
    ∙ ap (λ (l : List Held). l ++ vs) (under_own b (d + 1) xs (omega (arith, lt))))
    ∙ ap (λ (l : List Held). under (d + 1) (drop b xs) ++ vs ++ l)
    (arguments_own b d xs (omega (arith, lt)))
spread_own (Err e) b d xs ys vs lt is = tt
