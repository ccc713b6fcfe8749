-- The text before a colon at the end of a word.
use Rattle.std.proofs.Common.{◌≡◌, ◌≢◌, ℕ, List, [], ◌∷◌, ◌++◌, length, Some, None, option_map, refl, sym, ap, ◌∙◌, arith}
use Rattle.std.proofs.lemmas.Bool.{ne_eqb}
use Rattle.grain_listing.specs.LineMeanings.{before_colon}

-- what stands before a last colon is found
stands : (t : List ℕ) → before_colon (t ++ 58 ∷ []) ≡ Some t
stands [] = refl
stands (c ∷ []) = refl
stands (c ∷ d ∷ t) = ap (option_map (λ x. c ∷ x)) (stands (d ∷ t))

misses : (t : List ℕ) (x : ℕ) → x ≢ 58 → before_colon (t ++ x ∷ []) ≡ None
misses [] x h = rw (ne_eqb x 58 h) refl
misses (c ∷ []) x h = rw (ne_eqb x 58 h) refl
misses (c ∷ d ∷ t) x h = ap (option_map (λ l. c ∷ l)) (misses (d ∷ t) x h)

pub colon_last : (word front : List ℕ) (x : ℕ) → word ≡ front ++ x ∷ [] → x ≡ 58 →
    Some front ≡ before_colon word
colon_last word front x e is =
    sym (ap before_colon e ∙ ap (λ y. before_colon (front ++ y ∷ [])) is ∙ stands front)

pub other_last : (word front : List ℕ) (x : ℕ) → word ≡ front ++ x ∷ [] → x ≢ 58 →
    None ≡ before_colon word
other_last word front x e other = sym (ap before_colon e ∙ misses front x other)

pub none_last : (word : List ℕ) → length word ≡ 0 → None ≡ before_colon word
none_last [] e = refl
none_last (c ∷ cs) e = absurd (omega arith)
