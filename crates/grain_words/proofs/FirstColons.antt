-- Where the first colon of a word stands.
use Rattle.std.proofs.Common.{◌≡◌, ◌≢◌, ℕ, zero, suc, ◌+◌, List, [], ◌∷◌, ◌++◌, length, take, drop, Option, Some, None, option_map, refl, sym, ap, ◌∙◌, add-one, append-nil, append_assoc, arith}
use Rattle.std.proofs.lemmas.Bool.{ne_eqb}
use Rattle.grain_words.specs.PositionWords.{at_colon}

-- the characters in front of what stands before the colon
abbrev pub in_front : List ℕ → Option (List ℕ × List ℕ) → Option (List ℕ × List ℕ)
in_front f o = option_map (λ x. (f ++ x.0, x.1)) o

twice : (f : List ℕ) (c : ℕ) (o : Option (List ℕ × List ℕ)) →
    in_front (f ++ c ∷ []) o ≡ in_front f (option_map (λ x. (c ∷ x.0, x.1)) o)
twice f c None = refl
twice f c (Some x) = ap (λ (l : List ℕ). Some (l, x.1)) (append_assoc f (c ∷ []) x.0)

-- the characters so far and the next one
taken : (n c : ℕ) (word after : List ℕ) → drop n word ≡ c ∷ after →
    (take (n + 1) word ≡ take n word ++ c ∷ []) × (drop (n + 1) word ≡ after)
taken zero c [] after e = absurd cc
taken zero c (d ∷ ds) after e = (cc, cc)
taken (suc n) c [] after e = absurd cc
taken (suc n) c (d ∷ ds) after e =
    let h = taken n c ds after e in
    rw add-one (let x : (take (suc n) ds ≡ take n ds ++ c ∷ []) × (drop (suc n) ds ≡ after) =
    rw add-one at h in (ap (λ l. d ∷ l) x.0, x.1))

pub colon_here : (n c : ℕ) (word rest after : List ℕ) → rest ≡ c ∷ after → c ≡ 58 →
    in_front (take n word) (at_colon rest) ≡ at_colon word →
    Some (take n word, after) ≡ at_colon word
colon_here n c word rest after r is e =
    let s : at_colon (c ∷ after) ≡ Some ([], after) = rw is refl in
    ap (λ (l : List ℕ). Some (l, after)) (sym (append-nil (take n word))) ∙
    ap (in_front (take n word)) (sym s ∙ ap at_colon (sym r)) ∙ e

pub colon_later : (n c : ℕ) (word rest after : List ℕ) → rest ≡ c ∷ after → c ≢ 58 →
    drop n word ≡ rest → in_front (take n word) (at_colon rest) ≡ at_colon word →
    (in_front (take (n + 1) word) (at_colon after) ≡ at_colon word) × (drop (n + 1) word ≡ after)
colon_later n c word rest after r other d e =
    let s : at_colon (c ∷ after) ≡ option_map (λ x. (c ∷ x.0, x.1)) (at_colon after) =
    rw (ne_eqb c 58 other) refl in
    let t = taken n c word after (d ∙ r) in (
      ap (λ f. in_front f (at_colon after)) t.0 ∙ twice (take n word) c (at_colon after) ∙
          ap (in_front (take n word)) (sym s ∙ ap at_colon (sym r)) ∙ e,
      t.1,
    )

pub no_colon : (n : ℕ) (word rest : List ℕ) → length rest ≡ 0 →
    in_front (take n word) (at_colon rest) ≡ at_colon word → None ≡ at_colon word
no_colon n word [] z e = e
no_colon n word (c ∷ cs) z e = absurd (omega arith)
