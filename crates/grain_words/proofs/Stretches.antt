-- Where a stretch of characters ends: the word, or the integer, that begins a list of characters.
use Rattle.std.proofs.Common.{◌≡◌, ℕ, suc, ◌+◌, ◌<◌, ◌≤◌, Bool, true, false, not, cond, List, [], ◌∷◌, length, take, drop, Some, None, nat_lt, refl, sym, ap, ◌∙◌, arith}
use Rattle.std.specs.List.{prefix_len, position}
use Rattle.std.proofs.lemmas.Bool.Decides.{nat_tests}
use Rattle.grain_words.specs.Words.{up_to, onward_from}

-- how many characters stand before the first that stops them
abbrev before_stop : (ℕ → Bool) → List ℕ → ℕ
before_stop stops cs = prefix_len (λ c. not (stops c)) cs

one-more : (n : ℕ) → 1 + n ≡ suc n
one-more n = omega arith

front : (stops : ℕ → Bool) (cs : List ℕ) → take (before_stop stops cs) cs ≡ up_to stops cs
front stops [] = refl
front stops (c ∷ cs) = at (stops c) (front stops cs) where
  at : (b : Bool) → take (before_stop stops cs) cs ≡ up_to stops cs →
      take (cond (not b) (1 + before_stop stops cs) 0) (c ∷ cs) ≡ cond b [] (c ∷ up_to stops cs)
  at true more = refl
  at false more = rw one-more (ap (λ l. c ∷ l) more)

others : (stops : ℕ → Bool) (cs : List ℕ) → drop (before_stop stops cs) cs ≡ onward_from stops cs
others stops [] = refl
others stops (c ∷ cs) = at (stops c) (others stops cs) where
  at : (b : Bool) → drop (before_stop stops cs) cs ≡ onward_from stops cs →
      drop (cond (not b) (1 + before_stop stops cs) 0) (c ∷ cs) ≡
      cond b (c ∷ cs) (onward_from stops cs)
  at true more = refl
  at false more = rw one-more more

front_all : (stops : ℕ → Bool) (cs : List ℕ) → length cs ≤ before_stop stops cs →
    (cs ≡ up_to stops cs) × ([] ≡ onward_from stops cs)
front_all stops [] h = (refl, refl)
front_all stops (c ∷ cs) h = at (stops c) (λ e. front_all stops cs e) h where
  at : (b : Bool) →
      (length cs ≤ before_stop stops cs → (cs ≡ up_to stops cs) × ([] ≡ onward_from stops cs)) →
      length (c ∷ cs) ≤ cond (not b) (1 + before_stop stops cs) 0 →
      (c ∷ cs ≡ cond b [] (c ∷ up_to stops cs)) × ([] ≡ cond b (c ∷ cs) (onward_from stops cs))
  at true more h = absurd (omega arith)
  at false more h = let m = more (omega arith) in (ap (λ l. c ∷ l) m.0, m.1)

found : (b : Bool) (k n : ℕ) → cond b (Some k) None ≡ Some n → (b ≡ true) × (k ≡ n)
found true k n e = (refl, cc)
found false k n e = absurd cc

missed : (b : Bool) (k : ℕ) → cond b (Some k) None ≡ None → b ≡ false
missed true k e = absurd cc
missed false k e = refl

beyond : (k m : ℕ) → nat_lt k m ≡ false → m ≤ k
beyond k m e = grind (arith, nat_tests)

below : (k m : ℕ) → nat_lt k m ≡ true → k < m
below k m e = grind (arith, nat_tests)

-- the stretch ends at the first character that stops it
pub found_within : (stops : ℕ → Bool) (cs : List ℕ) (n : ℕ) → position stops cs ≡ Some n →
    n < length cs
found_within stops cs n e =
    let f = found (nat_lt (before_stop stops cs) (length cs)) (before_stop stops cs) n e in
    let w = below (before_stop stops cs) (length cs) f.0 in
    omega (arith, w, f.1)

pub stretch_found : (stops : ℕ → Bool) (cs : List ℕ) (n : ℕ) → position stops cs ≡ Some n →
    take n cs ≡ up_to stops cs
stretch_found stops cs n e =
    let f = found (nat_lt (before_stop stops cs) (length cs)) (before_stop stops cs) n e in
    ap (λ k. take k cs) (sym f.1) ∙ front stops cs

pub rest_found : (stops : ℕ → Bool) (cs : List ℕ) (n : ℕ) → position stops cs ≡ Some n →
    drop n cs ≡ onward_from stops cs
rest_found stops cs n e =
    let f = found (nat_lt (before_stop stops cs) (length cs)) (before_stop stops cs) n e in
    ap (λ k. drop k cs) (sym f.1) ∙ others stops cs

-- without such a character it is all of them
pub stretch_whole : (stops : ℕ → Bool) (cs : List ℕ) → position stops cs ≡ None →
    cs ≡ up_to stops cs
stretch_whole stops cs e =
    let m = missed (nat_lt (before_stop stops cs) (length cs)) (before_stop stops cs) e in
    (front_all stops cs (beyond (before_stop stops cs) (length cs) m)).0

pub rest_none : (stops : ℕ → Bool) (cs : List ℕ) → position stops cs ≡ None →
    [] ≡ onward_from stops cs
rest_none stops cs e =
    let m = missed (nat_lt (before_stop stops cs) (length cs)) (before_stop stops cs) e in
    (front_all stops cs (beyond (before_stop stops cs) (length cs) m)).1
