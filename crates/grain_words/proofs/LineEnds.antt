-- Where a line ends.
use Rattle.std.proofs.Common.{◌≡◌, ◌≢◌, ℕ, zero, suc, ◌+◌, ◌<◌, ◌≤◌, Bool, true, false, not, ◌&&◌, cond, List, [], ◌∷◌, ◌++◌, length, take, drop, Some, None, nat_lt, ◌==◌, refl, sym, ap, ◌∙◌, arith}
use Rattle.std.specs.List.{prefix_len, position}
use Rattle.std.proofs.lemmas.Bool.{ne_eqb}
use Rattle.std.proofs.lemmas.Bool.Decides.{nat_tests}
use Rattle.grain_words.specs.Lines.{lines_of, onto, begins, without_return}

-- how many characters stand before the first LF
abbrev before_end : List ℕ → ℕ
before_end text = prefix_len (λ c. not (c == 10)) text

is_end : (b : Bool) (n : ℕ) → zero ≡ cond (not b) (1 + n) 0 → b ≡ true
is_end true n e = refl
is_end false n e = absurd (omega arith)

is_more : (b : Bool) (j n : ℕ) → suc j ≡ cond (not b) (1 + n) 0 → b ≡ false
is_more true j n e = absurd (omega arith)
is_more false j n e = refl

not_end : (b : Bool) (m n : ℕ) → suc m ≤ cond (not b) (1 + n) 0 → b ≡ false
not_end true m n h = absurd (omega arith)
not_end false m n h = refl

-- a character that is no CR before LF stays
kept : (a b : Bool) (ls more all : List (List ℕ)) → b ≡ false → more ≡ all →
    cond (a && b) ls more ≡ all
kept true b ls more all t h = rw t h
kept false b ls more all t h = h

-- a character before LF stays unless it is a CR
dropped : (a b : Bool) (c : ℕ) (ls others : List (List ℕ)) → b ≡ true → ls ≡ [] ∷ others →
    cond (a && b) ls (onto c ls) ≡ cond a [] (c ∷ []) ∷ others
dropped true b c ls others t e = rw t e
dropped false b c ls others t e = ap (onto c) e

longer : (c k : ℕ) (cs : List ℕ) → k ≡ before_end cs → k < length cs →
    lines_of cs ≡ without_return (take k cs) ∷ lines_of (drop (k + 1) cs) →
    cond ((c == 13) && begins 10 cs) (lines_of cs) (onto c (lines_of cs)) ≡
    without_return (c ∷ take k cs) ∷ lines_of (drop (k + 1) cs)
longer c k [] is h e = absurd (omega arith)
longer c zero (d ∷ ds) is h e =
    dropped (c == 13) (d == 10) c (lines_of (d ∷ ds)) (lines_of ds)
    (is_end (d == 10) (before_end ds) is) e
longer c (suc j) (d ∷ ds) is h e =
    kept (c == 13) (d == 10) (lines_of (d ∷ ds)) (onto c (lines_of (d ∷ ds))) _
    (is_more (d == 10) j (before_end ds) is) (ap (onto c) e)

cut : (text : List ℕ) → before_end text < length text →
    lines_of text ≡ without_return (take (before_end text) text) ∷
    lines_of (drop (before_end text + 1) text)
cut [] h = absurd (omega arith)
cut (c ∷ cs) h = at (c == 10) (cut cs) h where
  at : (b : Bool) → (before_end cs < length cs →
      lines_of cs ≡ without_return (take (before_end cs) cs) ∷
      lines_of (drop (before_end cs + 1) cs)) →
      cond (not b) (1 + before_end cs) 0 < suc (length cs) →
      cond b ([] ∷ lines_of cs) (cond ((c == 13) && begins 10 cs) (lines_of cs)
      (onto c (lines_of cs))) ≡ without_return (take (cond (not b) (1 + before_end cs) 0) (c ∷ cs))
      ∷ lines_of (drop (cond (not b) (1 + before_end cs) 0 + 1) (c ∷ cs))
  at true others h = refl
  at false others h =
      let inside : before_end cs < length cs = omega arith in
      let one : 1 + before_end cs ≡ suc (before_end cs) = omega arith in
      let two : suc (before_end cs) + 1 ≡ suc (before_end cs + 1) = omega arith in
      rw one (rw two (longer c (before_end cs) cs refl inside (others inside)))

whole : (text : List ℕ) → length text ≤ before_end text → 0 < length text →
    lines_of text ≡ text ∷ []
whole [] h some = absurd (omega arith)
whole (c ∷ []) h some = at (c == 10) h where
  at : (b : Bool) → 1 ≤ cond (not b) (1 + 0) 0 →
      cond b ([] ∷ []) (cond ((c == 13) && false) [] ((c ∷ []) ∷ [])) ≡ (c ∷ []) ∷ []
  at true h = absurd (omega arith)
  at false h = kept (c == 13) false [] ((c ∷ []) ∷ []) ((c ∷ []) ∷ []) refl refl
whole (c ∷ d ∷ cs) h some = at (c == 10) (λ e. whole (d ∷ cs) e (omega arith)) h where
  at : (b : Bool) → (length (d ∷ cs) ≤ before_end (d ∷ cs) → lines_of (d ∷ cs) ≡ (d ∷ cs) ∷ []) →
      suc (length (d ∷ cs)) ≤ cond (not b) (1 + before_end (d ∷ cs)) 0 →
      cond b ([] ∷ lines_of (d ∷ cs))
      (cond ((c == 13) && (d == 10)) (lines_of (d ∷ cs)) (onto c (lines_of (d ∷ cs)))) ≡
      (c ∷ d ∷ cs) ∷ []
  at true others h = absurd (omega arith)
  at false others h =
      let more : length (d ∷ cs) ≤ before_end (d ∷ cs) = omega arith in
      kept (c == 13) (d == 10) (lines_of (d ∷ cs)) (onto c (lines_of (d ∷ cs))) ((c ∷ d ∷ cs) ∷ [])
      (not_end (d == 10) (length cs) (before_end cs) more) (ap (onto c) (others more))

found : (b : Bool) (k n : ℕ) → cond b (Some k) None ≡ Some n → (b ≡ true) × (k ≡ n)
found true k n e = (refl, cc)
found false k n e = absurd cc

missed : (b : Bool) (k : ℕ) → cond b (Some k) None ≡ None → b ≡ false
missed true k e = absurd cc
missed false k e = refl

below : (k m : ℕ) → nat_lt k m ≡ true → k < m
below k m e = grind (arith, nat_tests)

beyond : (k m : ℕ) → nat_lt k m ≡ false → m ≤ k
beyond k m e = grind (arith, nat_tests)

-- the place of the first LF is inside the text
pub found_within : (text : List ℕ) (n : ℕ) → position (λ c. c == 10) text ≡ Some n → n < length text
found_within text n e =
    let f = found (nat_lt (before_end text) (length text)) (before_end text) n e in
    let w = below (before_end text) (length text) f.0 in
    omega (arith, w, f.1)

-- the first line ends at the first LF, or at a CR before it
pub line_cut : (text : List ℕ) (n : ℕ) → position (λ c. c == 10) text ≡ Some n →
    lines_of text ≡ without_return (take n text) ∷ lines_of (drop (n + 1) text)
line_cut text n e =
    let f = found (nat_lt (before_end text) (length text)) (before_end text) n e in
    let w = below (before_end text) (length text) f.0 in
    let s : lines_of text ≡ without_return (take (before_end text) text) ∷
    lines_of (drop (before_end text + 1) text) = cut text w in
    rw f.1 at s

-- without LF all is one line
pub line_whole : (text : List ℕ) → position (λ c. c == 10) text ≡ None → 0 < length text →
    lines_of text ≡ text ∷ []
line_whole text e some =
    let m = missed (nat_lt (before_end text) (length text)) (before_end text) e in
    whole text (beyond (before_end text) (length text) m) some

dropped_last : (front : List ℕ) → without_return (front ++ 13 ∷ []) ≡ front
dropped_last [] = refl
dropped_last (c ∷ []) = refl
dropped_last (c ∷ d ∷ cs) = ap (λ l. c ∷ l) (dropped_last (d ∷ cs))

kept_last : (front : List ℕ) (x : ℕ) → x ≢ 13 → without_return (front ++ x ∷ []) ≡ front ++ x ∷ []
kept_last [] x h = rw (ne_eqb x 13 h) refl
kept_last (c ∷ []) x h = rw (ne_eqb x 13 h) refl
kept_last (c ∷ d ∷ cs) x h = ap (λ l. c ∷ l) (kept_last (d ∷ cs) x h)

-- a CR at the end is dropped
pub return_dropped : (line front : List ℕ) (x : ℕ) → line ≡ front ++ x ∷ [] → x ≡ 13 →
    front ≡ without_return line
return_dropped line front x e is =
    sym (ap without_return e ∙ ap (λ y. without_return (front ++ y ∷ [])) is ∙ dropped_last front)

-- what ends otherwise stays
pub return_missing : (line front : List ℕ) (x : ℕ) → line ≡ front ++ x ∷ [] → x ≢ 13 →
    line ≡ without_return line
return_missing line front x e other = e ∙ sym (ap without_return e ∙ kept_last front x other)

pub nothing_dropped : (line : List ℕ) → length line ≡ 0 → line ≡ without_return line
nothing_dropped [] e = refl
nothing_dropped (c ∷ cs) e = absurd (omega arith)
