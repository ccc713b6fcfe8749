-- The line that gives a byte is the last of those that begin at it or before.
use Rattle.std.proofs.Common.{◌≡◌, ℕ, zero, suc, ◌+◌, ◌<◌, ◌≤◌, Bool, true, false, cond, ◌&&◌, nat_le, nat_lt, List, [], ◌∷◌, length, get_or, Option, Some, None, refl, sym, ap, ◌∙◌, arith}
use Rattle.std.proofs.lemmas.Bool.Decides.{nat_tests}
use Rattle.std.specs.List.Sorted.{IsPartitionedBy, IsPartitionPoint}
use Rattle.grain_addresses.specs.Places.{Place}
use Rattle.grain_addresses.specs.Finding.{holds, found, IsTiled}

-- the line begins at the address or before
abbrev pub begins_by : ℕ → Place → Bool
begins_by a p = nat_le p.address a

-- the first n lines begin at the address or before, and the others after it
abbrev pub IsCut : ℕ → List Place → ℕ → Type 0
IsCut a ps n = IsPartitionPoint (λ y. begins_by a y ≡ true) (λ y. begins_by a y ≡ false) ps n

above : (m a : ℕ) → nat_le m a ≡ false → a < m
above m a h = grind (arith, nat_tests)

below : (m a : ℕ) → nat_le m a ≡ true → m ≤ a
below m a h = grind (arith, nat_tests)

not_yet : (a : ℕ) (p : Place) → a < p.address → holds a p ≡ false
not_yet a p h =
    let no : nat_le p.address a ≡ false = grind (arith, nat_tests) in
    ap (λ (b : Bool). b && nat_lt a (p.address + p.width)) no

no_more : (b : Bool) → (b && false) ≡ false
no_more true = refl
no_more false = refl

pub past : (a : ℕ) (p : Place) → p.address + p.width ≤ a → holds a p ≡ false
past a p h =
    let no : nat_lt a (p.address + p.width) ≡ false = grind (arith, nat_tests) in
    ap (λ (b : Bool). nat_le p.address a && b) no ∙ no_more (nat_le p.address a)

-- no line that begins after the address gives its byte
none_later : (a b : ℕ) (ps : List Place) → a < b → IsTiled b ps → found a ps ≡ None
none_later a b [] l t = refl
none_later a b (p ∷ ps) l t =
    let misses : holds a p ≡ false = not_yet a p (omega (arith, t.0)) in
    rw misses (none_later a (b + p.width) ps (omega arith) t.2)

behind : (a : ℕ) (p : Place) (ps : List Place) (n : ℕ) → IsCut a (p ∷ ps) (suc n) → IsCut a ps n
behind a p ps n c = (
  λ k d low high. c.0 (suc k) d (omega arith) (omega arith),
  λ k d low high. c.1 (suc k) d (omega arith) (omega arith),
)

-- what is found where no line begins at the address or before
pub none_begun : (a b : ℕ) (ps : List Place) → IsTiled b ps → IsCut a ps 0 → found a ps ≡ None
none_begun a b [] t c = refl
none_begun a b (p ∷ ps) t c =
    let l : a < p.address = above p.address a (c.1 0 p (omega arith) (omega arith)) in
    none_later a b (p ∷ ps) (omega (arith, l, t.0)) t

-- what is found where n + 1 lines begin at the address or before
pub last_begun : (a b : ℕ) (ps : List Place) (n : ℕ) (x : Place) → IsTiled b ps →
    IsCut a ps (suc n) → n < length ps → x ≡ get_or ps n x →
    found a ps ≡ cond (holds a x) (Some x) None
last_begun a b [] n x t c h is = absurd (omega arith)
last_begun a b (p ∷ ps) zero x t c h is =
    let none : found a ps ≡ None = none_begun a (b + p.width) ps t.2 (behind a p ps 0 c) in
    ap (λ (o : Option Place). cond (holds a p) (Some p) o) none ∙
    ap (λ (y : Place). cond (holds a y) (Some y) None) (sym is)
last_begun a b (p ∷ []) (suc n) x t c h is = absurd (omega arith)
last_begun a b (p ∷ q ∷ qs) (suc n) x t c h is =
    let before : q.address ≤ a = below q.address a (c.0 1 q (omega arith) (omega arith)) in
    let misses : holds a p ≡ false = past a p (omega (arith, before, t.0, t.2.0)) in
    rw misses (last_begun a (b + p.width) (q ∷ qs) n x t.2 (behind a p (q ∷ qs) (suc n) c)
    (omega arith) is)

-- lines whose bytes follow one another begin one after the other
all_later : (a b : ℕ) (ps : List Place) (i : ℕ) (d : Place) → IsTiled b ps → i < length ps →
    b ≤ (get_or ps i d).address
all_later a b [] i d t h = absurd (omega arith)
all_later a b (p ∷ ps) zero d t h = omega (arith, t.0)
all_later a b (p ∷ ps) (suc i) d t h =
    let later = all_later a (b + p.width) ps i d t.2 (omega arith) in
    omega (arith, later)

in_order : (a b : ℕ) (ps : List Place) (i j : ℕ) (d : Place) → IsTiled b ps → i ≤ j →
    j < length ps → (get_or ps i d).address ≤ (get_or ps j d).address
in_order a b [] i j d t l h = absurd (omega arith)
in_order a b (p ∷ ps) zero zero d t l h = omega arith
in_order a b (p ∷ ps) zero (suc j) d t l h =
    let later = all_later a (b + p.width) ps j d t.2 (omega arith) in
    omega (arith, later, t.0)
in_order a b (p ∷ ps) (suc i) zero d t l h = absurd (omega arith)
in_order a b (p ∷ ps) (suc i) (suc j) d t l h =
    in_order a (b + p.width) ps i j d t.2 (omega arith) (omega arith)

lower : (m n a : ℕ) → m ≤ n → nat_le n a ≡ true → nat_le m a ≡ true
lower m n a l h = grind (arith, nat_tests)

pub partitioned : (a b : ℕ) (ps : List Place) → IsTiled b ps → IsPartitionedBy (begins_by a) ps
partitioned a b ps t = λ i j d low high holds_there.
    lower (get_or ps i d).address (get_or ps j d).address a (in_order a b ps i j d t low high)
    holds_there
