-- Cells that are not lent, and are not lent later.
use Rattle.std.proofs.Common.{◌≡◌, ℕ, zero, suc, List, [], ◌∷◌, ◌++◌, Option, Some, None, Bool, true, false, refl}
use Rattle.std.specs.Prelude.{slice_get, slice_set}
use Rattle.grain_value.specs.Cells.{content, flat, idle}
use Rattle.grain_value.specs.Looking.{cell_of}
use Rattle.grain_value.specs.declared.stores.Cell.{Cell}
use Rattle.grain_value.specs.declared.values.Dynamic.{Dynamic}
use Rattle.grain_value.specs.declared.values.Held.{Held}
use Rattle.grain_value.specs.Tree.{Tree}
use Rattle.grain_host.specs.Law.{Law}
use Rattle.grain_host.specs.Law as reply
use Rattle.grain_means.specs.Rules.{Home, InScope, InCell, AtPlace, Receiver, back_in_cells, cells_given_back, cells_lent, cells_with}

-- each of the cells is still there, and is not lent if it was not
abbrev pub Unlent : List Cell → List Cell → Type 0
Unlent [] cells = Unit {0}
Unlent (c ∷ cs) [] = ⊥
Unlent (c ∷ cs) (d ∷ ds) = (c.busy ≡ false → d.busy ≡ false) × Unlent cs ds

-- the same, but the cell of this number may be lent
abbrev pub UnlentBut : ℕ → List Cell → List Cell → Type 0
UnlentBut n [] cells = Unit {0}
UnlentBut n (c ∷ cs) [] = ⊥
UnlentBut zero (c ∷ cs) (d ∷ ds) = Unlent cs ds
UnlentBut (suc n) (c ∷ cs) (d ∷ ds) = (c.busy ≡ false → d.busy ≡ false) × UnlentBut n cs ds

-- the same, if there is such a number
abbrev pub Beyond : Option ℕ → List Cell → List Cell → Type 0
Beyond None a b = Unlent a b
Beyond (Some n) a b = UnlentBut n a b

pub unlent_same : (a : List Cell) → Unlent a a
unlent_same [] = tt
unlent_same (c ∷ cs) = (λ e. e, unlent_same cs)

pub unlent_on : (a b c : List Cell) → Unlent a b → Unlent b c → Unlent a c
unlent_on [] b c one two = tt
unlent_on (x ∷ xs) [] c one two = absurd one
unlent_on (x ∷ xs) (y ∷ ys) [] one two = absurd two
unlent_on (x ∷ xs) (y ∷ ys) (z ∷ zs) one two =
    (λ e. two.0 (one.0 e), unlent_on xs ys zs one.1 two.1)

but_on : (n : ℕ) (a b c : List Cell) → UnlentBut n a b → Unlent b c → UnlentBut n a c
but_on n [] b c one two = tt
but_on n (x ∷ xs) [] c one two = absurd one
but_on n (x ∷ xs) (y ∷ ys) [] one two = absurd two
but_on zero (x ∷ xs) (y ∷ ys) (z ∷ zs) one two = unlent_on xs ys zs one two.1
but_on (suc n) (x ∷ xs) (y ∷ ys) (z ∷ zs) one two =
    (λ e. two.0 (one.0 e), but_on n xs ys zs one.1 two.1)

pub beyond_on : (away : Option ℕ) (a b c : List Cell) → Beyond away a b → Unlent b c →
    Beyond away a c
beyond_on None a b c one two = unlent_on a b c one two
beyond_on (Some n) a b c one two = but_on n a b c one two

-- cells are added
pub unlent_more : (a more : List Cell) → Unlent a (a ++ more)
unlent_more [] more = tt
unlent_more (c ∷ cs) more = (λ e. e, unlent_more cs more)

-- one is written
pub unlent_idle : (a : List Cell) (n : ℕ) (h : Held) → Unlent a (slice_set a n (idle h))
unlent_idle [] n h = tt
unlent_idle (c ∷ cs) zero h = (λ e. refl, unlent_same cs)
unlent_idle (c ∷ cs) (suc n) h = (λ e. e, unlent_idle cs n h)

-- one is lent, and goes back
pub lent_out : (a b : List Cell) (n : ℕ) (c : Cell) → Unlent a b → UnlentBut n a (slice_set b n c)
lent_out [] b n c one = tt
lent_out (x ∷ xs) [] n c one = absurd one
lent_out (x ∷ xs) (y ∷ ys) zero c one = one.1
lent_out (x ∷ xs) (y ∷ ys) (suc n) c one = (one.0, lent_out xs ys n c one.1)

pub lent_back : (a b : List Cell) (n : ℕ) (h : Held) → UnlentBut n a b →
    Unlent a (slice_set b n (idle h))
lent_back [] b n h one = tt
lent_back (x ∷ xs) [] n h one = absurd one
lent_back (x ∷ xs) (y ∷ ys) zero h one = (λ e. refl, one)
lent_back (x ∷ xs) (y ∷ ys) (suc n) h one = (one.0, lent_back xs ys n h one.1)

-- the number of the cell from which a native is lent what it is lent
abbrev pub cell_at : Home → Option ℕ
cell_at (InScope i) = None
cell_at (InCell n) = Some n
cell_at (AtPlace p) = None

abbrev pub cell_away : Option Receiver → Option ℕ
cell_away None = None
cell_away (Some r) = cell_at r.home

pub given_out : (a : List Cell) (r : Option Receiver) (cells : List Cell) → Unlent a cells →
    Beyond (cell_away r) a (cells_lent r cells)
given_out a None cells one = one
given_out a (Some r) cells one = at r.home where
  at : (home : Home) → Beyond (cell_at home) a (cells_lent (Some (record r { home = home })) cells)
  at (InScope i) = one
  at (InCell n) = lent_out a cells n _ one
  at (AtPlace p) = one

pub given_in : (a : List Cell) (r : Option Receiver) (cells : List Cell) →
    Beyond (cell_away r) a cells → Unlent a (cells_with r cells)
given_in a None cells one = one
given_in a (Some r) cells one = at r.home one where
  at : (home : Home) → Beyond (cell_at home) a cells → Unlent a (back_in_cells home r.held cells)
  at (InScope i) one = one
  at (InCell n) one = lent_back a cells n r.held one
  at (AtPlace p) one = one

-- the host answered a native at once
pub unlent_given : {S : Type 0} (law : Law S) (host : S) (key : ℕ) (values : List Tree)
    (r : Option Receiver) (cells : List Cell) →
    Unlent cells (cells_given_back law host key values r cells)
unlent_given law host key values None cells = unlent_same cells
unlent_given law host key values (Some q) cells = at q.home where
  h : Held
  h = reply.written law host key values q.held

  at : (home : Home) → Unlent cells (back_in_cells home h cells)
  at (InScope i) = unlent_same cells
  at (InCell n) = unlent_idle cells n h
  at (AtPlace p) = unlent_same cells

-- what could be read can be read
content_stays : (a b : List Cell) (n : ℕ) (v : Dynamic) → content (slice_get a n) ≡ Some v →
    Unlent a b → (u : Dynamic) × (content (slice_get b n) ≡ Some u)
content_stays [] b n v e one = absurd cc
content_stays (x ∷ xs) [] n v e one = absurd one
content_stays (x ∷ xs) (y ∷ ys) zero v e one = (y.held.value, rw (one.0 (free x.busy refl)) refl) where
  free : (busy : Bool) → x.busy ≡ busy → x.busy ≡ false
  free false is = is
  free true is = let none : None ≡ Some v = rw is at e in absurd cc
content_stays (x ∷ xs) (y ∷ ys) (suc n) v e one = content_stays xs ys n v e one.1

pub flat_stays : (a b : List Cell) (v u : Dynamic) → flat a v ≡ Some u → Unlent a b →
    (w : Dynamic) × (flat b v ≡ Some w)
flat_stays a b v u e one = by_cell (cell_of v) refl where
  by_cell : (cell : Option ℕ) → cell_of v ≡ cell → (w : Dynamic) × (flat b v ≡ Some w)
  by_cell None is = (v, rw is refl)
  by_cell (Some n) is =
      let there = content_stays a b n u (rw is at e) one in (there.0, rw is there.1)

-- what is lent later was lent before, or was not there
lent_at : (a b : List Cell) (n : ℕ) → Unlent a b → content (slice_get b n) ≡ None →
    content (slice_get a n) ≡ None
lent_at [] b n one none = refl
lent_at (x ∷ xs) [] n one none = absurd one
lent_at (x ∷ xs) (y ∷ ys) zero one none = by_busy x.busy refl where
  by_busy : (busy : Bool) → x.busy ≡ busy → content (Some x) ≡ None
  by_busy true e = rw e refl
  by_busy false e = let there : Some y.held.value ≡ None = rw (one.0 e) at none in absurd cc
lent_at (x ∷ xs) (y ∷ ys) (suc n) one none = lent_at xs ys n one.1 none

pub lent_before : (a b : List Cell) → Unlent a b → (v : Dynamic) → flat b v ≡ None →
    flat a v ≡ None
lent_before a b one v none = by_cell (cell_of v) refl where
  by_cell : (c : Option ℕ) → cell_of v ≡ c → flat a v ≡ None
  by_cell None e = let there : Some v ≡ None = rw e at none in absurd cc
  by_cell (Some n) e = rw e (lent_at a b n one (rw e at none))
