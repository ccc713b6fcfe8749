-- The world once a native was told, by what it was lent.
use Rattle.std.proofs.Common.{◌≡◌, ◌∙◌, ℕ, List, Option, Some, None, Bool, false, refl, sym, ap, subst}
use Rattle.std.specs.Prelude.{slice_set}
use Rattle.grain_value.specs.Cells.{idle}
use Rattle.grain_value.specs.Operands.{read_write}
use Rattle.grain_value.specs.declared.scopes.Entry.{Entry}
use Rattle.grain_value.specs.declared.stores.Cell.{Cell}
use Rattle.grain_value.specs.declared.values.Dynamic.{Dynamic}
use Rattle.grain_value.specs.declared.values.Held.{Held}
use Rattle.grain_fault.specs.declared.traces.Fault.{Fault}
use Rattle.grain_global.specs.StepsView.{StepsView}
use Rattle.grain_means.specs.Worlds.{Place, Receiver, World}
use Rattle.grain_means.specs.Rules.{cells_with, roots_with, scope_with}
use Rattle.grain_means.specs.Simulation.{Binds, Environment, after, puts, world}
use Rattle.grain_means.specs.lemmas.PlaceLaws.{find-put}
use Rattle.grain_means.specs.lemmas.Roots.{puts-bound}
use Rattle.grain_frame.specs.Abstraction.{abstraction, this_of}
use Rattle.grain_frame.specs.Targets.{CanBeLent, HoldsWritable, content_at, home_of, put_in}
use Rattle.grain_frame.specs.Waiting.{IsKept, IsKeptAt, LeavesLent, apart_of, beside, given_back_run, held_of_lent, receiver_in, state_after, state_with}
use Rattle.grain_frame.specs.declared.runs.Run.{Run}
use Rattle.grain_frame.specs.declared.targets.Target.{Target}
use Rattle.grain_frame.specs.declared.targets.Target.TheVariants as to
use Rattle.grain_frame.specs.declared.waiting.Loan.{Loan}
use Rattle.grain_frame.specs.declared.waiting.Loan.TheVariants as have
use Rattle.grain_frame.specs.lemmas.Entries.{is_within}
use Rattle.grain_frame.proofs.Holding.{content_beside, put_content}
use Rattle.grain_frame.proofs.Homes.{put_binds, put_world}
use Rattle.grain_frame.proofs.Targeting.{lends_beside, plain_there, put_same}

-- what is kept at a target can be lent again
pub kept_again : {H : Type 0} (s : Run H) (t : Target) → IsKeptAt s t → CanBeLent s t
kept_again s (to.Entry i) kept = is_within s.scope i (read_write (content_at s (to.Entry i))) kept
kept_again s (to.Cell n) kept = absurd kept
kept_again s to.This kept = plain_there (this_of s) (read_write (content_at s to.This)) kept refl

pub kept_writable : {H : Type 0} (s : Run H) (t : Target) → IsKeptAt s t → HoldsWritable s t
kept_writable s (to.Entry i) kept = kept
kept_writable s (to.Cell n) kept = absurd kept
kept_writable s to.This kept = kept

-- what a native has, once it left this of it
abbrev pub with_left : Option Receiver → Option Held → Option Receiver
with_left None left = None
with_left (Some r) None = Some r
with_left (Some r) (Some h) = Some (record r { held = h })

-- what it left has the flag of what it was lent
abbrev pub KeepsFlag : {H : Type 0} → Run H → Loan → Option Held → Type 0
KeepsFlag s l None = Unit {0}
KeepsFlag s have.Nothing (Some h) = Unit {0}
KeepsFlag s (have.Target t) (Some h) = h.read_only ≡ false
KeepsFlag s (have.Cell n g) (Some h) = h.read_only ≡ g.read_only
KeepsFlag s (have.Apart g) (Some h) = h.read_only ≡ g.read_only

module _ {H : Type 0} (s : Run H) (u : Environment) (place : Option Place) (scope : List Entry)
    (x : Option Held) (n : StepsView) (host host' : H) (k : ℕ) (trace : List Fault) where
  -- the run with this trace
  abbrev traced : Run H → Run H
  traced q = record q { stacks = record q.stacks { trace = trace } }

  abbrev counts : StepsView
  counts = record n { passed = k }

  -- the world as the meaning has it, if what was lent is now this
  abbrev told_world : World H → Option Receiver → World H
  told_world w r = record w {
    host = host';
    scope = scope_with r w.scope;
    roots = roots_with r w.roots;
    trace = trace;
    passed = k;
  }

  abbrev back_world : World H → Option Receiver → World H
  back_world w r = record w {
    host = host';
    scope = scope_with r w.scope;
    roots = roots_with r w.roots;
    cells = cells_with r w.cells;
    trace = trace;
    passed = k;
  }

  -- the code's state is this world
  abbrev IsWorld : World H → (scope : List Entry) → (this : Option Held) → Run H → Type 0
  IsWorld w es this q = Binds (puts u.roots place this) place this
      × (w ≡ world (beside es this q counts host') (after u place this))

  -- nothing of the roots changed
  same_roots : (this : Option Held) → Binds u.roots place this →
      Binds (puts u.roots place this) place this
  same_roots this bound = rw (puts-bound u.roots place this bound) bound

  unchanged : (this : Option Held) (q : Run H) → Binds u.roots place this →
      world (beside scope this q counts host') u
      ≡ world (beside scope this q counts host') (after u place this)
  unchanged this q bound =
      ap (λ (roots : List Held). world (beside scope this q counts host')
      (record u { roots = roots })) (sym (puts-bound u.roots place this bound))

  -- what stands nowhere in the run is now this
  apart_binds : (g h : Held) (place : Option Place) → h.read_only ≡ g.read_only →
      Binds u.roots place (Some g) → Binds (puts u.roots place (Some h)) place (Some h)
  apart_binds g h None flag bound = absurd bound
  apart_binds g h (Some p) flag bound =
      find-put u.roots p g h.value bound
      ∙ ap (λ (b : Bool). Some (record { value = h.value; read_only = b })) (sym flag)

  apart_world : (g h : Held) (place : Option Place) → Binds u.roots place (Some g) →
      told_world (world (beside scope (Some g) s n host) u)
      (Some (record { home = home_of to.This place; held = h }))
      ≡ world (beside scope (Some h) (traced s) counts host') (after u place (Some h))
  apart_world g h None bound = absurd bound
  apart_world g h (Some p) bound = refl

  apart_back : (g h : Held) (place : Option Place) → Binds u.roots place (Some g) →
      back_world (world (beside scope (Some g) s n host) u)
      (Some (record { home = home_of to.This place; held = h }))
      ≡ world (beside scope (Some h) (traced s) counts host') (after u place (Some h))
  apart_back g h None bound = absurd bound
  apart_back g h (Some p) bound = refl

  -- what stands at a target is back
  traced_put : (t : Target) (h : Held) → traced (put_in s t h) ≡ put_in (traced s) t h
  traced_put (to.Entry i) h = refl
  traced_put (to.Cell c) h = refl
  traced_put to.This h = refl

  lends_traced : (t : Target) → CanBeLent s t → CanBeLent (traced s) t
  lends_traced t can = lends_beside s (record s.stacks { trace = trace }) t can

  target_back : (t : Target) (h : Held) → IsKeptAt s t → h.read_only ≡ false →
      Binds u.roots place (this_of s) → Binds (puts u.roots place (this_of (traced (put_in s t h))))
      place (this_of (traced (put_in s t h)))
      × (back_world (world (abstraction s n host) u)
      (Some (record { home = home_of t place; held = h }))
      ≡ world (abstraction (traced (put_in s t h)) counts host')
      (after u place (this_of (traced (put_in s t h)))))
  target_back t h kept plain bound =
      subst (λ (q : Run H). Binds (puts u.roots place (this_of q)) place (this_of q)
      × (back_world (world (abstraction s n host) u)
      (Some (record { home = home_of t place; held = h }))
      ≡ world (abstraction q counts host') (after u place (this_of q)))) (sym (traced_put t h)) (
        put_binds (traced s) u place bound t h (lends_traced t (kept_again s t kept)) plain,
        sym (put_world (traced s) u place bound counts host' t h
            (lends_traced t (kept_again s t kept)) plain),
      )

  cells_same : (t : Target) (h : Held) (place : Option Place) (cells : List Cell) → IsKeptAt s t →
      cells_with (Some (record { home = home_of t place; held = h })) cells ≡ cells
  cells_same (to.Entry i) h place cells kept = refl
  cells_same (to.Cell c) h place cells kept = absurd kept
  cells_same to.This h None cells kept = refl
  cells_same to.This h (Some p) cells kept = refl

  -- the native is over
  pub over_world : (l : Loan) (left : Option Held) (l' : Loan) (s1 e : Run H) → IsKept s l →
      LeavesLent s l left l' s1 → KeepsFlag s l left → e ≡ given_back_run l' (traced s1) →
      Binds u.roots place (state_with l scope x s n host).this →
      Binds (puts u.roots place (state_after l (apart_of l') scope x e counts host').this) place
      (state_after l (apart_of l') scope x e counts host').this
      × (back_world (world (state_with l scope x s n host) u)
      (with_left (receiver_in (home_of to.This) s l place) left)
      ≡ world (state_after l (apart_of l') scope x e counts host')
      (after u place (state_after l (apart_of l') scope x e counts host').this))
  over_world have.Nothing left l' s1 e kept leaves flag is bound =
      rw (is, leaves.1, leaves.2) (same_roots x bound, unchanged x (traced s) bound)
  over_world (have.Target t) left l' s1 e kept leaves flag is bound =
      let h = leaves.0 in
      rw (is, leaves.2, leaves.3, leaves.1) (target_back t h kept (rw leaves.1 at flag) bound)
  over_world (have.Cell c g) left l' s1 e kept leaves flag is bound =
      rw (is, leaves.2, leaves.3, leaves.1) (
        same_roots x bound,
        unchanged x (record (traced s) { cells = slice_set s.cells c (idle leaves.0) }) bound,
      )
  over_world (have.Apart g) left l' s1 e kept leaves flag is bound =
      rw (is, leaves.2, leaves.3, leaves.1) (
        apart_binds g leaves.0 place (rw leaves.1 at flag) bound,
        apart_back g leaves.0 place bound,
      )

  -- the native goes on
  pub asks_world : (l : Loan) (left : Option Held) (l' : Loan) (s1 e : Run H) → IsKept s l →
      LeavesLent s l left l' s1 → KeepsFlag s l left → e ≡ traced s1 →
      Binds u.roots place (state_with l scope x s n host).this →
      Binds (puts u.roots place (state_with l' scope x e counts host').this) place
      (state_with l' scope x e counts host').this
      × (told_world (world (state_with l scope x s n host) u)
      (with_left (receiver_in (home_of to.This) s l place) left)
      ≡ world (state_with l' scope x e counts host')
      (after u place (state_with l' scope x e counts host').this))
      × (with_left (receiver_in (home_of to.This) s l place) left
      ≡ receiver_in (home_of to.This) e l' place)
  asks_world have.Nothing left l' s1 e kept leaves flag is bound =
      rw (is, leaves.1, leaves.2) (same_roots x bound, unchanged x (traced s) bound, refl)
  asks_world (have.Target t) left l' s1 e kept leaves flag is bound =
      let h = leaves.0 in
      let plain : h.read_only ≡ false = rw leaves.1 at flag in
      let back = target_back t h kept plain bound in
      let stands : h ≡ read_write (content_at (traced (put_in s t h)) t) =
      sym (ap (λ (v : Dynamic). read_write v) (content_beside (put_in s t h)
      (record (put_in s t h).stacks { trace = trace }) t)
      ∙ put_content s t h (kept_again s t kept) plain) in
      rw (is, leaves.2, leaves.3, leaves.1) (
        back.0,
        ap (λ (cells : List Cell).
            record (back_world (world (abstraction s n host) u)
            (Some (record { home = home_of t place; held = h }))) { cells = cells })
            (sym (cells_same t h place s.cells kept)) ∙ back.1,
        ap (λ (g : Held). Some (record { home = home_of t place; held = g })) stands,
      )
  asks_world (have.Cell c g) left l' s1 e kept leaves flag is bound =
      rw (is, leaves.2, leaves.3, leaves.1)
      (same_roots x bound, unchanged x (traced s) bound, refl)
  asks_world (have.Apart g) left l' s1 e kept leaves flag is bound =
      rw (is, leaves.2, leaves.3, leaves.1) (
        apart_binds g leaves.0 place (rw leaves.1 at flag) bound,
        apart_world g leaves.0 place bound,
        refl,
      )

module _ {H : Type 0} (s : Run H) (u : Environment) (place : Option Place) (scope : List Entry)
    (x : Option Held) (n : StepsView) (host host' : H) where
  one_left : (o : Option Held) (a b : Held) → o ≡ Some a → o ≡ Some b → a ≡ b
  one_left o a b is also = cc

  bound_still : (this : Option Held) → Binds u.roots place this →
      Binds (puts u.roots place this) place this
  bound_still this bound = rw (puts-bound u.roots place this bound) bound

  same_world : (es : List Entry) (this : Option Held) (q : Run H) → Binds u.roots place this →
      world (beside es this q n host') u
      ≡ world (beside es this q n host') (after u place this)
  same_world es this q bound =
      ap (λ (roots : List Held). world (beside es this q n host') (record u { roots = roots }))
      (sym (puts-bound u.roots place this bound))

  -- memory is out before the host hears of it
  pub out_world : (l : Loan) (left : Option Held) (l' : Loan) (s1 e : Run H) → IsKept s l →
      LeavesLent s l left l' s1 → left ≡ held_of_lent s l → e ≡ given_back_run l' s1 →
      Binds u.roots place (state_with l scope x s n host).this →
      Binds (puts u.roots place (state_after l (apart_of l') scope x e n host').this) place
      (state_after l (apart_of l') scope x e n host').this
      × (record (world (state_with l scope x s n host) u) {
        host = host';
        cells = cells_with (receiver_in (home_of to.This) s l place) s.cells;
      } ≡ world (state_after l (apart_of l') scope x e n host')
      (after u place (state_after l (apart_of l') scope x e n host').this))
  out_world have.Nothing left l' s1 e kept leaves still is bound =
      rw (is, leaves.1, leaves.2) (bound_still x bound, same_world scope x s bound)
  out_world (have.Target t) left l' s1 e kept leaves still is bound =
      let h = leaves.0 in
      let same : h ≡ read_write (content_at s t) =
      one_left left h (read_write (content_at s t)) leaves.1 still in
      let back : put_in s t h ≡ s =
      ap (λ (g : Held). put_in s t g) same
      ∙ put_same s t (read_write (content_at s t)) (kept_writable s t kept) in
      rw (is, leaves.2, leaves.3, back) (
        bound_still (this_of s) bound,
        ap (λ (cells : List Cell). record (world (abstraction s n host') u) { cells = cells })
            (still_cells t (read_write (content_at s t)) place s.cells kept)
            ∙ same_world s.scope (this_of s) s bound,
      ) where
        still_cells : (t : Target) (h : Held) (place : Option Place) (cells : List Cell) →
            IsKeptAt s t →
            cells_with (Some (record { home = home_of t place; held = h })) cells ≡ cells
        still_cells (to.Entry i) h place cells kept = refl
        still_cells (to.Cell c) h place cells kept = absurd kept
        still_cells to.This h None cells kept = refl
        still_cells to.This h (Some p) cells kept = refl
  out_world (have.Cell c g) left l' s1 e kept leaves still is bound =
      let same : leaves.0 ≡ g = one_left left leaves.0 g leaves.1 still in
      rw (is, leaves.2, leaves.3, same) (
        bound_still x bound,
        same_world scope x (record s { cells = slice_set s.cells c (idle g) }) bound,
      )
  out_world (have.Apart g) left l' s1 e kept leaves still is bound =
      let same : leaves.0 ≡ g = one_left left leaves.0 g leaves.1 still in
      rw (is, leaves.2, leaves.3, same)
      (bound_still (Some g) bound, apart_still place bound) where
        apart_still : (place : Option Place) → Binds u.roots place (Some g) →
            record (world (beside scope (Some g) s n host) u) {
              host = host';
              cells = cells_with (receiver_in (home_of to.This) s (have.Apart g) place) s.cells;
            } ≡ world (beside scope (Some g) s n host') (after u place (Some g))
        apart_still None bound = absurd bound
        apart_still (Some p) bound =
            ap (λ (roots : List Held). world (beside scope (Some g) s n host')
            (record u { roots = roots })) (sym (puts-bound u.roots (Some p) (Some g) bound))
