-- A walk in the world, wherever its first root stands: what it does by itself, and what stands at its
-- places.
use Rattle.std.proofs.Common.{◌≡◌, ◌∙◌, ◌+◌, ℕ, List, Option, Some, None, Bool, length, option_map, refl, sym, ap, subst, arith}
use Rattle.grain_value.specs.declared.values.Dynamic.{Dynamic}
use Rattle.grain_value.specs.declared.values.Held.{Held}
use Rattle.grain_fault.specs.declared.traces.Fault.{Fault}
use Rattle.grain_means.specs.Worlds.{Frame, Place, Setup}
use Rattle.grain_means.specs.Places.{find, or_unit, put}
use Rattle.grain_means.specs.Tasks.{Task, play}
use Rattle.grain_means.specs.Rules.Homes.{AtPlace}
use Rattle.grain_means.specs.Rules.InWorld.{lent_at, placed, walks}
use Rattle.grain_means.specs.Rules.Natives.{Receiver, given, lent_held}
use Rattle.grain_means.specs.Driving.{all_given}
use Rattle.grain_means.specs.Simulation.{Binds, Environment, LocalState, NoStopWithin, Simulates, StopsHere, puts, stopped, world}
use Rattle.grain_means.specs.lemmas.LentPlaces.{found-new, length-new}
use Rattle.grain_means.specs.lemmas.Plays.{played, plays}
use Rattle.grain_means.specs.lemmas.Spreading.{Rooted, find-spread, put-spread, spread}
use Rattle.grain_frame.specs.lemmas.Bound.{reading}
use Rattle.grain_vm.specs.Seats.{AtThis, Added, Rests, Seat, Seated, base_count, base_place, base_roots, first_held, walk_seated}

-- ---- where the first root stands

pub found_base : (seat : Seat) (place : Option Place) (roots : List Held) (this : Option Held) →
    Seated seat this → Binds roots place this →
    find (base_roots seat roots) (base_place seat place roots) ≡ Some (first_held seat)
found_base (Added h) place roots this seated bound = found-new roots h
found_base (AtThis h) None roots this seated bound = absurd (subst (Binds roots None) seated bound)
found_base (AtThis h) (Some p) roots this seated bound = subst (Binds roots (Some p)) seated bound

pub count_base : (seat : Seat) (roots : List Held) →
    base_count seat (length roots) ≡ length (base_roots seat roots)
count_base (Added h) roots = length-new roots h
count_base (AtThis h) roots = refl

-- ---- what stands at a place of the walk

-- what a native is lent
abbrev pub receiver_at : Place → ℕ → Option Place → Option Held → Option Receiver
receiver_at p n None x = None
receiver_at p n (Some q) None = None
receiver_at p n (Some q) (Some x) = Some (record { home = AtPlace (placed p n q); held = x })

module _ (bs : List Held) (p : Place) (g : Held) (e : find bs p ≡ Some g) (n : ℕ)
    (count : n ≡ length bs) (rs : List Held) (rooted : Rooted g.read_only rs) where
  found_at : (q : Place) → find (spread bs p rs) (placed p n q) ≡ find rs q
  found_at q =
      ap (λ (k : ℕ). find (spread bs p rs) (placed p k q)) count ∙ find-spread bs p g e rs q rooted

  pub put_at : (q : Place) (v : Dynamic) →
      put (spread bs p rs) (placed p n q) v ≡ spread bs p (put rs q v)
  put_at q v =
      ap (λ (k : ℕ). put (spread bs p rs) (placed p k q) v) count
      ∙ put-spread bs p g e rs q v rooted

  -- what is lent from the walk's roots is there in the world
  pub bound_there : (q : Option Place) (x : Option Held) → Binds rs q x →
      Binds (spread bs p rs) (option_map (placed p n) q) x
  bound_there None None at = tt
  bound_there None (Some x) at = absurd at
  bound_there (Some q) None at = absurd at
  bound_there (Some q) (Some x) at = found_at q ∙ at

  pub puts_there : (q : Option Place) (x y : Option Held) → Binds rs q x →
      puts (spread bs p rs) (option_map (placed p n) q) y ≡ spread bs p (puts rs q y)
  puts_there None x y at = refl
  puts_there (Some q) x None at = refl
  puts_there (Some q) x (Some y) at = put_at q y.value

  pub lent_there : (q : Option Place) (x : Option Held) → Binds rs q x →
      lent_at (spread bs p rs) (option_map (placed p n) q) ≡ receiver_at p n q x
  lent_there None None at = refl
  lent_there None (Some x) at = absurd at
  lent_there (Some q) None at = absurd at
  lent_there (Some q) (Some x) at =
      ap (λ (o : Option Held). Some (record { home = AtPlace (placed p n q); held = or_unit o }))
      (found_at q ∙ at)

pub given_there : (rs : List Held) (p : Place) (n : ℕ) (q : Option Place) (x : Option Held)
    (args : List Held) → Binds rs q x → given (receiver_at p n q x) args ≡ all_given x args
given_there rs p n None None args at = refl
given_there rs p n None (Some x) args at = absurd at
given_there rs p n (Some q) None args at = absurd at
given_there rs p n (Some q) (Some x) args at = refl

pub held_there : (rs : List Held) (p : Place) (n : ℕ) (q : Option Place) (x : Option Held) →
    Binds rs q x → lent_held (receiver_at p n q x) ≡ x
held_there rs p n None None at = refl
held_there rs p n None (Some x) at = absurd at
held_there rs p n (Some q) None at = absurd at
held_there rs p n (Some q) (Some x) at = refl

-- ---- what a walk does by itself

module _ {S : Type 0} (m : Setup S) (k : ℕ) (f : Option Place → Frame) (seat : Seat)
    (done : Rests S) (missed : Option (List Fault)) where
  reads : (ls : LocalState S) (stop : Option ℕ) (u : Environment) (place : Option Place) (t : Task)
      (rs : List Held) → Seated seat ls.this → Binds u.roots place ls.this →
      Rooted (first_held seat).read_only rs →
      walk_seated k f seat done missed t rs (stopped m stop) place (world ls u)
      ≡ played (stopped m stop) k (f place) (base_place seat place u.roots) missed
      (done (stopped m stop) place (length u.roots))
      (record (world ls u) { roots = base_roots seat u.roots })
      (play stop ls.cells t (record { roots = rs; passed = ls.passed }))
  reads ls stop u place t rs seated bound rooted =
      ap (λ (n : ℕ). walks (stopped m stop) k (f place) (base_place seat place u.roots) n missed t
      (done (stopped m stop) place (length u.roots))
      (record (world ls u) {
        roots = spread (base_roots seat u.roots) (base_place seat place u.roots) rs;
      })) (count_base seat u.roots)
      ∙ plays (stopped m stop) k (f place) (base_place seat place u.roots) missed
      (done (stopped m stop) place (length u.roots))
      (record (world ls u) { roots = base_roots seat u.roots }) (first_held seat)
      (found_base seat place u.roots ls.this seated bound) t
      (record { roots = rs; passed = ls.passed }) rooted

  -- a stretch of the walk by itself, of `marks` marks
  pub walks_on : (ls : LocalState S) (marks : ℕ) (t t' : Task) (rs rs' : List Held) (out : Bool) →
      Seated seat ls.this → Rooted (first_held seat).read_only rs →
      Rooted (first_held seat).read_only rs' →
      ((stop : Option ℕ) → NoStopWithin stop ls.passed (ls.passed + marks) →
      StopsHere out stop (ls.passed + marks) →
      play stop ls.cells t (record { roots = rs; passed = ls.passed })
      ≡ play stop ls.cells t' (record { roots = rs'; passed = ls.passed + marks })) →
      Simulates m ls (walk_seated k f seat done missed t rs) out
      (record ls { passed = ls.passed + marks }) (walk_seated k f seat done missed t' rs')
  walks_on ls marks t t' rs rs' out seated rooted rooted' does =
      reading refl (omega arith) (λ stop clear halts u place bound.
      reads ls stop u place t rs seated bound rooted
      ∙ ap (played (stopped m stop) k (f place) (base_place seat place u.roots) missed
      (done (stopped m stop) place (length u.roots))
      (record (world ls u) { roots = base_roots seat u.roots })) (does stop clear halts)
      ∙ sym (reads (record ls { passed = ls.passed + marks }) stop u place t' rs' seated bound
      rooted'))
