-- A walk in the world from its root: how it begins, and what is left once it is over.
use Rattle.std.proofs.Common.{◌≡◌, ◌∙◌, ◌+◌, ℕ, List, [], ◌∷◌, ◌++◌, Option, Some, None, Bool, false, length, refl, sym, ap, subst, arith}
use Rattle.std.specs.Prelude.{take}
use Rattle.std.proofs.lemmas.List.{append-nil}
use Rattle.grain_value.specs.laws.Same.{value_of-tree}
use Rattle.grain_value.specs.declared.values.Dynamic.{Dynamic}
use Rattle.grain_value.specs.declared.values.Held.{Held}
use Rattle.grain_fault.specs.declared.traces.Fault.{Fault}
use Rattle.grain_means.specs.Worlds.{Frame, Place, Setup, World}
use Rattle.grain_means.specs.Places.{find, look, put}
use Rattle.grain_means.specs.Tasks.{Task, Walked, Done}
use Rattle.grain_means.specs.Rules.InWorld.{walks}
use Rattle.grain_means.specs.Rules.Chains.{chain_over, new_root, walk_at, walk_from}
use Rattle.grain_means.specs.Simulation as simulation
use Rattle.grain_means.specs.Simulation.{Binds, Environment, LocalState, Simulates, puts, stopped, world}
use Rattle.grain_means.specs.lemmas.Added.{look-added, spread-added}
use Rattle.grain_means.specs.lemmas.PlaceLaws.{find-put, put-find, take-after}
use Rattle.grain_vm.specs.Driving.{after_walk}
use Rattle.grain_vm.specs.Seats.{AtThis, Added, Rests, walk_seated}
use Rattle.grain_vm.specs.Underway.{after_chain}
use Rattle.grain_frame.specs.lemmas.Bound.{while_bound}
use Rattle.grain_vm.specs.declared.roots.Home.TheVariants as home
use Rattle.grain_vm.proofs.Driven.{same_held}

-- ---- a walk from a root that is added

module _ {H : Type 0} (m : Setup H) (k next : ℕ) (g : Option Place → Frame) (h : Held)
    (back : Held → World H → World H) where
  abbrev pub after : Rests H
  after = after_walk k next g back

  -- it begins
  pub begun_added : (n : Setup H) (t : Task) (place : Option Place) (w : World H) →
      walk_from n k t next (g place) h back w
      ≡ walk_seated k g (Added h) after None t (h ∷ []) n place w
  begun_added n t place w =
      ap (λ (l : List Held). walks n k (g place) (new_root w.roots) (length w.roots + 1) None t
      (λ o w1. chain_over n k next (g place) o
      (back (look w1.roots (new_root w.roots)) (record w1 { roots = take (length w.roots) w1.roots })))
      (record w { roots = l })) (sym (spread-added w.roots h h [] refl))

  first_of : (x : Held) (rs : List Held) →
      look (rs ++ x ∷ []) (record { root = length rs; path = [] }) ≡ x
  first_of x rs =
      look-added rs (x ∷ []) (record { root = 0; path = [] })
      ∙ ap (λ (v : Dynamic). record x { value = v }) (value_of-tree x.value)

  -- it is over
  pub over_added : (missed : Option (List Fault)) (n : Setup H) (o : Walked) (x : Held) (place : Option Place)
      (w : World H) →
      x.read_only ≡ h.read_only →
      walk_seated k g (Added h) after missed (Done o) (x ∷ []) n place w
      ≡ chain_over n k next (g place) o (back x w)
  over_added missed n o x place w flag =
      ap (λ (l : List Held). chain_over n k next (g place) o
      (back (look l (record { root = length w.roots; path = [] }))
      (record w { roots = take (length w.roots) l }))) (spread-added w.roots h x [] flag)
      ∙ ap (λ (l : List Held). chain_over n k next (g place) o
      (back (look (w.roots ++ x ∷ []) (record { root = length w.roots; path = [] }))
      (record w { roots = l })))
      (take-after w.roots (x ∷ []) (length w.roots) 0 (omega arith) ∙ append-nil w.roots)
      ∙ ap (λ (y : Held). chain_over n k next (g place) o (back y w)) (first_of x w.roots)

-- ---- a walk from a `this`

module _ {H : Type 0} (k next : ℕ) (g : Option Place → Frame) (h : Held) (b : Bool) where
  -- it begins
  pub begun_this : (n : Setup H) (t : Task) (p : Place) (w : World H) → find w.roots p ≡ Some h →
      walk_at n k t next (g (Some p)) p w
      ≡ walk_seated k g (AtThis h) (after_chain k next home.This b g) None t (h ∷ []) n (Some p) w
  begun_this n t p w there =
      ap (λ (l : List Held). walks n k (g (Some p)) p (length w.roots) None t
      (λ o w1. chain_over n k next (g (Some p)) o w1) (record w { roots = l }))
      (sym (append-nil (put w.roots p h.value) ∙ put-find w.roots p h there))

  -- It is over, and the code's `this` is what became of it.
  pub over_this : (missed : Option (List Fault)) (m : Setup H) (o : Walked) (x : Held)
      (old new : LocalState H) →
      old.this ≡ Some h → new ≡ record old { this = Some x } → x.read_only ≡ h.read_only →
      Simulates m old
      (walk_seated k g (AtThis h) (after_chain k next home.This b g) missed (Done o) (x ∷ [])) false new
      (λ n place w. chain_over n k next (g place) o w)
  over_this missed m o x old new held becomes flag =
      rw becomes (while_bound (omega arith) (λ stop clear halts u place bound.
      by stop u place (subst (λ (y : Option Held). Binds u.roots place y) held bound))) where
        by : (stop : Option ℕ) (u : Environment) (place : Option Place) →
            Binds u.roots place (Some h) →
            Binds (puts u.roots place (Some x)) place (Some x)
            × (walk_seated k g (AtThis h) (after_chain k next home.This b g) missed (Done o) (x ∷ [])
            (stopped m stop) place (world old u)
            ≡ chain_over (stopped m stop) k next (g place) o
            (world (record old { this = Some x }) (simulation.after u place (Some x))))
        by stop u None bound = absurd bound
        by stop u (Some p) bound = (
          find-put u.roots p h x.value bound
              ∙ ap Some (same_held h x (sym flag)),
          ap (λ (l : List Held). chain_over (stopped m stop) k next (g (Some p)) o
              (record (world old u) { roots = l })) (append-nil (put u.roots p x.value)),
        )
