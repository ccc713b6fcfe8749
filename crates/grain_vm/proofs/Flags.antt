-- What a stretch leaves of the code's `this` has the flag that it had.
use Rattle.std.proofs.Common.{◌≡◌, ◌∙◌, List, [], ◌∷◌, Option, Some, None, Bool, refl, sym, ap, subst}
use Rattle.grain_value.specs.declared.values.Held.{Held}
use Rattle.grain_means.specs.Worlds.{Place, Setup}
use Rattle.grain_means.specs.Places.{find, or_unit}
use Rattle.grain_means.specs.Simulation.{Binds, Computation, Environment, LocalState, Simulates, puts}
use Rattle.grain_means.specs.lemmas.PlaceLaws.{find-put, ok-along}
use Rattle.grain_means.specs.lemmas.Stretches.{clear_before, halts_there}
use Rattle.grain_vm.specs.Driving.{SameFlag}

-- the place of a root that is alone
abbrev alone : Place
alone = record { root = 0; path = [] }

found_alone : (x : Held) → find (x ∷ []) alone ≡ Some x
found_alone x = ok-along [] x x.value refl

-- an environment with what is bound, and nothing else
abbrev around : List Held → Environment
around roots = record { roots = roots; tokens = Some [] }

pub flag_kept : {S : Type 0} {m : Setup S} {old new : LocalState S} {start now : Computation S}
    (out : Bool) → Simulates m old start out new now → SameFlag old.this new.this
flag_kept {old = old} {new} out h = by old.this new.this refl refl where
  bound : (roots : List Held) (place : Option Place) → Binds roots place old.this →
      Binds (puts roots place new.this) place new.this
  bound roots place at =
      (h.leads (Some new.passed) (clear_before old.passed new.passed) (halts_there out new.passed)
      (around roots) place at).0

  by : (x y : Option Held) → old.this ≡ x → new.this ≡ y → SameFlag x y
  by None None is becomes = tt
  by None (Some y) is becomes =
      absurd (subst (λ (o : Option Held). Binds (puts [] None o) None o) becomes
      (bound [] None (rw is tt)))
  by (Some x) None is becomes =
      absurd (subst (λ (o : Option Held). Binds (puts (x ∷ []) (Some alone) o) (Some alone) o) becomes
      (bound (x ∷ []) (Some alone) (rw is (found_alone x))))
  by (Some x) (Some y) is becomes =
      let left = subst (λ (o : Option Held). Binds (puts (x ∷ []) (Some alone) o) (Some alone) o)
      becomes (bound (x ∷ []) (Some alone) (rw is (found_alone x))) in
      sym (ap (λ (o : Option Held). (or_unit o).read_only)
      (sym (find-put (x ∷ []) alone x y.value (found_alone x)) ∙ left))
