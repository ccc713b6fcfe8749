-- A walk is over: its root is back where it was held, and what is left is the end of its chain.
use Rattle.std.proofs.Common.{◌≡◌, ◌∙◌, ℕ, List, [], ◌∷◌, Option, Bool, false, refl, sym, ap, arith}
use Rattle.std.specs.Prelude.{slice_set}
use Rattle.grain_value.specs.Cells.{idle}
use Rattle.grain_value.specs.declared.scopes.Entry.{Entry}
use Rattle.grain_value.specs.declared.values.Held.{Held}
use Rattle.grain_value.specs.Scopes.{set_held}
use Rattle.grain_global.specs.StepsView.{StepsView}
use Rattle.grain_fault.specs.declared.traces.Fault.{Fault}
use Rattle.grain_means.specs.Worlds.{Frame, Place, Setup}
use Rattle.grain_means.specs.Tasks.{Done, Walked}
use Rattle.grain_means.specs.Rules.Chains.{chain_over}
use Rattle.grain_means.specs.Simulation.{Simulates, stopped, world}
use Rattle.grain_means.specs.lemmas.Stretches.{same}
use Rattle.grain_frame.specs.Abstraction.{abstraction}
use Rattle.grain_frame.specs.declared.runs.Run.{Run}
use Rattle.grain_vm.specs.Chains.{CanPutBack, with_root}
use Rattle.grain_vm.specs.Driving.{beside}
use Rattle.grain_vm.specs.Seats.{Seat, first_held, walk_seated}
use Rattle.grain_vm.specs.Underway.{IsAway, after_chain}
use Rattle.grain_vm.specs.declared.roots.Home.{Home}
use Rattle.grain_vm.specs.declared.roots.Home.TheVariants as home
use Rattle.grain_vm.proofs.Rooting.{newest_put}
use Rattle.grain_vm.proofs.Walked.{over_added, over_this}

module _ {H : Type 0} (m : Setup H) (k next : ℕ) (g : Option Place → Frame) (o : Walked)
    (s : Run H) (n : StepsView) (host : H) (scope : List Entry) (this : Option Held) (x : Held)
    (missed : Option (List Fault)) where
  held_so : (y : Held) (b : Bool) → y.read_only ≡ b → y ≡ record { value = y.value; read_only = b }
  held_so y b e = rw (← e) refl

  -- what was lent, with the flag that it had where it was held
  abbrev pub put_back : Bool → Held
  put_back b = record { value = x.value; read_only = b }

  pub finished : (a : Home) (b : Bool) (seat : Seat) → IsAway a b seat scope this s →
      CanPutBack s a → x.read_only ≡ (first_held seat).read_only →
      Simulates m (beside scope this s n host)
      (walk_seated k g seat (after_chain k next a b g) missed (Done o) (x ∷ [])) false
      (abstraction (with_root s a (put_back b)) n host)
      (λ q place w. chain_over q k next (g place) o w)
  finished (home.Entry i) b seat (h, is, own, sets, now) can flag =
      same (record {
        this = sym now;
        order = omega arith;
        equal = λ stop clear halts u place.
            rw is (over_added m k next g h (λ y w. record w { scope = set_held w.scope i y })
            missed (stopped m stop) o x place (world (beside scope this s n host) u)
            (flag ∙ ap (λ (q : Seat). (first_held q).read_only) is))
            ∙ ap (λ (l : List Entry). chain_over (stopped m stop) k next (g place) o
            (record (world (abstraction s n host) u) { scope = l }))
            (ap (set_held scope i) (held_so x b (flag ∙ ap (λ (q : Seat). (first_held q).read_only) is
            ∙ own)) ∙ sets (put_back b));
      })
  finished (home.Cell j) b seat (h, is, es, now) can flag =
      same (record {
        this = sym now;
        order = omega arith;
        equal = λ stop clear halts u place.
            rw (is, es) (over_added m k next g h
            (λ y w. record w {
              cells = slice_set w.cells j (idle (record { value = y.value; read_only = b }));
            }) missed (stopped m stop) o x place (world (beside s.scope this s n host) u)
            (flag ∙ ap (λ (q : Seat). (first_held q).read_only) is));
      })
  finished home.Operand b seat (h, is, es, now) can flag =
      same (record {
        this = sym now;
        order = omega arith;
        equal = λ stop clear halts u place.
            rw (is, es) (over_added m k next g h (λ y w. w) missed (stopped m stop) o x place
            (world (beside s.scope this s n host) u)
            (flag ∙ ap (λ (q : Seat). (first_held q).read_only) is));
      })
  finished home.This b seat (h, is, own, es, now) can flag =
      let own_flag = flag ∙ ap (λ (q : Seat). (first_held q).read_only) is in
      rw is (over_this k next g h b missed m o x (beside scope this s n host)
      (abstraction (with_root s home.This (put_back b)) n host) now
      (rw (es, newest_put s.level s.receivers (put_back b) can, held_so x b (own_flag ∙ own)) refl)
      own_flag)
