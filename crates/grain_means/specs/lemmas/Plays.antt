-- A walk in the world does what it does by itself: the one proof about all walks, by one case for each
-- kind of task.
use Rattle.std.proofs.Common.{◌≡◌, ℕ, suc, ◌+◌, List, [], ◌∷◌, ◌++◌, Option, Some, None, Bool, true, false, length, take, refl, ap, ◌∙◌, option_map}
use Rattle.std.specs.Prelude.{if◌then◌else◌}
use Rattle.grain_value.specs.Cells.{flat}
use Rattle.grain_value.specs.declared.values.Held.{Held}
use Rattle.grain_fault.specs.declared.traces.Fault.{Fault}
use Rattle.grain_means.specs.Worlds.{is_stop, Place, Frame, Act, World, Setup}
use Rattle.grain_means.specs.Places.{or_unit, find, look, put}
use Rattle.grain_means.specs.Tasks.{Task, Done, Mark, Look, Flatten, Write, Root, Drop, Need, Invoke, Walked, Own, Play, Over, Asks, Calls, play, root_after}
use Rattle.grain_means.specs.Rules.InWorld.{missed_by, trace_of, placed, performed, invoked, walks}
use Rattle.grain_means.specs.lemmas.Spreading.{spread, Rooted, find-spread, put-spread, drop-spread, add-spread, rooted-put, rooted-add, rooted-take}

-- a world with a walk's roots
abbrev pub laid : {S : Type 0} → World S → Place → Own → World S
laid w p s = record w { roots = spread w.roots p s.roots; passed = s.passed }

module _ {S : Type 0} (m : Setup S) (k : ℕ) (f : Frame) (p : Place) (missed : Option (List Fault))
    (done : Walked → World S → Act S) (w : World S) where
  -- the world's run goes on from where the walk by itself stands still
  abbrev pub played : Play → Act S
  played (Over o s) = done o (laid w p s)
  played (Asks c go s) =
      performed m k f c (option_map (placed p (length w.roots)) c.receiver)
      (λ a w1. walks m k f p (length w.roots) (missed_by a w1.trace) (go a) done
      (record w1 { trace = trace_of missed a w1.trace })) (record (laid w p s) { trace = [] })
  played (Calls i go s) =
      invoked m k f i (option_map (placed p (length w.roots)) i.this)
      (λ a w1. walks m k f p (length w.roots) None (go a) done w1) i.method
      (record (laid w p s) { trace = [] })

  abbrev in_world : Task → World S → Act S
  in_world t v = walks m k f p (length w.roots) missed t done v

  module _ (g : Held) (e : find w.roots p ≡ Some g) where
    by_mark : (b : Bool) (x y : Act S) (s t : Play) → x ≡ played s → y ≡ played t →
        (if b then x else y) ≡ played (if b then s else t)
    by_mark true x y s t h i = h
    by_mark false x y s t h i = i

    pub plays : (t : Task) (s : Own) → Rooted g.read_only s.roots →
        in_world t (laid w p s) ≡ played (play m.stop w.cells t s)
    plays (Done o) s h = refl
    plays (Mark out go) s h =
        by_mark (is_stop m.stop s.passed) (in_world out (laid w p s))
        (in_world go (laid w p (record s { passed = s.passed + 1 })))
        (play m.stop w.cells out s) (play m.stop w.cells go (record s { passed = s.passed + 1 }))
        (plays out s h) (plays go (record s { passed = s.passed + 1 }) h)
    plays (Look q go) s h =
        ap (λ (o : Option Held). in_world (go (or_unit o)) (laid w p s))
        (find-spread w.roots p g e s.roots q h) ∙ plays (go (look s.roots q)) s h
    plays (Flatten v go) s h = plays (go (flat w.cells v)) s h
    plays (Write q v t) s h =
        ap (λ (rs : List Held). in_world t (record w { roots = rs; passed = s.passed }))
        (put-spread w.roots p g e s.roots q v h)
        ∙ plays t (record s { roots = put s.roots q v }) (rooted-put g.read_only s.roots q v h)
    plays (Root r t) s h =
        ap (λ (rs : List Held). in_world t (record w { roots = rs; passed = s.passed }))
        (add-spread g.read_only w.roots p s.roots r h)
        ∙ plays t (record s { roots = s.roots ++ r ∷ [] }) (rooted-add g.read_only s.roots r h)
    plays (Drop i go) s h =
        ap (λ (o : Option Held). in_world (go (or_unit o)) (record w {
          roots = take (length w.roots + i) (spread w.roots p s.roots);
          passed = s.passed;
        }))
        (find-spread w.roots p g e s.roots (root_after i) h)
        ∙ ap (λ (rs : List Held). in_world (go (look s.roots (root_after i)))
        (record w { roots = rs; passed = s.passed }))
        (drop-spread g.read_only w.roots p s.roots i h)
        ∙ plays (go (look s.roots (root_after i))) (record s { roots = take (suc i) s.roots })
        (rooted-take g.read_only s.roots i h)
    plays (Need c go) s h = refl
    plays (Invoke i go) s h = refl
