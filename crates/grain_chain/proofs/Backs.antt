-- Roots that are set back.
use Rattle.std.proofs.Common.{◌≡◌, ◌+◌, Bool, true, false, Option, Some, None, Result, Ok, Err, is_ok, refl, sym, ◌∙◌, subst}
use Rattle.std.specs.Prelude.{if◌then◌else◌}
use Rattle.grain_value.specs.Parts.{with_part, part_type}
use Rattle.grain_value.specs.Writing.{type_name_of}
use Rattle.grain_value.specs.declared.memory.OutOfMemory.{OutOfMemory}
use Rattle.grain_value.specs.declared.values.Dynamic.{Dynamic}
use Rattle.grain_value.specs.declared.values.locating.Spot.{Spot}
use Rattle.grain_fault.specs.Problems.{Plain, MismatchDataType}
use Rattle.grain_means.specs.Tasks.{Task, Look, Write, WalkEnded}
use Rattle.grain_means.specs.Walks.{OfPart, failing, put_part, set_back}
use Rattle.grain_chain.specs.Standings.{Stands, put_there}
use Rattle.grain_chain.specs.Walking.{place_of}
use Rattle.grain_chain.specs.Going.{GoesBack, WrotePart, setting, rest}
use Rattle.grain_chain.specs.laws.Joining.{go_on, as_is}
use Rattle.grain_chain.specs.declared.contexts.Context.{Context}
use Rattle.grain_chain.specs.declared.requests.WalkAnswer.{WalkAnswer}
use Rattle.grain_chain.specs.declared.walks.Walk.{Walk}
use Rattle.grain_chain.proofs.Strides.{marked, passes, marked_back, then_back, looks, looked, writes}
use Rattle.grain_chain.proofs.Halting.{part_halts, then_halts}

wrote : (w v : Walk) (o : Option Dynamic) → WrotePart w o true v →
    (d : Dynamic) × ((o ≡ Some d) × (v ≡ record w { trail = put_there w.trail d; marks = w.marks + 1 }))
wrote w v (Some d) h = (d, (refl, h.1))
wrote w v None h = let e : true ≡ false = h.0 in cc

not_wrote : (w v : Walk) (o : Option Dynamic) → WrotePart w o false v → (o ≡ None) × (v ≡ w)
not_wrote w v (Some d) h = let e : false ≡ true = h.0 in cc
not_wrote w v None h = (refl, h.1)

module _ (x : Context) where
  -- nothing is set back
  pub as_it_was : (w : Walk) (changed : Bool) →
      GoesBack x w (rest x w (WalkEnded w.gives changed)) changed (Ok None) w
  as_it_was w changed = (λ k. as_is refl, record { same = refl; outer = refl })

  pub unchanged_back : (w : Walk) (ask : Task) (changed : Bool) → changed ≡ false →
      GoesBack x w (if changed then ask else rest x w (WalkEnded w.gives false)) changed (Ok None) w
  unchanged_back w ask false e = as_it_was w false
  unchanged_back w ask true e = cc

  pub changed_back : (w v : Walk) (ask : Task) (changed : Bool)
      (r : Result (Option WalkAnswer) OutOfMemory) → changed ≡ true → GoesBack x w ask changed r v →
      GoesBack x w (if changed then ask else rest x w (WalkEnded w.gives false)) changed r v
  changed_back w v ask true r e h = h
  changed_back w v ask false r e h = cc

  module _ (w : Walk) (s : Spot) (part : Dynamic) (changed : Bool) where
    abbrev putting : Walk → Option Dynamic → Task
    putting u o = put_part (setting x u) u.step s (place_of u) part u.gives changed (rest x u) o

    abbrev looking : Walk → Task
    looking u = Look (place_of u) (λ h. putting u (with_part h.value s part))

    abbrev pub part_back : Task
    part_back =
        set_back (setting x w) w.step (OfPart s) (place_of w) part w.gives changed (rest x w)

    -- memory is out
    pub part_gives_up : (w1 v : Walk) (r : Result (Option WalkAnswer) OutOfMemory) → is_ok r ≡ false →
        w1 ≡ marked w → v ≡ w1 → GoesBack x w part_back changed r v
    part_gives_up w1 v (Ok a) none e f = cc
    part_gives_up w1 v (Err o) none e f =
        subst (λ (u : Walk). GoesBack x w part_back changed (Err o) u) (sym (f ∙ e))
        (marked_back x w (marked w) (looking w) changed (Err o)
        (then_halts x (marked w) (looking (marked w)) (putting (marked w) _)
        (looked x (marked w) (place_of (marked w)) (λ h. putting (marked w) (with_part h.value s part)))
        (part_halts x (marked w) s part (marked w).gives changed _)))

    -- it was written
    pub part_done : (w1 v : Walk) (t : Dynamic) → w1 ≡ marked w → Stands w1.trail t →
        WrotePart w1 (with_part t s part) true v → GoesBack x w part_back changed (Ok None) v
    part_done w1 v t e stands h =
        let m = marked w in
        let standing = subst (λ (u : Walk). Stands u.trail t) e stands in
        let got = wrote m v (with_part t s part)
        (subst (λ (u : Walk). WrotePart u (with_part t s part) true v) e h) in
        let d = got.0 in
        let after : Task = rest x m (WalkEnded m.gives changed) in
        let go : Task = Write (place_of m) d after in
        let written : Walk = record m { trail = put_there m.trail d; marks = m.marks + 1 } in
        let back : GoesBack x m (putting m (Some d)) changed (Ok None) written = (
          λ k. go_on (passes x m go k) (writes x (marked m) d after k) tt,
          record { same = refl; outer = refl },
        ) in
        marked_back x w v (looking w) changed (Ok None)
        (then_back x m v (looking m) (putting m (with_part t s part)) changed (Ok None)
        (looks x m t (λ h. putting m (with_part h.value s part)) standing)
        (subst (λ (o : Option Dynamic). GoesBack x m (putting m o) changed (Ok None) v) (sym got.1.0)
        (subst (λ (u : Walk). GoesBack x m (putting m (Some d)) changed (Ok None) u) (sym got.1.1) back)))

    -- it is of another type
    pub part_fails : (w1 w2 v : Walk) (t : Dynamic) (r : Result (Option WalkAnswer) OutOfMemory) →
        w1 ≡ marked w → Stands w1.trail t → WrotePart w1 (with_part t s part) false w2 →
        GoesBack x w2 (failing w2.step (Plain (MismatchDataType (part_type s) (type_name_of part)) w2.pos)
        (rest x w2)) changed r v → GoesBack x w part_back changed r v
    part_fails w1 w2 v t r e stands h g =
        let m = marked w in
        let standing = subst (λ (u : Walk). Stands u.trail t) e stands in
        let got = not_wrote w1 w2 (with_part t s part) h in
        let fails = subst (λ (u : Walk). GoesBack x u (failing u.step
        (Plain (MismatchDataType (part_type s) (type_name_of part)) u.pos) (rest x u)) changed r v)
        (got.1 ∙ e) g in
        marked_back x w v (looking w) changed r
        (then_back x m v (looking m) (putting m (with_part t s part)) changed r
        (looks x m t (λ h. putting m (with_part h.value s part)) standing)
        (subst (λ (o : Option Dynamic). GoesBack x m (putting m o) changed r v) (sym got.0) fails))
