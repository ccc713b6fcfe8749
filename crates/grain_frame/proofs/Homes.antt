-- A target in the meaning: where its value is held, and what is written there.
use Rattle.std.proofs.Common.{◌≡◌, ◌∙◌, ◌+◌, ℕ, List, [], Option, Some, None, Bool, false, refl, ap, subst, sym, true}
use Rattle.std.specs.Prelude.{option_map, slice_get, slice_set}
use Rattle.grain_value.specs.Cells.{idle, is_busy}
use Rattle.grain_value.specs.Operands.{read_write}
use Rattle.grain_value.specs.declared.stores.Cell.{Cell}
use Rattle.grain_value.specs.declared.values.Dynamic.{Dynamic}
use Rattle.grain_value.specs.declared.values.Held.{Held}
use Rattle.grain_fault.specs.Problems.{Problem}
use Rattle.grain_host.specs.Signatures.{says_missing}
use Rattle.grain_global.specs.StepsView.{StepsView}
use Rattle.grain_program.specs.View.{name_of}
use Rattle.grain_program.specs.declared.code.parts.AssignOp.{AssignOp}
use Rattle.grain_means.specs.Worlds.{Act, Frame, Place, Setup, World}
use Rattle.grain_means.specs.Places.{or_unit}
use Rattle.grain_means.specs.Rules.{at_place_of, back_in_cells, back_in_roots, back_in_scope, cell_written, content_now, held_at, held_or, in_entry, is_stop, marked, op_assign_failed_at, operator_at, written_at}
use Rattle.grain_means.specs.Simulation.{Binds, Environment, after, puts, world}
use Rattle.grain_means.specs.lemmas.PlaceLaws.{find-put}
use Rattle.grain_means.specs.lemmas.Roots.{puts-bound}
use Rattle.grain_frame.specs.Abstraction.{abstraction, this_of}
use Rattle.grain_frame.specs.Targets.{CanBeLent, CanBeWritten, content_at, home_of, put_in, target_in, value_or_unit}
use Rattle.grain_frame.specs.Waiting.{CanHold}
use Rattle.grain_frame.specs.declared.runs.Run.{Run}
use Rattle.grain_frame.specs.declared.targets.Target.{Target}
use Rattle.grain_frame.specs.declared.targets.Target.TheVariants as to
use Rattle.grain_frame.proofs.Newest.{newest_is}
use Rattle.grain_frame.proofs.Targeting.{entry_at, flagged, written_some}

-- where what stands in an entry is written, and where a `this` is
pub entry_home : (i : ℕ) (c : Option ℕ) (place : Option Place) →
    home_of (target_in (to.Entry i) c) place ≡ in_entry i c
entry_home i None place = refl
entry_home i (Some n) place = refl

pub this_home : (p : Place) (c : Option ℕ) → home_of (target_in to.This c) (Some p) ≡ at_place_of p c
this_home p None = refl
this_home p (Some n) = refl

-- a cell that is not lent is written
free_written : {S : Type 0} (m : Setup S) (o : Option Cell) (n : ℕ) (h : Held) (name : List ℕ)
    (f : Frame) (w : World S) (go : World S → Act S) → option_map is_busy o ≡ Some false →
    cell_written m o n h name f w go
    ≡ marked m f w (λ w1. go (record w1 { cells = slice_set w1.cells n (idle h) }))
free_written m None n h name f w go free = absurd cc
free_written m (Some c) n h name f w go free =
    let idles : c.busy ≡ false = cc in rw idles refl

-- so is a target
pub target_written : {H : Type 0} (m : Setup H) (s : Run H) (t : Target) (place : Option Place)
    (h : Held) (name : List ℕ) (f : Frame) (w : World H) (go : World H → Act H) → CanBeLent s t →
    w.cells ≡ s.cells → written_at m (home_of t place) h name f w go
    ≡ marked m f w (λ w1. go (record w1 {
      scope = back_in_scope (home_of t place) h w1.scope;
      cells = back_in_cells (home_of t place) h w1.cells;
      roots = back_in_roots (home_of t place) h w1.roots;
    }))
target_written m s (to.Entry i) place h name f w go can same = refl
target_written m s (to.Cell n) place h name f w go can same =
    free_written m (slice_get w.cells n) n h name f w go (rw same can)
target_written m s to.This None h name f w go can same = refl
target_written m s to.This (Some p) h name f w go can same = refl

module _ {H : Type 0} (s : Run H) (u : Environment) (place : Option Place)
    (bound : Binds u.roots place (this_of s)) where
  -- a `this` that is given another value, at its place
  new_bound : (o : Option Held) (place : Option Place) (g : Held) → Binds u.roots place o →
      CanBeWritten o → g.read_only ≡ false → Binds (puts u.roots place (Some g)) place (Some g)
  new_bound None place g bound can plain = absurd can
  new_bound (Some h) None g bound can plain = absurd bound
  new_bound (Some h) (Some p) g bound can plain =
      find-put u.roots p h g.value bound ∙ ap Some (as_plain h.read_only can g plain) where
        as_plain : (b : Bool) → b ≡ false → (g : Held) → g.read_only ≡ false →
            record { value = g.value; read_only = b } ≡ g
        as_plain b eb g eg = rw (eb, ← eg) refl

  -- once the target is written, the place holds the code's `this`
  pub put_binds : (t : Target) (g : Held) → CanBeLent s t → g.read_only ≡ false →
      Binds (puts u.roots place (this_of (put_in s t g))) place (this_of (put_in s t g))
  put_binds (to.Entry i) g can plain = rw (puts-bound u.roots place (this_of s) bound) bound
  put_binds (to.Cell n) g can plain = rw (puts-bound u.roots place (this_of s) bound) bound
  put_binds to.This g can plain =
      subst (λ (o : Option Held). Binds (puts u.roots place o) place o)
      (sym (newest_is s.level s.receivers g (written_some (this_of s) can)))
      (new_bound (this_of s) place g bound can plain)

  -- and the world is the one that the meaning writes
  module _ (n : StepsView) (host : H) where
    as_it_was : (r : Run H) → this_of r ≡ this_of s →
        world (abstraction r n host) (after u place (this_of r)) ≡ world (abstraction r n host) u
    as_it_was r same =
        ap (λ (o : Option Held). world (abstraction r n host) (after u place o)) same
        ∙ ap (λ (roots : List Held). world (abstraction r n host) (record u { roots = roots }))
        (puts-bound u.roots place (this_of s) bound)

    at_its_place : (o : Option Held) (place : Option Place) (r : Run H) (g : Held) →
        Binds u.roots place o → CanBeWritten o →
        world (abstraction r n host) (after u place (Some g))
        ≡ record (world (abstraction r n host) u) {
          roots = back_in_roots (home_of to.This place) g u.roots;
        }
    at_its_place None place r g bound can = absurd can
    at_its_place (Some h) None r g bound can = absurd bound
    at_its_place (Some h) (Some p) r g bound can = refl

    in_no_scope : (o : Option Held) (place : Option Place) (g : Held) (w : World H) →
        Binds u.roots place o → CanBeWritten o → record w {
          scope = back_in_scope (home_of to.This place) g w.scope;
          cells = back_in_cells (home_of to.This place) g w.cells;
        } ≡ w
    in_no_scope None place g w bound can = absurd can
    in_no_scope (Some h) None g w bound can = absurd bound
    in_no_scope (Some h) (Some p) g w bound can = refl

    pub put_world : (t : Target) (g : Held) → CanBeLent s t → g.read_only ≡ false →
        world (abstraction (put_in s t g) n host) (after u place (this_of (put_in s t g)))
        ≡ record (world (abstraction s n host) u) {
          scope = back_in_scope (home_of t place) g s.scope;
          cells = back_in_cells (home_of t place) g s.cells;
          roots = back_in_roots (home_of t place) g u.roots;
        }
    put_world (to.Entry i) g can plain = as_it_was (put_in s (to.Entry i) g) refl
    put_world (to.Cell k) g can plain = as_it_was (put_in s (to.Cell k) g) refl
    put_world to.This g can plain =
        ap (λ (o : Option Held). world (abstraction (put_in s to.This g) n host) (after u place o))
        (newest_is s.level s.receivers g (written_some (this_of s) can))
        ∙ (at_its_place (this_of s) place (put_in s to.This g) g bound can
        ∙ sym (in_no_scope (this_of s) place g (record (world (abstraction s n host) u) {
          roots = back_in_roots (home_of to.This place) g u.roots;
        }) bound can))

    -- what is held where the target's value is, is what the target holds
    content_same : (t : Target) (h : Held) → CanHold s t →
        content_now (home_of t place) h (world (abstraction s n host) u) ≡ content_at s t
    content_same (to.Entry i) h can =
        let there = entry_at s.scope i can in
        by_entry (held_at s.scope i) there.0 there.1 where
          by_entry : (o : Option Held) (g : Held) → o ≡ Some g → (held_or h o).value ≡ value_or_unit o
          by_entry o g is = rw is refl
    content_same (to.Cell k) h can = refl
    content_same to.This h can = by_this (this_of s) place bound can where
      by_this : (o : Option Held) (place : Option Place) → Binds u.roots place o →
          CanBeWritten o → content_now (home_of to.This place) h (world (abstraction s n host) u)
          ≡ value_or_unit o
      by_this None place bound can = absurd can
      by_this (Some g) None bound can = absurd bound
      by_this (Some g) (Some p) bound can = ap (λ (o : Option Held). (or_unit o).value) bound

    -- where the host has no op-assignment of its name, its operator is asked after a mark
    pub failed_is : (m : Setup H) (a : AssignOp) (t : Target) (name : List ℕ) (h v : Held)
        (next : ℕ) (f : Frame) (x : Problem) → h.read_only ≡ false → CanHold s t →
        says_missing (name_of m.program a.op_assign_name) x ≡ true → is_stop m.stop n.passed ≡ false →
        op_assign_failed_at m (home_of t place) name a h v next f x (world (abstraction s n host) u)
        ≡ operator_at m (home_of t place) name (name_of m.program a.op_name) h
        (read_write (content_at s t)) v next f
        (record (world (abstraction s n host) u) { passed = n.passed + 1; trace = [] })
    failed_is m a t name h v next f x plain can missing goes =
        asked ∙ ap (λ (g : Held). operator_at m (home_of t place) name
        (name_of m.program a.op_name) h g v next f
        (record w { passed = n.passed + 1; trace = [] })) held_same where
          w : World H
          w = world (abstraction s n host) u

          now : Dynamic
          now = content_now (home_of t place) h w

          asked : op_assign_failed_at m (home_of t place) name a h v next f x w
              ≡ operator_at m (home_of t place) name (name_of m.program a.op_name) h
              (record h { value = now }) v next f
              (record w { passed = n.passed + 1; trace = [] })
          asked = rw (missing, goes) refl

          held_same : record h { value = now } ≡ read_write (content_at s t)
          held_same = flagged now h.read_only plain
              ∙ ap (λ (d : Dynamic). read_write d) (content_same t h can)
