-- Nothing is assigned to the entry of a slot, or to `this`, and a fault is raised.
use Rattle.std.proofs.Common.{◌≡◌, ◌∙◌, ◌+◌, ℕ, [], Option, Some, false, inl, inr, length, refl, sym, ap, subst}
use Rattle.grain_value.specs.declared.values.Held.{Held}
use Rattle.grain_value.specs.Cells.{flat}
use Rattle.grain_value.specs.Looking.{cell_of}
use Rattle.grain_value.specs.Operands.{read_write, top}
use Rattle.grain_value.specs.declared.values.Dynamic.{Dynamic}
use Rattle.grain_program.specs.View.{name_of}
use Rattle.grain_program.specs.declared.code.parts.AssignOp.{AssignOp}
use Rattle.grain_means.specs.Worlds.{Place, Setup, World}
use Rattle.grain_means.specs.Places.{find}
use Rattle.grain_means.specs.Rules.{assigned_at, at_place_of, assign, assign_op, assign_this, assign_this_op, flag_of_cell, held_at, in_entry, op_assigned, outcome_at, raised}
use Rattle.grain_means.specs.Simulation.{Binds, Environment, world}
use Rattle.grain_global.specs.StepsView.{StepsView}
use Rattle.grain_frame.specs.Abstraction.{abstraction, frame_in, this_of}
use Rattle.grain_frame.specs.Refusals.{FindsTarget, IsLentThere, Refuses, RefusesThis, refusal_fault}
use Rattle.grain_frame.specs.Targets.{CanBeLent, HoldsWritable, content_at, home_of}
use Rattle.grain_frame.specs.declared.targets.Target.{Target}
use Rattle.grain_frame.specs.declared.targets.Target.TheVariants as to
use Rattle.grain_frame.specs.lemmas.Bound.{bound_at_place, bound_nowhere}
use Rattle.grain_frame.specs.lemmas.Entries.{is_within}
use Rattle.grain_frame.proofs.Homes.{entry_home, this_home}
use Rattle.grain_frame.proofs.Targeting.{cell_holds, cell_lends, cell_read, held_plainly, held_value, left_plain, plain_there, right_plain}
use Rattle.grain_frame.specs.declared.activations.Activation.{Activation}
use Rattle.grain_frame.specs.declared.runs.Run.{Run}
use Rattle.grain_frame.specs.declared.targets.TargetRefusal.{TargetRefusal}
use Rattle.grain_frame.specs.declared.targets.TargetRefusal.TheVariants as refusal
use Rattle.grain_frame.specs.lemmas.Failing.{lent_raises}
use Rattle.grain_frame.proofs.Flattening.{value_there}

-- what was found to be a target
module _ {H : Type 0} (s : Run H) (here t : Target) (h : Held) (finds : FindsTarget s here t h)
    (lends : CanBeLent s here) (whole : content_at s here ≡ h.value)
    (holds : HoldsWritable s here) where
  -- it can be lent, and what it holds is what is read there
  pub found_lends : CanBeLent s t
  found_lends = subst (λ (q : Target). CanBeLent s q) (sym finds.found)
      (cell_lends s here h finds.free lends)

  pub found_content : flat s.cells h.value ≡ Some (content_at s t)
  found_content = subst (λ (q : Target). flat s.cells h.value ≡ Some (content_at s q))
      (sym finds.found) (cell_read s here h finds.free whole)

  pub found_holds : HoldsWritable s t
  found_holds = subst (λ (q : Target). HoldsWritable s q) (sym finds.found)
      (cell_holds s here h finds.free holds
      (right_plain h.read_only (flag_of_cell (cell_of h.value) s.cells) finds.writable))

-- it can be written
pub found_plain : {H : Type 0} (s : Run H) (here t : Target) (h : Held) → FindsTarget s here t h →
    h.read_only ≡ false
found_plain s here t h finds =
    left_plain h.read_only (flag_of_cell (cell_of h.value) s.cells) finds.writable

-- the same of the entry at an index
module _ {H : Type 0} (s : Run H) (i : ℕ) (t : Target) (h : Held)
    (finds : FindsTarget s (to.Entry i) t h) where
  entry_value : content_at s (to.Entry i) ≡ h.value
  entry_value = held_value (held_at s.scope i) h finds.there

  entry_plain : HoldsWritable s (to.Entry i)
  entry_plain = held_plainly (held_at s.scope i) h finds.there
      (found_plain s (to.Entry i) t h finds)

  pub entry_lends : CanBeLent s t
  entry_lends = found_lends s (to.Entry i) t h finds (is_within s.scope i h finds.there)
      entry_value entry_plain

  pub entry_content : flat s.cells h.value ≡ Some (content_at s t)
  entry_content = found_content s (to.Entry i) t h finds (is_within s.scope i h finds.there)
      entry_value entry_plain

  pub entry_holds : HoldsWritable s t
  entry_holds = found_holds s (to.Entry i) t h finds (is_within s.scope i h finds.there)
      entry_value entry_plain

  pub entry_is_home : (place : Option Place) → in_entry i (cell_of h.value) ≡ home_of t place
  entry_is_home place =
      sym (entry_home i (cell_of h.value) place)
      ∙ ap (λ (q : Target). home_of q place) (sym finds.found)

-- and of `this`
module _ {H : Type 0} (s : Run H) (t : Target) (h : Held)
    (finds : FindsTarget s to.This t h) where
  this_plain : HoldsWritable s to.This
  this_plain = held_plainly (this_of s) h finds.there (found_plain s to.This t h finds)

  this_can : CanBeLent s to.This
  this_can = plain_there (this_of s) h finds.there (found_plain s to.This t h finds)

  pub this_lends : CanBeLent s t
  this_lends = found_lends s to.This t h finds this_can (held_value (this_of s) h finds.there)
      this_plain

  pub this_content : flat s.cells h.value ≡ Some (content_at s t)
  this_content = found_content s to.This t h finds this_can (held_value (this_of s) h finds.there)
      this_plain

  pub this_holds : HoldsWritable s t
  this_holds = found_holds s to.This t h finds this_can (held_value (this_of s) h finds.there)
      this_plain

  pub this_is_home : (p : Place) → at_place_of p (cell_of h.value) ≡ home_of t (Some p)
  this_is_home p =
      sym (this_home p (cell_of h.value))
      ∙ ap (λ (q : Target). home_of q (Some p)) (sym finds.found)

module _ {H : Type 0} (m : Setup H) (f : Activation) (s : Run H) (n : StepsView) (host : H)
    (u : Environment) (place : Option Place) (slot name next : ℕ) where
  abbrev now : World H
  now = world (abstraction s n host) u

  pub assign_refused : (r : TargetRefusal) → Refuses s (f.base + slot) r →
      assign m slot name next (frame_in f s place) now
      ≡ raised m (frame_in f s place)
      (refusal_fault m.program (length s.scope) f.address (name_of m.program name) r) now
  assign_refused (refusal.NoEntry i) is = rw (is.1, is.0) refl
  assign_refused refusal.Unbound is = absurd is
  assign_refused refusal.Lent is = at is.0 is.1 is.2 where
    at : (h : Held) → held_at s.scope (f.base + slot) ≡ Some h → IsLentThere s h →
        assign m slot name next (frame_in f s place) now
        ≡ raised m (frame_in f s place) (refusal_fault m.program (length s.scope) f.address
        (name_of m.program name) refusal.Lent) now
    at h there (inl none) = rw (there, none) refl
    at h there (inr lent) =
        let read = value_there (flat s.cells (top s.stacks.operands).value) lent.0 in
        rw (there, read.1, lent.1) (lent_raises m h.value (in_entry (f.base + slot))
        (record h { value = read.0 }) (name_of m.program name) (frame_in f s place) now _
        (λ k. refl) lent.2)
  assign_refused refusal.Constant is =
      let constant = is.2 in
      let read = value_there (flat s.cells (top s.stacks.operands).value) constant.0 in
      rw (is.1, read.1, constant.1) refl

  pub op_refused : (a : AssignOp) (r : TargetRefusal) → Refuses s (f.base + slot) r →
      assign_op m a slot name next (frame_in f s place) now
      ≡ raised m (frame_in f s place)
      (refusal_fault m.program (length s.scope) f.address (name_of m.program name) r) now
  op_refused a (refusal.NoEntry i) is = rw (is.1, is.0) refl
  op_refused a refusal.Unbound is = absurd is
  op_refused a refusal.Lent is = at is.0 is.1 is.2 where
    at : (h : Held) → held_at s.scope (f.base + slot) ≡ Some h → IsLentThere s h →
        assign_op m a slot name next (frame_in f s place) now
        ≡ raised m (frame_in f s place) (refusal_fault m.program (length s.scope) f.address
        (name_of m.program name) refusal.Lent) now
    at h there (inl none) = rw (there, none) refl
    at h there (inr lent) =
        let read = value_there (flat s.cells (top s.stacks.operands).value) lent.0 in
        rw (there, read.1, lent.1, lent.2) refl
  op_refused a refusal.Constant is =
      let constant = is.2 in
      let read = value_there (flat s.cells (top s.stacks.operands).value) constant.0 in
      rw (is.1, read.1, constant.1) refl

-- the same of `this`, which is bound
module _ {H : Type 0} (m : Setup H) (f : Activation) (s : Run H) (n : StepsView) (host : H)
    (u : Environment) (place : Option Place) (bound : Binds u.roots place (this_of s))
    (next : ℕ) where
  abbrev met : World H
  met = world (abstraction s n host) u

  pub this_refused : (r : TargetRefusal) → RefusesThis s r →
      assign_this m next (frame_in f s place) met
      ≡ raised m (frame_in f s place)
      (refusal_fault m.program (length s.scope) f.address [] r) met
  this_refused (refusal.NoEntry i) is = absurd is
  this_refused refusal.Unbound is =
      let read = value_there (flat s.cells (top s.stacks.operands).value) is.0 in
      let nowhere = bound_nowhere u.roots place (this_of s) is.1 bound in
      rw (read.1, nowhere) refl
  this_refused refusal.Lent (inl none) = rw none refl
  this_refused refusal.Lent (inr is) =
      let lent = is.2 in
      let read = value_there (flat s.cells (top s.stacks.operands).value) lent.0 in
      let at = bound_at_place u.roots place (this_of s) is.0 is.1 bound in
      rw (read.1, at.1, at.2, lent.1) (lent_raises m is.0.value (at_place_of at.0)
      (record is.0 { value = read.0 }) [] (frame_in f s (Some at.0)) met _ (λ k. refl) lent.2)
  this_refused refusal.Constant is =
      let constant = is.2 in
      let read = value_there (flat s.cells (top s.stacks.operands).value) constant.0 in
      let at = bound_at_place u.roots place (this_of s) is.0 is.1 bound in
      rw (read.1, at.1, at.2, constant.1) refl

  pub this_op_refused : (a : AssignOp) (r : TargetRefusal) → RefusesThis s r →
      assign_this_op m a next (frame_in f s place) met
      ≡ raised m (frame_in f s place)
      (refusal_fault m.program (length s.scope) f.address [] r) met
  this_op_refused a (refusal.NoEntry i) is = absurd is
  this_op_refused a refusal.Unbound is =
      let read = value_there (flat s.cells (top s.stacks.operands).value) is.0 in
      let nowhere = bound_nowhere u.roots place (this_of s) is.1 bound in
      rw (read.1, nowhere) refl
  this_op_refused a refusal.Lent (inl none) = rw none refl
  this_op_refused a refusal.Lent (inr is) =
      let lent = is.2 in
      let read = value_there (flat s.cells (top s.stacks.operands).value) lent.0 in
      let at = bound_at_place u.roots place (this_of s) is.0 is.1 bound in
      rw (read.1, at.1, at.2, lent.1, lent.2) refl
  this_op_refused a refusal.Constant is =
      let constant = is.2 in
      let read = value_there (flat s.cells (top s.stacks.operands).value) constant.0 in
      let at = bound_at_place u.roots place (this_of s) is.0 is.1 bound in
      rw (read.1, at.1, at.2, constant.1) refl

  -- a value is written where `this` is held
  pub this_written : (t : Target) (h : Held) (v : Dynamic) → FindsTarget s to.This t h →
      flat s.cells (top s.stacks.operands).value ≡ Some v →
      assign_this m next (frame_in f s place) met
      ≡ assigned_at m (home_of t place) (read_write v) [] next (frame_in f s place) met
  this_written t h v finds read =
      let at = bound_at_place u.roots place (this_of s) h finds.there bound in
      by_place at.0 at.1 at.2 where
        by_place : (p : Place) → place ≡ Some p → find u.roots p ≡ Some h →
            assign_this m next (frame_in f s place) met
            ≡ assigned_at m (home_of t place) (read_write v) [] next (frame_in f s place) met
        by_place p here is = rw (
          here,
          read,
          is,
          finds.writable,
          found_plain s to.This t h finds,
          this_is_home s t h finds p,
        ) refl

  -- so is what an op-assignment gives
  pub this_op_written : (a : AssignOp) (t : Target) (h : Held) (v : Dynamic) →
      FindsTarget s to.This t h → flat s.cells (top s.stacks.operands).value ≡ Some v →
      assign_this_op m a next (frame_in f s place) met
      ≡ outcome_at m (home_of t place) [] (op_assigned m.engine a (content_at s t) v) a h
      (content_at s t) (record (top s.stacks.operands) { value = v }) next (frame_in f s place) met
  this_op_written a t h v finds read =
      let at = bound_at_place u.roots place (this_of s) h finds.there bound in
      by_place at.0 at.1 at.2 where
        by_place : (p : Place) → place ≡ Some p → find u.roots p ≡ Some h →
            assign_this_op m a next (frame_in f s place) met
            ≡ outcome_at m (home_of t place) [] (op_assigned m.engine a (content_at s t) v) a h
            (content_at s t) (record (top s.stacks.operands) { value = v }) next
            (frame_in f s place) met
        by_place p here is = rw (
          here,
          read,
          is,
          finds.writable,
          this_content s t h finds,
          this_is_home s t h finds p,
        ) refl
