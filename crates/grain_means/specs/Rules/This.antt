-- Instructions on the `this` of a frame.
use Rattle.std.specs.Prelude.{ℕ, [], Option, Some, None, if◌then◌else◌}
use Rattle.grain_value.specs.declared.values.Held.{Held}
use Rattle.grain_value.specs.Looking.{cell_of}
use Rattle.grain_value.specs.Operands.{top}
use Rattle.grain_fault.specs.declared.places.Position.{Position}
use Rattle.grain_fault.specs.Problems.{Plain, AssignmentToConstant, UnboundThis}
use Rattle.grain_program.specs.declared.code.parts.AssignOp.{AssignOp}
use Rattle.grain_means.specs.Worlds.{Place, Frame, World, Act, Setup}
use Rattle.grain_means.specs.Places.{look}
use Rattle.grain_means.specs.Rules.Frames.{stepped, is_read_only}
use Rattle.grain_means.specs.Rules.Faults.{position, raised}
use Rattle.grain_means.specs.Rules.Going.{onward, pushed}
use Rattle.grain_means.specs.Rules.Reads.{flattened}
use Rattle.grain_means.specs.Rules.Homes.{at_place_of}
use Rattle.grain_means.specs.Rules.Entries.{assigned_at}
use Rattle.grain_means.specs.Rules.Operators.{op_assigned, outcome_at}

module _ {S : Type 0} (m : Setup S) where
  -- What `go` does with the place of a frame's `this`. If the frame has none, that is a fault
  -- at this position.
  abbrev pub at_place : Option Place → Position → Frame → World S → (Place → Act S) → Act S
  at_place None q f w go = raised m f (Plain UnboundThis q) w
  at_place (Some p) q f w go = go p

  abbrev pub at_this : Frame → World S → (Place → Act S) → Act S
  at_this f w go = at_place f.this (position m f) f w go

  abbrev pub load_this : ℕ → Frame → World S → Act S
  load_this next f w =
      at_this f w (λ p. flattened m (look w.roots p) [] f w (λ v. pushed m f next f.operands v w))

  -- a cell stays a cell
  abbrev pub load_this_shared : ℕ → Frame → World S → Act S
  load_this_shared next f w =
      at_this f w (λ p. pushed m f next f.operands (look w.roots p).value w)

  abbrev pub require_this : ℕ → Frame → World S → Act S
  require_this next f w = at_this f w (λ p. onward m f (stepped f next f.operands) w)

  -- a fault if what is held is read-only, and else what `go` does
  abbrev pub unless_read_only : Held → Frame → World S → Act S → Act S
  unless_read_only h f w go =
      if is_read_only w h then raised m f (Plain (AssignmentToConstant []) (position m f)) w else go

  -- the last operand, as it is read, is assigned to `this`
  abbrev pub assign_this : ℕ → Frame → World S → Act S
  assign_this next f w =
      flattened m (top f.operands) [] f w (λ v. at_this f w (λ p.
      let h = look w.roots p in
      unless_read_only h f w
      (assigned_at m (at_place_of p (cell_of h.value)) (record h { value = v }) [] next f w)))

  -- the same by an op-assignment
  abbrev pub assign_this_op : AssignOp → ℕ → Frame → World S → Act S
  assign_this_op o next f w =
      flattened m (top f.operands) [] f w (λ v. at_this f w (λ p.
      let h = look w.roots p in
      unless_read_only h f w (flattened m h [] f w (λ u.
      outcome_at m (at_place_of p (cell_of h.value)) [] (op_assigned m.engine o u v) o h u
      (record (top f.operands) { value = v }) next f w))))
