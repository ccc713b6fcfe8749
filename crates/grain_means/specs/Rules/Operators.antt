-- Operators and op-assignments: the built-in, and else the host.
use Rattle.std.specs.Prelude.{ℕ, ◌+◌, List, [], ◌∷◌, Some, None, Bool, if◌then◌else◌}
use Rattle.grain_value.specs.declared.values.Dynamic.{Dynamic}
use Rattle.grain_value.specs.declared.values.Held.{Held}
use Rattle.grain_value.specs.Looking.{cell_of}
use Rattle.grain_value.specs.Operands.{top, below, read_write, values_in}
use Rattle.grain_fault.specs.Problems.{Problem, Plain, Arithmetic, DataTooLarge}
use Rattle.grain_program.specs.declared.code.parts.AssignOp.{AssignOp}
use Rattle.grain_program.specs.View.{View, name_of, token_of}
use Rattle.grain_global.specs.declared.engines.Engine.{Engine}
use Rattle.grain_ops.specs.Outcomes.{Outcome, NotBuiltIn, Gave, ArithmeticFault, TooLarge}
use Rattle.grain_ops.specs.Operators.{operation, assignment}
use Rattle.grain_means.specs.Worlds.{Frame, World, Act, Setup}
use Rattle.grain_host.specs.Signatures.{says_missing}
use Rattle.grain_means.specs.Rules.Frames.{stepped, is_read_only}
use Rattle.grain_means.specs.Rules.Faults.{marked, position, raised}
use Rattle.grain_means.specs.Rules.Going.{onward, pushed}
use Rattle.grain_means.specs.Rules.Reads.{flattened}
use Rattle.grain_means.specs.Rules.Entries.{at_slot, assigned_at, assignment_to_constant}
use Rattle.grain_means.specs.Rules.Homes.{Home, in_entry, content_now}
use Rattle.grain_means.specs.Rules.Natives.{native}

-- only if operators are fast is a built-in asked
abbrev pub if_fast : Bool → Outcome → Outcome
if_fast fast outcome = if fast then outcome else NotBuiltIn

-- what an operator on these operands gives, if operators are fast
abbrev pub operated : View → Engine → ℕ → List Held → Outcome
operated program engine token args =
    if_fast engine.fast_operators
    (operation engine.limits (token_of program token) (values_in args))

-- what an op-assignment of the second value to the first gives, if operators are fast
abbrev pub op_assigned : Engine → AssignOp → Dynamic → Dynamic → Outcome
op_assigned engine a u v =
    if_fast engine.fast_operators (assignment engine.limits a.op_assign u v)

module _ {S : Type 0} (m : Setup S) where
  -- The host's operator on copies of what is held and of the operand, whose value is assigned. Where this
  -- and the rules below write is `a`, which held h; faults call it by the name.
  abbrev pub operator_at : Home → List ℕ → List ℕ → Held → Held → Held → ℕ → Frame → World S →
      Act S
  operator_at a name op h u v next f w =
      native m op None (u ∷ v ∷ []) f w
      (λ r w1. flattened m (read_write r) name f w1 (λ q.
      assigned_at m a (record h { value = q }) name next f w1)) (raised m f)

  -- The fault of the host's op-assignment. Where it says that no function of that name is found, it is
  -- raised, at a mark, and passed over: its trace is gone, and the operator is asked, on what stands there
  -- then. Any other fault is raised.
  abbrev pub op_assign_failed_at : Home → List ℕ → AssignOp → Held → Held → ℕ → Frame → Problem →
      World S → Act S
  op_assign_failed_at a name o h v next f x w =
      if says_missing (name_of m.program o.op_assign_name) x then
      marked m f w (λ w1. operator_at a name (name_of m.program o.op_name) h
      (record h { value = content_now a h w1 }) v next f (record w1 { trace = [] }))
      else raised m f x w

  -- the host's op-assignment, to which what is written is lent
  abbrev pub native_assigned_at : Home → List ℕ → AssignOp → Held → Dynamic → Held → ℕ → Frame →
      World S → Act S
  native_assigned_at a name o h u v next f w =
      native m (name_of m.program o.op_assign_name)
      (Some (record { home = a; held = record h { value = u } })) (v ∷ []) f w
      (λ r w1. onward m f (stepped f next (below f.operands)) w1)
      (op_assign_failed_at a name o h v next f)

  -- what an op-assignment gives is written
  abbrev pub outcome_at : Home → List ℕ → Outcome → AssignOp → Held → Dynamic → Held → ℕ → Frame →
      World S → Act S
  outcome_at a name NotBuiltIn o h u v next f w = native_assigned_at a name o h u v next f w
  outcome_at a name (Gave r) o h u v next f w =
      assigned_at m a (record h { value = r }) name next f w
  outcome_at a name (ArithmeticFault text) o h u v next f w =
      raised m f (Plain (Arithmetic text) (position m f)) w
  outcome_at a name (TooLarge what) o h u v next f w =
      raised m f (Plain (DataTooLarge what) (position m f)) w

  -- the same in the entry of a slot, which held h, or in its cell
  abbrev pub entry_of_slot : Held → ℕ → Frame → Home
  entry_of_slot h slot f = in_entry (f.base + slot) (cell_of h.value)

  abbrev pub operator_assigned : List ℕ → Held → Held → Held → ℕ → ℕ → ℕ → Frame → World S →
      Act S
  operator_assigned name h u v slot n next f w =
      operator_at (entry_of_slot h slot f) (name_of m.program n) name h u v next f w

  abbrev pub op_assign_failed : AssignOp → Held → Held → ℕ → ℕ → ℕ → Frame → Problem → World S →
      Act S
  op_assign_failed o h v slot n next f x w =
      op_assign_failed_at (entry_of_slot h slot f) (name_of m.program n) o h v next f x w

  abbrev pub native_assigned : AssignOp → Held → Dynamic → Held → ℕ → ℕ → ℕ → Frame → World S →
      Act S
  native_assigned o h u v slot n next f w =
      native_assigned_at (entry_of_slot h slot f) (name_of m.program n) o h u v next f w

  abbrev pub store_outcome : Outcome → AssignOp → Held → Dynamic → Held → ℕ → ℕ → ℕ → Frame →
      World S → Act S
  store_outcome r o h u v slot n next f w =
      outcome_at (entry_of_slot h slot f) (name_of m.program n) r o h u v next f w

  abbrev pub assign_op : AssignOp → ℕ → ℕ → ℕ → Frame → World S → Act S
  assign_op a slot n next f w =
      at_slot m f slot w (λ h. flattened m (top f.operands) (name_of m.program n) f w (λ v.
      if is_read_only w h then assignment_to_constant m n f w else
      flattened m h (name_of m.program n) f w (λ u.
      store_outcome (op_assigned m.engine a u v) a h u (record (top f.operands) { value = v })
      slot n next f w)))

  -- what an operator gives, as the last operand
  abbrev pub push_outcome : Outcome → List ℕ → List Held → ℕ → List Held → Frame → World S →
      Act S
  push_outcome NotBuiltIn name args next operands f w =
      native m name None args f w (λ v w1. pushed m f next operands v w1) (raised m f)
  push_outcome (Gave v) name args next operands f w = pushed m f next operands v w
  push_outcome (ArithmeticFault text) name args next operands f w =
      raised m f (Plain (Arithmetic text) (position m f)) w
  push_outcome (TooLarge what) name args next operands f w =
      raised m f (Plain (DataTooLarge what) (position m f)) w
