-- Transfers on a truth value or on unit, and the cut of a scope.
use Rattle.std.specs.Prelude.{ℕ, not, [], Option, Some, None, Bool, true, false, if◌then◌else◌, nat_lt, length, take, codes}
use Rattle.grain_value.specs.declared.values.Dynamic.{Dynamic}
use Rattle.grain_value.specs.Looking.{truth_of}
use Rattle.grain_value.specs.Operands.{top, below}
use Rattle.grain_value.specs.Writing.{type_name_of}
use Rattle.grain_fault.specs.declared.faults.MalformedKind.TheVariants as kind
use Rattle.grain_fault.specs.Problems.{Plain, MismatchDataType, Malformed}
use Rattle.grain_means.specs.Worlds.{Frame, World, Act, Setup}
use Rattle.grain_means.specs.Rules.Frames.{stepped}
use Rattle.grain_means.specs.Rules.Faults.{position, raised}
use Rattle.grain_means.specs.Rules.Going.{onward, jumped}
use Rattle.grain_means.specs.Rules.Reads.{flattened}

-- whether a truth value is the one that is wanted
abbrev pub agrees : Bool → Bool → Bool
agrees true b = b
agrees false b = not b

module _ {S : Type 0} (m : Setup S) where
  -- a transfer, or on to the next instruction, without the last operand
  abbrev pub branched : Bool → ℕ → ℕ → Frame → World S → Act S
  branched taken target next f w =
      if taken then jumped m f (stepped f target (below f.operands)) w else
      onward m f (stepped f next (below f.operands)) w

  -- a value that is no truth value
  abbrev pub not_a_bool : Dynamic → Frame → World S → Act S
  not_a_bool v f w =
      raised m f (Plain (MismatchDataType (codes "bool") (type_name_of v)) (position m f)) w

  abbrev pub tested : Bool → Option Bool → Dynamic → ℕ → ℕ → Frame → World S → Act S
  tested wanted (Some b) v target next f w = branched (agrees wanted b) target next f w
  tested wanted None v target next f w = not_a_bool v f w

  -- a transfer where a truth value is the one that is wanted
  abbrev pub jump_if : Bool → ℕ → ℕ → Frame → World S → Act S
  jump_if wanted target next f w =
      flattened m (top f.operands) [] f w (λ v. tested wanted (truth_of v) v target next f w)

  -- a transfer unless the last operand, which stays, is unit
  abbrev pub skip : Bool → ℕ → ℕ → Frame → World S → Act S
  skip unit target next f w =
      if unit then onward m f (stepped f next f.operands) w
      else jumped m f (stepped f target f.operands) w

  -- the scope is cut to n entries
  abbrev pub unwind : ℕ → ℕ → Frame → World S → Act S
  unwind n next f w =
      if nat_lt (length w.scope) n
      then raised m f (Plain (Malformed (kind.UnwindPastScope n (length w.scope))) (position m f)) w
      else
      onward m f (stepped f next f.operands) (record w { scope = take n w.scope })
