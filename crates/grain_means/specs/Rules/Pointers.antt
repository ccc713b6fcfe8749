-- Pointers to functions: one is made of a name, values are put before their arguments, and they are
-- called.
use Rattle.std.specs.Prelude.{ℕ, ◌+◌, List, [], ◌++◌, Option, Some, None, length, map, codes, if◌then◌else◌}
use Rattle.grain_value.specs.declared.values.Dynamic.{Dynamic}
use Rattle.grain_value.specs.declared.values.Dynamic.TheVariants as dynamic
use Rattle.grain_value.specs.declared.values.Held.{Held}
use Rattle.grain_value.specs.Looking.{pointer_of, text_of}
use Rattle.grain_value.specs.declared.values.FnPtr.{FnPtr}
use Rattle.grain_value.specs.Operands.{top, below, under, arguments, read_write}
use Rattle.grain_value.specs.Pointers.{is_pointer_name}
use Rattle.grain_value.specs.View.{value_of}
use Rattle.grain_value.specs.Writing.{type_name_of}
use Rattle.grain_fault.specs.Problems.{Plain, FunctionNotFound, MismatchDataType}
use Rattle.grain_means.specs.Worlds.{Frame, World, Act, Setup}
use Rattle.grain_means.specs.Rules.Faults.{position, raised}
use Rattle.grain_means.specs.Rules.Going.{pushed}
use Rattle.grain_means.specs.Rules.Reads.{flattened}
use Rattle.grain_means.specs.Rules.Natives.{trees_in}
use Rattle.grain_means.specs.Rules.Calls.{function_by_name, call_function}

-- the values that stand before the arguments of a pointer's call, as arguments
abbrev pub curried_in : FnPtr → List Held
curried_in p = map (λ t. read_write (value_of t)) p.curry

-- the frame whose last operand but n, a pointer, is replaced by the pointer's values
abbrev pub spread : FnPtr → ℕ → Frame → Frame
spread p n f =
    record f { operands = under (n + 1) f.operands ++ curried_in p ++ arguments n f.operands }

-- the operand under the last n
abbrev pub operand_under : ℕ → List Held → Held
operand_under n hs = top (under n hs)

module _ {S : Type 0} (m : Setup S) where
  -- a value that is no pointer
  abbrev pub not_a_pointer : Dynamic → Frame → World S → Act S
  not_a_pointer v f w =
      raised m f (Plain (MismatchDataType (codes "Fn") (type_name_of v)) (position m f)) w

  -- a pointer of this name, which can be a function's
  abbrev pub pointer_named : Option (List ℕ) → Dynamic → ℕ → Frame → World S → Act S
  pointer_named None v next f w =
      raised m f (Plain (MismatchDataType (codes "string") (type_name_of v)) (position m f)) w
  pointer_named (Some s) v next f w =
      if is_pointer_name s
      then pushed m f next (below f.operands)
      (dynamic.Pointer (record { name = s; curry = [] })) w
      else raised m f (Plain (FunctionNotFound s) (position m f)) w

  -- a pointer to the functions of the name that the last operand is
  abbrev pub make_fn_ptr : ℕ → Frame → World S → Act S
  make_fn_ptr next f w =
      flattened m (top f.operands) [] f w (λ v. pointer_named (text_of v) v next f w)

  -- the last n operands go after the values of a pointer
  abbrev pub curried : Option FnPtr → Dynamic → ℕ → ℕ → Frame → World S → Act S
  curried None v n next f w = not_a_pointer v f w
  curried (Some p) v n next f w =
      pushed m f next (under (n + 1) f.operands) (dynamic.Pointer (record p {
        curry = p.curry ++ trees_in (arguments n f.operands);
      })) w

  abbrev pub curry : ℕ → ℕ → Frame → World S → Act S
  curry n next f w =
      flattened m (operand_under n f.operands) [] f w (λ v. curried (pointer_of v) v n next f w)

  -- the function of a pointer, on its values and the last n operands
  abbrev pub pointer_called : Option FnPtr → Dynamic → ℕ → ℕ → Frame → World S → Act S
  pointer_called None v n next f w = not_a_pointer v f w
  pointer_called (Some p) v n next f w =
      let count = length p.curry + n in
      call_function m (function_by_name m.program p.name count) p.name count (spread p n f) next w

  abbrev pub call_pointer : ℕ → ℕ → Frame → World S → Act S
  call_pointer n next f w =
      flattened m (operand_under n f.operands) [] f w
      (λ v. pointer_called (pointer_of v) v n next f w)
