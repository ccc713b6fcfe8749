-- Calls of pointers: of one that is the target of the call, and of one that is the first argument and has
-- the target as its receiver.
use Rattle.std.specs.Prelude.{◌≡◌, ◌⊎◌, ◌+◌, ℕ, zero, suc, List, ◌++◌, Option, Some, None, length, map}
use Rattle.grain_value.specs.declared.values.Dynamic.{Dynamic}
use Rattle.grain_value.specs.declared.values.FnPtr.{FnPtr}
use Rattle.grain_value.specs.declared.values.Held.{Held}
use Rattle.grain_value.specs.Cells.{flat}
use Rattle.grain_value.specs.Looking.{pointer_of}
use Rattle.grain_value.specs.Operands.{arguments, read_write, values_in}
use Rattle.grain_program.specs.declared.code.instruction_set.Op.{Op}
use Rattle.grain_program.specs.declared.code.instruction_set.Op.TheVariants as op
use Rattle.grain_program.specs.declared.code.functions.Function.{Function}
use Rattle.grain_program.specs.View.{View}
use Rattle.grain_means.specs.Worlds.{Frame, World}
use Rattle.grain_means.specs.Rules.{curried_in, flat_all, function_by_name, is_read_only, operand_under, spread}

-- the instruction calls a pointer on n arguments, and may do so with a receiver
abbrev pub IsMethodCall : ℕ → Op → Type 0
IsMethodCall n (op.CallFnPtrMethod k) = n ≡ k
IsMethodCall n (op.CallFnPtrOnLocal k slot) = n ≡ k
IsMethodCall n (op.CallFnPtrOnThis k) = n ≡ k
IsMethodCall n o = ⊥

-- what is held is a cell whose content is lent, or that is not there
abbrev pub IsLent : {S : Type 0} → World S → Held → Type 0
IsLent w h = flat w.cells h.value ≡ None

-- the operand under the last n is this pointer, as it is read
abbrev pub Points : {S : Type 0} → FnPtr → ℕ → Frame → World S → Type 0
Points p n f w = (v : Dynamic) × (flat w.cells (operand_under n f.operands).value ≡ Some v)
    × (pointer_of v ≡ Some p)

-- the operand under the last n is no pointer, as it is read
abbrev pub PointsNowhere : {S : Type 0} → ℕ → Frame → World S → Type 0
PointsNowhere n f w = (v : Dynamic) × (flat w.cells (operand_under n f.operands).value ≡ Some v)
    × (pointer_of v ≡ None)

-- The target of n + 1 arguments is no pointer, and the first of them is this one. So the target is its
-- receiver.
abbrev pub PointsFirst : {S : Type 0} → FnPtr → ℕ → Frame → World S → Type 0
PointsFirst p n f w = PointsNowhere (suc n) f w × Points p n f w

-- the target of this many arguments is a receiver
abbrev pub HasReceiver : {S : Type 0} → ℕ → Frame → World S → Type 0
HasReceiver zero f w = ⊥
HasReceiver (suc n) f w = (p : FnPtr) × PointsFirst p n f w

-- the receiver under n + 1 arguments, as a root: if it is a cell whose content can only be read, so can it
abbrev pub receiver : {S : Type 0} → ℕ → Frame → World S → Held
receiver n f w =
    let h = operand_under (n + 1) f.operands in record h { read_only = is_read_only w h }

-- what a pointer that has a receiver is called on besides: its values, and then the last n operands
abbrev pub args_beside : FnPtr → ℕ → Frame → List Held
args_beside p n f = curried_in p ++ map read_write (values_in (arguments n f.operands))

-- the function of such a pointer
abbrev pub function_beside : View → FnPtr → ℕ → Frame → Option Function
function_beside program p n f =
    function_by_name program p.name (length p.curry + length (values_in (arguments n f.operands)))

-- a call of this function, by the pointer under the last n operands, on these arguments
abbrev pub CallsPointed : {S : Type 0} → View → Function → List Held → ℕ → Frame → World S → Type 0
CallsPointed program g args n f w = (p : FnPtr) × Points p n f w
    × (function_by_name program p.name (length p.curry + n) ≡ Some g)
    × (args ≡ arguments (length p.curry + n) (spread p n f).operands)

-- a call of this function on these arguments, by the pointer that is the first of n + 1 arguments, under a
-- receiver
abbrev pub CallsUnder : {S : Type 0} → View → Function → List Held → ℕ → Op → Frame → World S → Type 0
CallsUnder program g args n o f w = (p : FnPtr) × IsMethodCall (suc n) o × PointsFirst p n f w
    × (function_beside program p n f ≡ Some g) × (args ≡ args_beside p n f)

-- the pointer under the last n operands, which has this name, is called on these arguments, and there is
-- no such function
abbrev pub MissesPointed : {S : Type 0} → View → List ℕ → List Held → ℕ → Frame → World S → Type 0
MissesPointed program name args n f w = (p : FnPtr) × Points p n f w × (name ≡ p.name) ×
    (flat_all w.cells (arguments (length p.curry + n) (spread p n f).operands) ≡ Some args) ×
    (function_by_name program p.name (length p.curry + n) ≡ None)

-- A call that may have a receiver, on this many arguments, asks for a pointer under the last n operands:
-- for its target, if there is no argument; and for its first argument, if its target is no pointer.
abbrev pub AsksEither : {S : Type 0} → ℕ → ℕ → Frame → World S → Type 0
AsksEither n zero f w = n ≡ 0
AsksEither n (suc k) f w = (n ≡ k) × PointsNowhere (suc k) f w

-- of a call of a pointer, under the last n operands: that is a lent cell, or an argument of a native is
abbrev pub PointedReadsLent : {S : Type 0} → View → ℕ → Frame → World S → Type 0
PointedReadsLent program n f w =
    IsLent w (operand_under n f.operands) ⊎ ((p : FnPtr) × Points p n f w ×
    (function_by_name program p.name (length p.curry + n) ≡ None) ×
    (flat_all w.cells (arguments (length p.curry + n) (spread p n f).operands) ≡ None))

-- of a call of a pointer that is the first of this many arguments: that is a lent cell, or an argument of
-- a native is, or the receiver that the native is to be lent
abbrev pub FirstReadsLent : {S : Type 0} → View → ℕ → Frame → World S → Type 0
FirstReadsLent program zero f w = ⊥
FirstReadsLent program (suc n) f w = PointsNowhere (suc n) f w ×
    (IsLent w (operand_under n f.operands) ⊎ ((p : FnPtr) × Points p n f w ×
    (function_beside program p n f ≡ None) ×
    ((flat_all w.cells (args_beside p n f) ≡ None) ⊎ IsLent w (receiver n f w))))

-- a call that may have a receiver, on n arguments, reads a lent cell
abbrev pub MethodReadsLent : {S : Type 0} → View → ℕ → Frame → World S → Type 0
MethodReadsLent program n f w = PointedReadsLent program n f w ⊎ FirstReadsLent program n f w
