-- What stands under the last operands of a pointer's instruction.
use Rattle.std.specs.Prelude.{◌≡◌, Option, Some, None}
use Rattle.grain_value.specs.declared.values.Dynamic.{Dynamic}
use Rattle.grain_value.specs.declared.values.FnPtr.{FnPtr}
use Rattle.grain_value.specs.Looking.{pointer_of}
use Rattle.grain_frame.specs.declared.pointers.Under.{Under}
use Rattle.grain_frame.specs.declared.pointers.Under.TheVariants as under

-- what is read there
abbrev pub StandsUnder : Under → Option Dynamic → Type 0
StandsUnder under.Pointer x =
    (v : Dynamic) × (p : FnPtr) × (x ≡ Some v) × (pointer_of v ≡ Some p)
StandsUnder under.Lent x = x ≡ None
StandsUnder under.Other x = (v : Dynamic) × (x ≡ Some v) × (pointer_of v ≡ None)
