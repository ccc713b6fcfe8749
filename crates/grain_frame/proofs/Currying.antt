-- Operands that go after the values of a pointer.
use Rattle.std.proofs.Common.{◌≡◌, ◌+◌, ℕ, ◌++◌, Some, None, refl}
use Rattle.grain_value.specs.Cells.{flat}
use Rattle.grain_value.specs.Looking.{pointer_of}
use Rattle.grain_value.specs.Operands.{arguments, under}
use Rattle.grain_value.specs.declared.values.Dynamic.{Dynamic}
use Rattle.grain_value.specs.declared.values.Dynamic.TheVariants as dynamic
use Rattle.grain_value.specs.declared.values.FnPtr.{FnPtr}
use Rattle.grain_means.specs.Worlds.{Setup, Frame, World}
use Rattle.grain_means.specs.Rules.{operand_under, curry, not_a_pointer, pushed, trees_in}

-- what stands under the operands is no pointer
pub curry_refused : {S : Type 0} (m : Setup S) (count next : ℕ) (f : Frame) (w : World S)
    (v : Dynamic) → flat w.cells (operand_under count f.operands).value ≡ Some v →
    pointer_of v ≡ None → curry m count next f w ≡ not_a_pointer m v f w
curry_refused m count next f w v read none = rw (read, none) refl

-- the operands go after the values of the pointer under them
pub curry_adds : {S : Type 0} (m : Setup S) (count next : ℕ) (f : Frame) (w : World S)
    (v : Dynamic) (q : FnPtr) → flat w.cells (operand_under count f.operands).value ≡ Some v →
    pointer_of v ≡ Some q → curry m count next f w
    ≡ pushed m f next (under (count + 1) f.operands) (dynamic.Pointer (record q {
      curry = q.curry ++ trees_in (arguments count f.operands);
    })) w
curry_adds m count next f w v q read points = rw (read, points) refl
